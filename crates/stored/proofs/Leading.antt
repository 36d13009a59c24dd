-- The points follow the grammar: from the first point on, the code asks for the numbers that the sections of a table ask for. Assumes nothing.
use mathlib.Core.Path.{◌≡◌, refl, sym, ap, ◌∙◌, subst}
use mathlib.Core.Bool.{Bool, true, false}
use mathlib.Core.List.{List, ◌∷◌, map}
use Prim.Native.Nat.{ℕ, zero, suc, ◌≤◌}
use native.Mathlib.Omega.{arith}
use lib.IntN.{ℤ, nat_abs}
use lib.ListN.{length}
use Rattle.meaning.specs.Program.{Element, Aggregate}
use Rattle.table.specs.Roles.{count, member, Format, done, word, ◌>>=◌}
use Rattle.table.specs.Contents.{NumberedRule, Contents}
use Rattle.table.specs.Grammar.{times, members, list, atoms, elements, aggregate, rule, aggregates, rules}
use Rattle.table.proofs.Faults.{count_good}
use Rattle.stored.specs.Bytes.{sections}
use Rattle.stored.specs.Machine.{aggregate_next, element_next, rule_next, list_next, member_next, point_after, most_by, member_by, role_of, Fits, Leads}
use Rattle.stored.specs.declared.points.Point.{Point}
use Rattle.stored.specs.declared.points.Point.TheVariants as point

-- one format after another
module _ {A B : Type 0} (top : ℕ) where
  lead_bind : (p : Point) (F : Format A) (f : A → Format B) (Q : A → Point → Type 0) (R : B → Point → Type 0)
      → Leads top p F Q → ((x : A) (q : Point) → Q x q → Leads top q (f x) R) → Leads top p (F >>= f) R
  lead_bind p (done x) f Q R h k = k x p h
  lead_bind p (word role next) f Q R h k = (h.0, h.1, λ w g. lead_bind (point_after p (nat_abs w)) (next w) f Q R (h.2 w g) k)

-- what holds at the end may be said more weakly
module _ {A : Type 0} (top : ℕ) where
  lead_weaken : (p : Point) (F : Format A) (Q R : A → Point → Type 0) → Leads top p F Q → ((x : A) (q : Point) → Q x q → R x q) → Leads top p F R
  lead_weaken p (done x) Q R h k = k x p h
  lead_weaken p (word role next) Q R h k = (h.0, h.1, λ w g. lead_weaken (point_after p (nat_abs w)) (next w) Q R (h.2 w g) k)

-- a part that ends at a point, and what goes on from there
module _ {A B : Type 0} (top : ℕ) where
  lead_on : (p q : Point) (F : Format A) (f : A → Format B) (R : B → Point → Type 0)
      → Leads top p F (λ (x : A) (z : Point). z ≡ q) → ((x : A) → Leads top q (f x) R) → Leads top p (F >>= f) R
  lead_on p q F f R h k = lead_bind top p F f (λ (x : A) (z : Point). z ≡ q) R h (λ x z e. subst (λ (y : Point). Leads top y (f x) R) (sym e) (k x))

-- ---- lists

module _ (top g k l : ℕ) (signed : Bool) (most : ℕ) (asks : (q : ℕ) → Fits (member_by top g q l) × (role_of (member_by top g q l) ≡ member signed most q)) where
  members_lead : (p n : ℕ) → Leads top (member_next g k l p n) (members signed most p n) (λ (x : List ℤ) (q : Point). q ≡ list_next g k l)
  unfolding members
  members_lead p zero = refl
  members_lead p (suc n) = (
    (asks p).0,
    (asks p).1,
    λ w h. lead_on top (member_next g k l (nat_abs w) n) (list_next g k l) (members signed most (nat_abs w) n) (λ m. done (w ∷ m)) (λ (x : List ℤ) (q : Point). q ≡ list_next g k l) (members_lead (nat_abs w) n) (λ m. refl),
  )

  list_lead : (m : ℕ) → most_by l ≡ m → m ≤ 65535 → Leads top (point.Count g k l) (list m signed most) (λ (x : List ℤ) (q : Point). q ≡ list_next g k l)
  unfolding list
  list_lead m e h = (rw e h, ap count e, λ w f. members_lead 0 (nat_abs w))

module _ (top g k l : ℕ) (h : top ≤ 65535) where
  atoms_lead : (m : ℕ) → most_by (suc l) ≡ m → m ≤ 65535 → Leads top (point.Count g k (suc l)) (atoms m top) (λ (x : List ℕ) (q : Point). q ≡ point.Count g k l)
  unfolding atoms
  atoms_lead m e f =
      lead_on top (point.Count g k (suc l)) (point.Count g k l) (list m false top) (λ x. done (map nat_abs x)) (λ (x : List ℕ) (q : Point). q ≡ point.Count g k l)
      (list_lead top g k (suc l) false top (λ q. (h, refl)) m e f) (λ x. refl)

-- ---- several parts of one kind

module _ {A : Type 0} (top : ℕ) (next : ℕ → Point) (F : Format A) (each : (k : ℕ) → Leads top (next (suc k)) F (λ (x : A) (q : Point). q ≡ next k)) where
  times_lead : (n : ℕ) → Leads top (next n) (times n F) (λ (xs : List A) (q : Point). (q ≡ next 0) × (length xs ≡ n))
  unfolding times
  times_lead zero = (refl, refl)
  times_lead (suc n) =
      lead_on top (next (suc n)) (next n) F (λ x. times n F >>= λ xs. done (x ∷ xs)) (λ (xs : List A) (q : Point). (q ≡ next 0) × (length xs ≡ suc n)) (each n)
      (λ x. lead_bind top (next n) (times n F) (λ xs. done (x ∷ xs)) (λ (xs : List A) (q : Point). (q ≡ next 0) × (length xs ≡ n)) (λ (xs : List A) (q : Point). (q ≡ next 0) × (length xs ≡ suc n)) (times_lead n)
      (λ xs q e. (e.0, ap suc e.1)))

-- ---- aggregates

module _ (top g k : ℕ) (h : top ≤ 65535) where
  elements_lead : (p n : ℕ) → Leads top (element_next g k p n) (elements top p n) (λ (x : List Element) (q : Point). q ≡ aggregate_next g k)
  unfolding elements
  elements_lead p zero = refl
  elements_lead p (suc n) = (
    omega arith,
    refl,
    λ v f. (
      h,
      refl,
      λ w e. lead_on top (element_next g k (nat_abs w) n) (aggregate_next g k) (elements top (nat_abs w) n) (λ es. done (record { value = nat_abs v; atom = nat_abs w } ∷ es)) (λ (x : List Element) (q : Point). q ≡ aggregate_next g k) (elements_lead (nat_abs w) n) (λ es. refl),
    ),
  )

  aggregate_lead : Leads top (point.Function g k) (aggregate top) (λ (x : Aggregate) (q : Point). q ≡ aggregate_next g k)
  unfolding aggregate
  aggregate_lead = (
    omega arith,
    refl,
    λ f a. (
      omega arith,
      refl,
      λ c b. (
        tt,
        refl,
        λ t d. (omega arith, refl, λ n e. lead_on top (element_next g k 0 (nat_abs n)) (aggregate_next g k) (elements top 0 (nat_abs n)) _ (λ (x : Aggregate) (q : Point). q ≡ aggregate_next g k) (elements_lead 0 (nat_abs n)) (λ es. refl)),
      ),
    ),
  )

-- ---- rules

module _ (top g k : ℕ) (h : top ≤ 65535) (m : g ≤ 32767) where
  rule_lead : Leads top (point.Count g k 3) (rule top g) (λ (x : NumberedRule) (q : Point). q ≡ rule_next g k)
  unfolding rule
  rule_lead =
      lead_on top (point.Count g k 3) (point.Count g k 2) (atoms 16 top) _ (λ (x : NumberedRule) (q : Point). q ≡ rule_next g k) (atoms_lead top g k 2 h 16 refl (omega arith))
      (λ a. lead_on top (point.Count g k 2) (point.Count g k 1) (atoms 64 top) _ (λ (x : NumberedRule) (q : Point). q ≡ rule_next g k) (atoms_lead top g k 1 h 64 refl (omega arith))
      (λ b. lead_on top (point.Count g k 1) (point.Count g k 0) (atoms 64 top) _ (λ (x : NumberedRule) (q : Point). q ≡ rule_next g k) (atoms_lead top g k 0 h 64 refl (omega arith))
      (λ c. lead_on top (point.Count g k 0) (rule_next g k) (list 8 true g) _ (λ (x : NumberedRule) (q : Point). q ≡ rule_next g k)
      (list_lead top g k 0 true g (λ q. (m, refl)) 8 refl (omega arith)) (λ d. refl))))

-- ---- the sections

module _ (n : ℕ) (h : n ≤ 256) where
  aggregates_lead : Leads n point.Aggregates (aggregates n) (λ (gs : List Aggregate) (q : Point). (q ≡ point.Rules (length gs)) × (length gs ≤ 64))
  unfolding aggregates
  aggregates_lead = (
    omega arith,
    refl,
    λ w f. let b = (count_good 64 0 w (f 0)).1 in
        lead_after (nat_abs w) (times (nat_abs w) (aggregate n)) b (times_lead n (aggregate_next (nat_abs w)) (aggregate n) (λ k. aggregate_lead n (nat_abs w) k (omega arith)) (nat_abs w)),
  )
    where
      lead_after : (g : ℕ) (F : Format (List Aggregate)) → g ≤ 64
          → Leads n (aggregate_next g g) F (λ (gs : List Aggregate) (q : Point). (q ≡ point.Rules g) × (length gs ≡ g))
          → Leads n (aggregate_next g g) F (λ (gs : List Aggregate) (q : Point). (q ≡ point.Rules (length gs)) × (length gs ≤ 64))
      lead_after g F b l = lead_weaken n (aggregate_next g g) F _ _ l (λ gs q e. (e.0 ∙ ap point.Rules (sym e.1), rw e.1 b))

  rules_lead : (g : ℕ) → g ≤ 64 → Leads n (point.Rules g) (rules n g) (λ (rs : List NumberedRule) (q : Point). q ≡ point.End)
  unfolding rules
  rules_lead g b = (
    omega arith,
    refl,
    λ w f. lead_weaken n (rule_next g (nat_abs w)) (times (nat_abs w) (rule n g)) _ _
        (times_lead n (rule_next g) (rule n g) (λ k. rule_lead n g k (omega arith) (omega arith)) (nat_abs w)) (λ rs q e. e.0),
  )

  pub sections_lead : Leads n point.Aggregates (sections n) (λ (c : Contents) (q : Point). q ≡ point.End)
  unfolding sections
  sections_lead =
      lead_bind n point.Aggregates (aggregates n) _ _ (λ (c : Contents) (q : Point). q ≡ point.End) aggregates_lead
      (λ gs q e. subst (λ (z : Point). Leads n z (rules n (length gs) >>= λ rs. done (record { atoms = n; aggregates = gs; rules = rs })) (λ (c : Contents) (q : Point). q ≡ point.End)) (sym e.0)
      (lead_on n (point.Rules (length gs)) point.End (rules n (length gs)) (λ rs. done (record { atoms = n; aggregates = gs; rules = rs })) (λ (c : Contents) (q : Point). q ≡ point.End) (rules_lead (length gs) e.1) (λ rs. refl)))
