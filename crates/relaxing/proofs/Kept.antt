-- The rules of a trial, the kept constraints, and the numbers dropped.
--   keeps_one      the kept constraints are unique
--   put_back       "Putting back any one dropped constraint leaves no plan"
--   dropped-..     the numbers dropped: those of the constraints that are not kept, ascending, at most as many as there are rules
-- Assumes nothing.
use mathlib.Core.Path.{◌≡◌, refl, sym, ap, ap₂, ◌∙◌, fun_ext, subst}
use mathlib.Core.Logic.{◌⊎◌, inl, inr, ◌≢◌}
use mathlib.Core.Bool.{Bool, true, false, not, ◌||◌, false≢true}
use mathlib.Core.List.Memᴰ
use mathlib.Core.List.{List, [], ◌∷◌}
use Prim.Native.Nat.{ℕ, zero, suc, ◌≤◌, ◌<◌}
use native.Mathlib.Omega.{arith}
use lib.ListN.{length}
use Rattle.meaning.specs.Lists.{Is, ◌∈◌, cons_if, keep}
use Rattle.meaning.specs.Aggregates.{Atoms}
use Rattle.meaning.specs.Program.{Rule, Program}
use Rattle.meaning.specs.Answers.{AnswerSet}
use Rattle.numbered.specs.Numbered.{NumberedFrom, Numbered}
use Rattle.meaning.proofs.Tools.{clash, cases, not_is, is_not_lem, or_l, or_r, or_e, or_false}
use Rattle.meaning.proofs.Cond.{if_lt_yes, if_lt_no, if_eq_yes, if_eq_no, lt_case, eq_case}
use Rattle.numbered.proofs.Numbered.{numbered_in}
use Rattle.relaxing.specs.Relaxing.{headed, rules_from, rules_of, dropped_from, none_kept, with_number, kept_before, offered_rules, Keeps}
use Rattle.relaxing.proofs.Fewer.{Part, fewer_rules}

-- ---- members

module _ {A : Type 0} where
  cons_e : (b : Bool) {x : A} (y : A) {l : List A} → x ∈ cons_if b y l → (Is b × (x ≡ y)) ⊎ (x ∈ l)
  cons_e true y (Memᴰ.head e) = inl (refl, e)
  cons_e true y (Memᴰ.tail m) = inr m
  cons_e false y m = inr m

  cons_old : (b : Bool) {x : A} (y : A) {l : List A} → x ∈ l → x ∈ cons_if b y l
  cons_old true y m = Memᴰ.tail m
  cons_old false y m = m

  cons_new : (b : Bool) {x : A} (y : A) (l : List A) → Is b → x ≡ y → x ∈ cons_if b y l
  cons_new true y l h e = Memᴰ.head e
  cons_new false y l h e = absurd (false≢true h)

module _ (kept : ℕ → Bool) where
  pub rules_e : (i : ℕ) (P : Program) (r : Rule) → r ∈ rules_from kept i P → (k : ℕ) × NumberedFrom i P k r × Is (headed r || kept k)
  unfolding rules_from
  rules_e i [] r m = elim m [ ]
  rules_e i (s ∷ P) r m = at (λ k. rules_e (suc i) P r k) (cons_e (headed s || kept i) s m)
    where
      at : (r ∈ rules_from kept (suc i) P → (k : ℕ) × NumberedFrom (suc i) P k r × Is (headed r || kept k)) → (Is (headed s || kept i) × (r ≡ s)) ⊎ (r ∈ rules_from kept (suc i) P)
          → (k : ℕ) × NumberedFrom i (s ∷ P) k r × Is (headed r || kept k)
      at ih (inl t) = (i, inl (refl, t.1), subst (λ (u : Rule). Is (headed u || kept i)) (sym t.1) t.0)
      at ih (inr t) = let u = ih t in (u.0, inr u.1, u.2)

  pub rules_i : (i : ℕ) (P : Program) (k : ℕ) (r : Rule) → NumberedFrom i P k r → Is (headed r || kept k) → r ∈ rules_from kept i P
  unfolding rules_from
  rules_i i [] k r m h = absurd m
  rules_i i (s ∷ P) k r (inl m) h = cons_new (headed s || kept i) s (rules_from kept (suc i) P) (subst (λ (u : Rule). Is (headed u || kept i)) m.1 (subst (λ (j : ℕ). Is (headed r || kept j)) m.0 h)) m.1
  rules_i i (s ∷ P) k r (inr m) h = cons_old (headed s || kept i) s (rules_i (suc i) P k r m h)

  pub rules_part : (P : Program) → Part (rules_of P kept) P
  rules_part P r m = let t = rules_e 1 P r m in numbered_in 1 P t.0 r t.1

  -- ---- the numbers dropped

  pub dropped_e : (i : ℕ) (P : Program) (k : ℕ) → k ∈ dropped_from kept i P → (r : Rule) × NumberedFrom i P k r × (headed r ≡ false) × (kept k ≡ false)
  unfolding dropped_from
  dropped_e i [] k m = elim m [ ]
  dropped_e i (s ∷ P) k m = at (λ h. dropped_e (suc i) P k h) (cons_e (not (headed s || kept i)) i m)
    where
      at : (k ∈ dropped_from kept (suc i) P → (r : Rule) × NumberedFrom (suc i) P k r × (headed r ≡ false) × (kept k ≡ false)) → (Is (not (headed s || kept i)) × (k ≡ i)) ⊎ (k ∈ dropped_from kept (suc i) P)
          → (r : Rule) × NumberedFrom i (s ∷ P) k r × (headed r ≡ false) × (kept k ≡ false)
      at ih (inl t) = let u = or_false (headed s) (kept i) (not_is _ t.0) in (s, inl (t.1, refl), u.0, ap kept t.1 ∙ u.1)
      at ih (inr t) = let u = ih t in (u.0, inr u.1, u.2, u.3)

  pub dropped_i : (i : ℕ) (P : Program) (k : ℕ) (r : Rule) → NumberedFrom i P k r → headed r ≡ false → kept k ≡ false → k ∈ dropped_from kept i P
  unfolding dropped_from
  dropped_i i [] k r m h g = absurd m
  dropped_i i (s ∷ P) k r (inl m) h g =
      let a : (headed s || kept i) ≡ false = neither (headed s) (kept i) (ap headed (sym m.1) ∙ h) (ap kept (sym m.0) ∙ g) in
      cons_new (not (headed s || kept i)) i (dropped_from kept (suc i) P) (is_not_lem (headed s || kept i) a) m.0
    where
      neither : (a b : Bool) → a ≡ false → b ≡ false → (a || b) ≡ false
      neither true b e f = e
      neither false b e f = f
  dropped_i i (s ∷ P) k r (inr m) h g = cons_old (not (headed s || kept i)) i (dropped_i (suc i) P k r m h g)

  -- at most as many as there are rules
  pub dropped_fit : (i : ℕ) (P : Program) → length (dropped_from kept i P) ≤ length P
  unfolding dropped_from
  dropped_fit i [] = omega arith
  dropped_fit i (s ∷ P) = at (not (headed s || kept i)) (dropped_fit (suc i) P)
    where
      at : (b : Bool) → length (dropped_from kept (suc i) P) ≤ length P → length (cons_if b i (dropped_from kept (suc i) P)) ≤ length (s ∷ P)
      at true l = omega arith
      at false l = omega arith

-- ascending: each is above all before it, and i and more
abbrev pub Ascends : ℕ → List ℕ → Type 0
Ascends i [] = Unit {0}
Ascends i (k ∷ l) = (i ≤ k) × Ascends (suc k) l

ascends_more : (i j : ℕ) (l : List ℕ) → i ≤ j → Ascends j l → Ascends i l
ascends_more i j [] h a = a
ascends_more i j (k ∷ l) h a = (let b = a.0 in omega arith, a.1)

pub dropped_ascend : (kept : ℕ → Bool) (i : ℕ) (P : Program) → Ascends i (dropped_from kept i P)
unfolding dropped_from
dropped_ascend kept i [] = tt
dropped_ascend kept i (s ∷ P) = at (not (headed s || kept i)) (dropped_ascend kept (suc i) P)
  where
    at : (b : Bool) → Ascends (suc i) (dropped_from kept (suc i) P) → Ascends i (cons_if b i (dropped_from kept (suc i) P))
    at true a = (omega arith, a)
    at false a = ascends_more i (suc i) (dropped_from kept (suc i) P) (omega arith) a

-- ---- with no constraint kept: the rules that have a head

or_none : (b : Bool) → (b || false) ≡ b
or_none true = refl
or_none false = refl

heads_from : (i : ℕ) (P : Program) → rules_from none_kept i P ≡ keep headed P
unfolding rules_from
heads_from i [] = refl
heads_from i (r ∷ P) = ap₂ (λ (b : Bool) (Q : Program). cons_if b r Q) (or_none (headed r)) (heads_from (suc i) P)

pub heads_alone : (P : Program) → rules_of P none_kept ≡ keep headed P
heads_alone P = heads_from 1 P

-- ---- more kept, fewer answer sets

pub fewer_kept : (P : Program) (a b : ℕ → Bool) → ((i : ℕ) → Is (a i) → Is (b i)) → (X : Atoms) → AnswerSet (rules_of P b) X → AnswerSet (rules_of P a) X
fewer_kept P a b f X S = fewer_rules (rules_of P a) (rules_of P b) part cover X S
  where
    up : (r : Rule) (k : ℕ) → Is (headed r) ⊎ Is (a k) → Is (headed r || b k)
    up r k (inl h) = or_l _ _ h
    up r k (inr h) = or_r (headed r) _ (f k h)

    part : Part (rules_of P a) (rules_of P b)
    part r m = let t = rules_e a 1 P r m in rules_i b 1 P t.0 r t.1 (up r t.0 (or_e _ _ t.2))

    cover : (r : Rule) → r ∈ rules_of P b → (r ∈ rules_of P a) ⊎ (headed r ≡ false)
    cover r m = at (cases (headed r))
      where
        at : Is (headed r) ⊎ (headed r ≡ false) → (r ∈ rules_of P a) ⊎ (headed r ≡ false)
        at (inl h) = let t = rules_e b 1 P r m in inl (rules_i a 1 P t.0 r t.1 (or_l _ _ h))
        at (inr h) = inr h

-- ---- the kept constraints are unique

before_same : (a b : ℕ → Bool) (i : ℕ) → ((j : ℕ) → j < i → a j ≡ b j) → kept_before i a ≡ kept_before i b
before_same a b i f = fun_ext (λ j. at j (lt_case j i))
  where
    at : (j : ℕ) → (j < i) ⊎ (i ≤ j) → kept_before i a j ≡ kept_before i b j
    at j (inl l) = if_lt_yes j i (a j) false l ∙ f j l ∙ sym (if_lt_yes j i (b j) false l)
    at j (inr l) = if_lt_no j i (a j) false l ∙ sym (if_lt_no j i (b j) false l)

pub offered_same : (P : Program) (a b : ℕ → Bool) (i : ℕ) → ((j : ℕ) → j < i → a j ≡ b j) → offered_rules P a i ≡ offered_rules P b i
offered_same P a b i f = ap (λ (k : ℕ → Bool). rules_of P (with_number i k)) (before_same a b i f)

module _ (P : Program) (a b : ℕ → Bool) (K : Keeps P a) (L : Keeps P b) where
  no_other : (i : ℕ) → ((j : ℕ) → j < i → a j ≡ b j) → Is (a i) → b i ≡ false → ⊥
  no_other i f h g =
      let t = K.only i h in
      let s = K.keeps i t.0 t.1 t.2 h in
      L.drops i t.0 t.1 t.2 g s.0 (subst (λ (Q : Program). AnswerSet Q s.0) (offered_same P a b i f) s.1)

module _ (P : Program) (a b : ℕ → Bool) (K : Keeps P a) (L : Keeps P b) where
  same_to : (m i : ℕ) → i < m → a i ≡ b i
  same_to zero i l = absurd (omega arith)
  same_to (suc m) i l = at (λ j h. same_to m j (omega arith)) (cases (a i)) (cases (b i))
    where
      at : ((j : ℕ) → j < i → a j ≡ b j) → Is (a i) ⊎ (a i ≡ false) → Is (b i) ⊎ (b i ≡ false) → a i ≡ b i
      at f (inl x) (inl y) = x ∙ sym y
      at f (inr x) (inr y) = x ∙ sym y
      at f (inl x) (inr y) = absurd (no_other P a b K L i f x y)
      at f (inr x) (inl y) = absurd (no_other P b a L K i (λ j h. sym (f j h)) y x)

pub keeps_one : (P : Program) (a b : ℕ → Bool) → Keeps P a → Keeps P b → a ≡ b
keeps_one P a b K L = fun_ext (λ i. same_to P a b K L (suc i) i (omega arith))

-- ---- putting back

pub put_back : (P : Program) (kept : ℕ → Bool) → Keeps P kept → (i : ℕ) (r : Rule) → Numbered P i r → headed r ≡ false → kept i ≡ false → (X : Atoms) → AnswerSet (rules_of P (with_number i kept)) X → ⊥
put_back P kept K i r m h g X S = K.drops i r m h g X (fewer_kept P (with_number i (kept_before i kept)) (with_number i kept) less X S)
  where
    less : (j : ℕ) → Is (with_number i (kept_before i kept) j) → Is (with_number i kept j)
    less j t = at (eq_case j i) (lt_case j i)
      where
        at : (j ≡ i) ⊎ (j ≢ i) → (j < i) ⊎ (i ≤ j) → Is (with_number i kept j)
        at (inl e) d = if_eq_yes j i true (kept j) e
        at (inr n) (inl l) = if_eq_no j i true (kept j) n ∙ sym (if_lt_yes j i (kept j) false l) ∙ sym (if_eq_no j i true (kept_before i kept j) n) ∙ t
        at (inr n) (inr l) = absurd (clash t (if_eq_no j i true (kept_before i kept j) n ∙ if_lt_no j i (kept j) false l))
