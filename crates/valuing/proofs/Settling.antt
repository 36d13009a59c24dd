-- What is blamed settles the aggregate: its atoms are defined element atoms, and every interpretation that agrees with their present values gives the aggregate its
-- present value. Only `aggregate_right` and `value_same` are used of the values.
-- Assumes nothing.
use Prim.Native.Nat.{ℕ}
use mathlib.Core.Path.{◌≡◌, refl, sym, ap, ap₂, ◌∙◌, subst}
use mathlib.Core.Logic.{◌⊎◌, inl, inr}
use mathlib.Core.Bool.{Bool, true, false, cond, not, ◌&&◌, ◌||◌}
use mathlib.Core.List.Memᴰ
use mathlib.Core.List.{List, [], ◌∷◌, ◌++◌, map}
use Rattle.meaning.specs.Lists.{Is, ◌∈◌, any, cons_if, has}
use Rattle.meaning.specs.Aggregates.{Atoms, values, value_of, compares, compared}
use Rattle.meaning.specs.declared.Function.{Function}
use Rattle.meaning.specs.declared.Function.TheVariants.{Count, Sum, Min, Max}
use Rattle.interpretation.specs.State.{Cell, undefined, defined, truth_of, Defined}
use Rattle.interpretation.specs.declared.Value.{Value}
use Rattle.interpretation.specs.declared.Value.TheVariants.{True, False, Undefined}
use Rattle.valuing.specs.Values.{says_true, says_false, says_undefined, lowest_of, highest_of, possibly, between, decide, passes_alone, asks_each, value_by, aggregate_value}
use Rattle.meaning.specs.Program.{Element, Aggregate}
use Rattle.valuing.specs.Exact.{Completes}
use Rattle.valuing.specs.Settling.{known_if, restricted, settles, is_false, is_defined, atoms_that, runs, singles, tried, first_that, settling_of}
use Rattle.meaning.proofs.Tools.{clash, not_is, has_i, has_e}
use Rattle.meaning.proofs.Least.{values_same}
use Rattle.valuing.proofs.Compared.{lowest_completes}
use Rattle.valuing.proofs.Exact.{differ, aggregate_right}

-- ---- the value depends on the elements' cells alone

module _ (g : Aggregate) (a b : ℕ → Cell) (h : (e : Element) → e ∈ g.elements → a e.atom ≡ b e.atom) where
  low_same : values (lowest_of a) g.elements ≡ values (lowest_of b) g.elements
  low_same = values_same (lowest_of a) (lowest_of b) g.elements (λ e m. ap truth_of (h e m))

  high_same : values (highest_of a) g.elements ≡ values (highest_of b) g.elements
  high_same = values_same (highest_of a) (highest_of b) g.elements (λ e m. ap possibly (h e m))

  abbrev test : List ℕ → Bool
  test vs = compares g.comparison g.threshold (value_of g.function vs)

  by_same : (c : Bool) → value_by c a g ≡ value_by c b g
  unfolding compared
  by_same false = ap₂ (λ (v w : List ℕ). between (test v) (test w)) low_same high_same
  by_same true = ap₂ (λ (v w : List ℕ). decide (test v && test w) (any (λ x. not (passes_alone g x)) v || not (any (passes_alone g) w))) low_same high_same

  pub value_same : aggregate_value a g ≡ aggregate_value b g
  unfolding aggregate_value
  value_same = by_same (asks_each g.function g.comparison)

pub value_cases : (v : Value) → (v ≡ True) ⊎ ((v ≡ False) ⊎ (v ≡ Undefined))
value_cases True = inl refl
value_cases False = inr (inl refl)
value_cases Undefined = inr (inr refl)

-- ---- what is known with some atoms alone

known_part : (b : Bool) (c : Cell) (v : Bool) (l : ℕ) → known_if b c ≡ defined v l → Is b × (c ≡ defined v l)
known_part true c v l e = (refl, e)
known_part false c v l e = absurd (clash {b = true} refl (ap is_defined (sym e)))

pub restricted_part : (S : List ℕ) (a : ℕ → Cell) (p : ℕ) (v : Bool) (l : ℕ) → restricted S a p ≡ defined v l → (p ∈ S) × (a p ≡ defined v l)
restricted_part S a p v l e = let t = known_part (has p S) (a p) v l e in (has_e S t.0, t.1)

not_undefined : (v : Value) → Is (not (says_undefined v)) → v ≡ Undefined → ⊥
not_undefined v h e = clash (ap says_undefined e) (not_is _ h)

says_not : (v : Value) → (v ≡ Undefined → ⊥) → Is (not (says_undefined v))
says_not True f = refl
says_not False f = refl
says_not Undefined f = absurd (f refl)

-- a set that settles gives the present value
module _ (a : ℕ → Cell) (g : Aggregate) (S : List ℕ) where
  complete_part : (X : Atoms) → Completes a g.elements X → Completes (restricted S a) g.elements X
  complete_part X C e m v l h = C e m v l (restricted_part S a e.atom v l h).1

  -- with the atoms S the aggregate is v, and it is not undefined at present: it is v
  pub settled_value : Is (settles a g S) → (aggregate_value a g ≡ Undefined → ⊥) → aggregate_value (restricted S a) g ≡ aggregate_value a g
  unfolding settles
  settled_value h n = at (value_cases (aggregate_value (restricted S a) g)) (value_cases (aggregate_value a g))
    where
      low : Completes a g.elements (lowest_of a)
      low = lowest_completes a g.elements

      part : Completes (restricted S a) g.elements (lowest_of a)
      part = complete_part (lowest_of a) low

      Cases : Value → Type 0
      Cases v = (v ≡ True) ⊎ ((v ≡ False) ⊎ (v ≡ Undefined))

      at : Cases (aggregate_value (restricted S a) g) → Cases (aggregate_value a g) → aggregate_value (restricted S a) g ≡ aggregate_value a g
      at (inr (inr x)) y = absurd (not_undefined _ h x)
      at (inl x) (inr (inr y)) = absurd (n y)
      at (inr (inl x)) (inr (inr y)) = absurd (n y)
      at (inl x) (inl y) = x ∙ sym y
      at (inr (inl x)) (inr (inl y)) = x ∙ sym y
      at (inl x) (inr (inl y)) = absurd (clash ((aggregate_right (restricted S a) g).always x (lowest_of a) part) ((aggregate_right a g).never y (lowest_of a) low))
      at (inr (inl x)) (inl y) = absurd (clash ((aggregate_right a g).always y (lowest_of a) low) ((aggregate_right (restricted S a) g).never x (lowest_of a) part))

-- ---- the elements' atoms

pub atoms_in_lem : (f : Cell → Bool) (a : ℕ → Cell) (es : List Element) (e : Element) → e ∈ es → Is (f (a e.atom)) → e.atom ∈ atoms_that f a es
atoms_in_lem f a (d ∷ es) e (Memᴰ.head q) h =
    let k : Is (f (a d.atom)) = ap (λ (z : Element). f (a z.atom)) (sym q) ∙ h in
    rw k (Memᴰ.head (ap (λ (z : Element). z.atom) q))
atoms_in_lem f a [] e x'' h = elim x'' [ ]
atoms_in_lem f a (d ∷ es) e (Memᴰ.tail m) h = at (f (a d.atom)) (atoms_in_lem f a es e m h)
  where
    at : (b : Bool) → e.atom ∈ atoms_that f a es → e.atom ∈ cons_if b d.atom (atoms_that f a es)
    at true k = Memᴰ.tail k
    at false k = k

pub atoms_from_lem : (f : Cell → Bool) (a : ℕ → Cell) (es : List Element) (p : ℕ) → p ∈ atoms_that f a es → (e : Element) × (e ∈ es) × (p ≡ e.atom) × Is (f (a p))
atoms_from_lem f a [] p m = absurd (Memᴰ.not-nil m)
atoms_from_lem f a (d ∷ es) p m = at (f (a d.atom)) refl m (λ k. atoms_from_lem f a es p k)
  where
    Out : List Element → Type 0
    Out ds = (e : Element) × (e ∈ ds) × (p ≡ e.atom) × Is (f (a p))

    up : Out es → Out (d ∷ es)
    up t = (t.0, Memᴰ.tail t.1, t.2, t.3)

    at : (b : Bool) → f (a d.atom) ≡ b → p ∈ cons_if b d.atom (atoms_that f a es) → (p ∈ atoms_that f a es → Out es) → Out (d ∷ es)
    at false e k rest = up (rest k)
    at true e k rest = pick (Memᴰ.cases_cons k)
      where
        pick : (p ≡ d.atom) ⊎ (p ∈ atoms_that f a es) → Out (d ∷ es)
        pick (inl q) = (d, Memᴰ.head refl, q, ap (λ (x : ℕ). f (a x)) q ∙ e)
        pick (inr n) = up (rest n)

-- all defined elements settle what is settled
all_known : (a : ℕ → Cell) (es : List Element) (e : Element) → e ∈ es → restricted (atoms_that is_defined a es) a e.atom ≡ a e.atom
all_known a es e m = at (a e.atom) refl
  where
    none : (b : Bool) → known_if b undefined ≡ undefined
    none true = refl
    none false = refl

    at : (c : Cell) → a e.atom ≡ c → known_if (has e.atom (atoms_that is_defined a es)) (a e.atom) ≡ a e.atom
    at undefined q = rw q (none (has e.atom (atoms_that is_defined a es)))
    at (defined v l) q = ap (λ (b : Bool). known_if b (a e.atom)) (has_i (atoms_in_lem is_defined a es e m (ap is_defined q)))

pub all_settle : (a : ℕ → Cell) (g : Aggregate) → (aggregate_value a g ≡ Undefined → ⊥) → Is (settles a g (atoms_that is_defined a g.elements))
unfolding settles
all_settle a g n = says_not _ (λ e. n (sym (value_same g (restricted (atoms_that is_defined a g.elements) a) a (all_known a g.elements)) ∙ e))

-- ---- what is chosen

first_settles : (f : List ℕ → Bool) (Ts : List (List ℕ)) (S : List ℕ) → Is (f S) → Is (f (first_that f Ts S))
first_settles f [] S h = h
first_settles f (T ∷ Ts) S h = at (f T) refl (first_settles f Ts S h)
  where
    at : (b : Bool) → f T ≡ b → Is (f (first_that f Ts S)) → Is (f (cond b T (first_that f Ts S)))
    at true e k = e
    at false e k = k

-- each set that is tried holds members of D only
abbrev Parts : List ℕ → List (List ℕ) → Type 0
Parts D Ts = (T : List ℕ) → T ∈ Ts → (p : ℕ) → p ∈ T → p ∈ D

first_part : (f : List ℕ → Bool) (Ts : List (List ℕ)) (D : List ℕ) → Parts D Ts → (p : ℕ) → p ∈ first_that f Ts D → p ∈ D
first_part f [] D h p m = m
first_part f (T ∷ Ts) D h p m = at (f T) m (first_part f Ts D (λ U n. h U (Memᴰ.tail n)) p)
  where
    at : (b : Bool) → p ∈ cond b T (first_that f Ts D) → (p ∈ first_that f Ts D → p ∈ D) → p ∈ D
    at true k g = h T (Memᴰ.head refl) p k
    at false k g = g k

parts_join : (D : List ℕ) (Ts Us : List (List ℕ)) → Parts D Ts → Parts D Us → Parts D (Ts ++ Us)
parts_join D [] Us f g T m = g T m
parts_join D (V₁ ∷ Ts) Us f g T m = at (Memᴰ.cases_cons m) (λ k. parts_join D Ts Us (λ U n. f U (Memᴰ.tail n)) g T k)
  where
    at : (T ≡ V₁) ⊎ (T ∈ Ts ++ Us) → (T ∈ Ts ++ Us → (p : ℕ) → p ∈ T → p ∈ D) → (p : ℕ) → p ∈ T → p ∈ D
    at (inl e) h = f T (Memᴰ.head e)
    at (inr k) h = h k

parts_map : {A : Type 0} (D : List ℕ) (f : A → List ℕ) (l : List A) → ((x : A) → x ∈ l → (p : ℕ) → p ∈ f x → p ∈ D) → Parts D (map f l)
parts_map D f [] h T m = absurd (Memᴰ.not-nil m)
parts_map D f (x ∷ l) h T m = at (Memᴰ.cases_cons m) (λ k. parts_map D f l (λ y n. h y (Memᴰ.tail n)) T k)
  where
    at : (T ≡ f x) ⊎ (T ∈ map f l) → (T ∈ map f l → (p : ℕ) → p ∈ T → p ∈ D) → (p : ℕ) → p ∈ T → p ∈ D
    at (inl e) rest p k = h x (Memᴰ.head refl) p (subst (λ (U : List ℕ). p ∈ U) e k)
    at (inr n) rest p k = rest n p k

none_part : (D : List ℕ) (T : List ℕ) → T ≡ [] → (p : ℕ) → p ∈ T → p ∈ D
none_part D T e p m = absurd (Memᴰ.not-nil (subst (λ (U : List ℕ). p ∈ U) e m))

runs_part : (D S : List ℕ) → ((p : ℕ) → p ∈ S → p ∈ D) → Parts D (runs S)
runs_part D [] h T m = at (Memᴰ.cases_cons m)
  where
    at : (T ≡ []) ⊎ (T ∈ []) → (p : ℕ) → p ∈ T → p ∈ D
    at (inl e) = none_part D T e
    at (inr k) = absurd (Memᴰ.not-nil k)
runs_part D (q ∷ S) h T m = at (Memᴰ.cases_cons m) (runs_part D S (λ p k. h p (Memᴰ.tail k)))
  where
    at : (T ≡ []) ⊎ (T ∈ map (λ (U : List ℕ). q ∷ U) (runs S)) → Parts D (runs S) → (p : ℕ) → p ∈ T → p ∈ D
    at (inl e) rest = none_part D T e
    at (inr k) rest = parts_map D (λ (U : List ℕ). q ∷ U) (runs S) (λ U n p j. pick U n p (Memᴰ.cases_cons j)) T k
      where
        pick : (U : List ℕ) → U ∈ runs S → (p : ℕ) → (p ≡ q) ⊎ (p ∈ U) → p ∈ D
        pick U n p (inl e) = h p (Memᴰ.head e)
        pick U n p (inr j) = rest U n p j

single_part : (D S : List ℕ) → ((p : ℕ) → p ∈ S → p ∈ D) → Parts D (singles S)
single_part D S h = parts_map D (λ (p : ℕ). p ∷ []) S (λ q n p j. at q n p (Memᴰ.cases_cons j))
  where
    at : (q : ℕ) → q ∈ S → (p : ℕ) → (p ≡ q) ⊎ (p ∈ []) → p ∈ D
    at q n p (inl e) = subst (λ (x : ℕ). x ∈ D) (sym e) (h q n)
    at q n p (inr k) = absurd (Memᴰ.not-nil k)

tried_part : (f : Function) (T F D : List ℕ) → ((p : ℕ) → p ∈ T → p ∈ D) → ((p : ℕ) → p ∈ F → p ∈ D) → Parts D (tried f T F D)
tried_part Count T F D s t = parts_join D (runs T) (runs F) (runs_part D T s) (runs_part D F t)
tried_part Sum T F D s t = parts_join D (runs T) (runs F) (runs_part D T s) (runs_part D F t)
tried_part Min T F D s t = single_part D D (λ p k. k)
tried_part Max T F D s t = single_part D D (λ p k. k)

two_parts : (D T F : List ℕ) → ((p : ℕ) → p ∈ T → p ∈ D) → ((p : ℕ) → p ∈ F → p ∈ D) → Parts D (T ∷ F ∷ [])
two_parts D T F s t U m = at (Memᴰ.cases_cons m)
  where
    last : (U ≡ F) ⊎ (U ∈ []) → (p : ℕ) → p ∈ U → p ∈ D
    last (inl e) p k = t p (subst (λ (W : List ℕ). p ∈ W) e k)
    last (inr k) p j = absurd (Memᴰ.not-nil k)

    at : (U ≡ T) ⊎ (U ∈ F ∷ []) → (p : ℕ) → p ∈ U → p ∈ D
    at (inl e) p k = s p (subst (λ (W : List ℕ). p ∈ W) e k)
    at (inr k) p j = last (Memᴰ.cases_cons k) p j

pub true_defined : (c : Cell) → Is (truth_of c) → Is (is_defined c)
true_defined undefined h = h
true_defined (defined v l) h = refl

pub false_defined : (c : Cell) → Is (is_false c) → Is (is_defined c)
false_defined undefined h = h
false_defined (defined v l) h = refl

is_defined_lem : (a : ℕ → Cell) (p : ℕ) → Is (is_defined (a p)) → Defined a p
is_defined_lem a p h = at (a p) refl h
  where
    at : (c : Cell) → a p ≡ c → Is (is_defined c) → Defined a p
    at undefined e k = absurd (clash k refl)
    at (defined v l) e k = (v, l, e)

module _ (a : ℕ → Cell) (g : Aggregate) where
  abbrev D : List ℕ
  D = atoms_that is_defined a g.elements

  some_defined : (f : Cell → Bool) → ((c : Cell) → Is (f c) → Is (is_defined c)) → (p : ℕ) → p ∈ atoms_that f a g.elements → p ∈ D
  some_defined f h p m =
      let t = atoms_from_lem f a g.elements p m in
      subst (λ (x : ℕ). x ∈ D) (sym t.2) (atoms_in_lem is_defined a g.elements t.0 t.1 (h _ (ap (λ (x : ℕ). f (a x)) (sym t.2) ∙ t.3)))

  -- THE LAW, first part: what is chosen are defined atoms of elements
  pub chosen_defined : (p : ℕ) → p ∈ settling_of a g → Defined a p × ((e : Element) × (e ∈ g.elements) × (p ≡ e.atom))
  unfolding settling_of
  chosen_defined p m =
      let T = atoms_that truth_of a g.elements in
      let F = atoms_that is_false a g.elements in
      let s = some_defined truth_of true_defined in
      let t = some_defined is_false false_defined in
      let k = first_part (settles a g) (tried g.function T F D ++ (T ∷ F ∷ [])) D (parts_join D (tried g.function T F D) (T ∷ F ∷ []) (tried_part g.function T F D s t) (two_parts D T F s t)) p m in
      let u = atoms_from_lem is_defined a g.elements p k in
      (is_defined_lem a p u.3, (u.0, u.1, u.2))

  -- second part: it settles the aggregate, and gives it its present value
  pub chosen_settles : (aggregate_value a g ≡ Undefined → ⊥) → Is (settles a g (settling_of a g))
  unfolding settling_of
  chosen_settles n = first_settles (settles a g) (tried g.function (atoms_that truth_of a g.elements) (atoms_that is_false a g.elements) D ++ (atoms_that truth_of a g.elements ∷ atoms_that is_false a g.elements ∷ [])) D (all_settle a g n)

  pub chosen_value : (aggregate_value a g ≡ Undefined → ⊥) → aggregate_value (restricted (settling_of a g) a) g ≡ aggregate_value a g
  chosen_value n = settled_value a g (settling_of a g) (chosen_settles n) n

  -- third part: X has the present values of what is chosen
  abbrev pub AgreesOn : List ℕ → Atoms → Type 0
  AgreesOn S X = (p : ℕ) → p ∈ S → (v : Bool) (l : ℕ) → a p ≡ defined v l → X p ≡ v

  pub agrees_completes : (S : List ℕ) (X : Atoms) → AgreesOn S X → Completes (restricted S a) g.elements X
  agrees_completes S X h e m v l q = let t = restricted_part S a e.atom v l q in h e.atom t.0 v l t.1

  pub settling_true : aggregate_value a g ≡ True → (X : Atoms) → AgreesOn (settling_of a g) X → Is (compared g X)
  settling_true e X h = (aggregate_right (restricted (settling_of a g) a) g).always (chosen_value (λ u. differ says_true (sym e ∙ u) refl refl) ∙ e) X (agrees_completes (settling_of a g) X h)

  pub settling_false : aggregate_value a g ≡ False → (X : Atoms) → AgreesOn (settling_of a g) X → compared g X ≡ false
  settling_false e X h = (aggregate_right (restricted (settling_of a g) a) g).never (chosen_value (λ u. differ says_false (sym e ∙ u) refl refl) ∙ e) X (agrees_completes (settling_of a g) X h)
