-- The value of an aggregate literal in a partial interpretation is exact: true (false) if and only if the literal is so in every completion,
-- undefined if and only if there are completions of both kinds. Only the undefined case needs that an atom occurs once in the aggregate.
-- The search uses `literal_right` and `literal_decided` alone.
-- Assumes nothing.
use mathlib.Core.Path.{◌≡◌, refl, sym, ap, ap₂, ◌∙◌}
use mathlib.Core.Logic.{◌⊎◌, inl, inr, ◌↔◌}
use mathlib.Core.Bool.{Bool, true, false, not, ◌&&◌, ◌||◌, beq}
use mathlib.Core.List.{List}
use Prim.Native.Nat.{ℕ}
use lib.Dec.{eqb}
use Rattle.meaning.specs.Lists.{Is, ◌∈◌, all, any}
use Rattle.meaning.specs.Aggregates.{Atoms, values, value_of, compares, compared}
use Rattle.meaning.specs.Program.{Element, Aggregate, Literal}
use Rattle.meaning.specs.Answers.{literal}
use Rattle.interpretation.specs.State.{Cell, defined, truth_of, Defined}
use Rattle.interpretation.specs.declared.Value.{Value}
use Rattle.interpretation.specs.declared.Value.TheVariants.{True, False, Undefined}
use Rattle.valuing.specs.Values.{says_true, says_false, says_undefined, opposite, signed, lowest_of, possibly, highest_of, passes_alone, asks_each, between, decide, each_fails, value_by, aggregate_value, literal_value}
use Rattle.valuing.specs.Exact.{Completes, Distinct, Right, Both, Always, Sometimes}
use Rattle.meaning.proofs.Tools.{clash, cases, not_is, is_not_lem, not_false, and_i, and_l, and_r, or_l, or_r, or_e, contra, eq, eq_i, or_false}
use Rattle.meaning.proofs.Least.{values_same}
use Rattle.valuing.proofs.Compared.{some_i, some_e, each_i, each_e, lowest_completes, highest_completes, from_lowest, to_highest, of_between, of_each}

-- ---- values told apart

pub differ : (f : Value → Bool) {v w : Value} → v ≡ w → Is (f v) → f w ≡ false → ⊥
differ f e h k = clash h (ap f e ∙ k)

between_true : (x y : Bool) → between x y ≡ True → Is x × Is y
between_true true true e = (refl, refl)
between_true true false e = absurd (differ says_undefined e refl refl)
between_true false true e = absurd (differ says_undefined e refl refl)
between_true false false e = absurd (differ says_false e refl refl)

between_false : (x y : Bool) → between x y ≡ False → (x ≡ false) × (y ≡ false)
between_false true true e = absurd (differ says_true e refl refl)
between_false true false e = absurd (differ says_undefined e refl refl)
between_false false true e = absurd (differ says_undefined e refl refl)
between_false false false e = (refl, refl)

between_undefined : (x y : Bool) → between x y ≡ Undefined → (Is x × (y ≡ false)) ⊎ ((x ≡ false) × Is y)
between_undefined true true e = absurd (differ says_true e refl refl)
between_undefined true false e = inl (refl, refl)
between_undefined false true e = inr (refl, refl)
between_undefined false false e = absurd (differ says_false e refl refl)

decide_true : (x y : Bool) → decide x y ≡ True → Is x
decide_true true y e = refl
decide_true false true e = absurd (differ says_false e refl refl)
decide_true false false e = absurd (differ says_undefined e refl refl)

decide_false : (x y : Bool) → decide x y ≡ False → Is y
decide_false true y e = absurd (differ says_true e refl refl)
decide_false false true e = refl
decide_false false false e = absurd (differ says_undefined e refl refl)

decide_undefined : (x y : Bool) → decide x y ≡ Undefined → (x ≡ false) × (y ≡ false)
decide_undefined true y e = absurd (differ says_true e refl refl)
decide_undefined false true e = absurd (differ says_false e refl refl)
decide_undefined false false e = (refl, refl)

-- ---- an aggregate's value

-- where each is asked, a completion that makes e's atom true beside the true ones
also : (ℕ → Cell) → ℕ → Atoms
also a q = λ p. truth_of (a p) || eqb p q

module _ (a : ℕ → Cell) (g : Aggregate) where
  each_law : Is (asks_each g.function g.comparison) → (X : Atoms) → compared g X ≡ (any (passes_alone g) (values X g.elements) && all (passes_alone g) (values X g.elements))
  unfolding compared
  each_law h X = of_each g.function g.comparison g.threshold h (values X g.elements)

  between_law : asks_each g.function g.comparison ≡ false → (X : Atoms) → Completes a g.elements X → (b : Bool) → compared g (lowest_of a) ≡ b → compared g (highest_of a) ≡ b → compared g X ≡ b
  unfolding compared
  between_law n X C b = of_between a g.function g.comparison g.threshold g.elements n X C b

  each_always : Is (asks_each g.function g.comparison) → Is (compared g (lowest_of a)) → Is (compared g (highest_of a)) → (X : Atoms) → Completes a g.elements X → Is (compared g X)
  each_always h x y X C =
      let s = and_l _ _ (sym (each_law h (lowest_of a)) ∙ x) in
      let t = and_r (any (passes_alone g) (values (highest_of a) g.elements)) _ (sym (each_law h (highest_of a)) ∙ y) in
      let u = some_e (passes_alone g) (lowest_of a) g.elements s in
      each_law h X ∙ and_i (some_i (passes_alone g) X g.elements u.1 (from_lowest a g.elements X C u.0 u.1 u.2) u.3)
      (each_i (passes_alone g) X g.elements (λ e m z. each_e (passes_alone g) (highest_of a) g.elements t m (to_highest a g.elements X C e m z)))

  each_never : Is (asks_each g.function g.comparison) → Is (each_fails a g) → (X : Atoms) → Completes a g.elements X → compared g X ≡ false
  each_never h f X C = contra (compared g X) {b = false} (λ k. absurd (stop (sym (each_law h X) ∙ k) (or_e _ _ f))) refl
    where
      stop : Is (any (passes_alone g) (values X g.elements) && all (passes_alone g) (values X g.elements))
          → Is (any (λ v. not (passes_alone g v)) (values (lowest_of a) g.elements)) ⊎ Is (not (any (passes_alone g) (values (highest_of a) g.elements))) → ⊥
      stop k (inl s) =
          let u = some_e (λ v. not (passes_alone g v)) (lowest_of a) g.elements s in
          clash (each_e (passes_alone g) X g.elements (and_r (any (passes_alone g) (values X g.elements)) _ k) u.1 (from_lowest a g.elements X C u.0 u.1 u.2)) (not_is _ u.3)
      stop k (inr s) =
          let u = some_e (passes_alone g) X g.elements (and_l _ _ k) in
          clash (some_i (passes_alone g) (highest_of a) g.elements u.1 (to_highest a g.elements X C u.0 u.1 u.2) u.3) (not_is _ s)

  by_right : (b : Bool) → asks_each g.function g.comparison ≡ b → Right a g.elements (compared g) (value_by b a g)
  by_right false n = record {
    always = λ e X C. let t = between_true (compared g (lowest_of a)) (compared g (highest_of a)) e in between_law n X C true t.0 t.1;
    never = λ e X C. let t = between_false (compared g (lowest_of a)) (compared g (highest_of a)) e in between_law n X C false t.0 t.1;
  }
  by_right true h = record {
    always = λ e X C. let t = decide_true (compared g (lowest_of a) && compared g (highest_of a)) (each_fails a g) e in each_always h (and_l _ _ t) (and_r (compared g (lowest_of a)) _ t) X C;
    never = λ e X C. each_never h (decide_false (compared g (lowest_of a) && compared g (highest_of a)) (each_fails a g) e) X C;
  }

  pub aggregate_right : Right a g.elements (compared g) (aggregate_value a g)
  unfolding aggregate_value
  aggregate_right = by_right (asks_each g.function g.comparison) refl

  -- ---- undefined

  -- an undefined or true element that passes, all true ones passing: with it there is a value and each passes
  module _ (D : Distinct g.elements) (h : Is (asks_each g.function g.comparison))
      (allPass : any (λ v. not (passes_alone g v)) (values (lowest_of a) g.elements) ≡ false) (e : Element) (m : e ∈ g.elements)
      (q : Is (possibly (a e.atom))) (k : Is (passes_alone g e.value)) where
    also_completes : Completes a g.elements (also a e.atom)
    unfolding also
    also_completes d j v l x = at v x (cases (eqb d.atom e.atom))
      where
        at : (v : Bool) → a d.atom ≡ defined v l → Is (eqb d.atom e.atom) ⊎ (eqb d.atom e.atom ≡ false) → (truth_of (a d.atom) || eqb d.atom e.atom) ≡ v
        at true x y = or_l _ _ (ap truth_of x)
        at false x (inl y) = absurd (clash q (ap (λ (p : ℕ). possibly (a p)) (sym (eq d.atom e.atom y)) ∙ ap possibly x))
        at false x (inr y) = ap₂ (λ (b c : Bool). b || c) (ap truth_of x) y

    also_passes : Is (compared g (also a e.atom))
    unfolding also
    also_passes = each_law h (also a e.atom) ∙ and_i
        (some_i (passes_alone g) (also a e.atom) g.elements m (or_r (truth_of (a e.atom)) _ (eq_i {m = e.atom} refl)) k)
        (each_i (passes_alone g) (also a e.atom) g.elements (λ d j x. at d j (or_e _ _ x)))
      where
        at : (d : Element) → d ∈ g.elements → Is (truth_of (a d.atom)) ⊎ Is (eqb d.atom e.atom) → Is (passes_alone g d.value)
        at d j (inl x) = not_false (passes_alone g d.value) (contra (not (passes_alone g d.value)) {b = false}
            (λ z. absurd (clash (some_i (λ v. not (passes_alone g v)) (lowest_of a) g.elements j x z) allPass)) refl)
        at d j (inr x) = ap (λ (d : Element). passes_alone g d.value) (D d e j m (eq d.atom e.atom x)) ∙ k

  by_both : Distinct g.elements → (b : Bool) → asks_each g.function g.comparison ≡ b → value_by b a g ≡ Undefined → Both a g.elements (compared g) (value_by b a g)
  by_both D false n e = at (between_undefined (compared g (lowest_of a)) (compared g (highest_of a)) e)
    where
      at : (Is (compared g (lowest_of a)) × (compared g (highest_of a) ≡ false)) ⊎ ((compared g (lowest_of a) ≡ false) × Is (compared g (highest_of a)))
          → ((X : Atoms) × Completes a g.elements X × Is (compared g X)) × ((X : Atoms) × Completes a g.elements X × (compared g X ≡ false))
      at (inl t) = ((lowest_of a, lowest_completes a g.elements, t.0), (highest_of a, highest_completes a g.elements, t.1))
      at (inr t) = ((highest_of a, highest_completes a g.elements, t.1), (lowest_of a, lowest_completes a g.elements, t.0))
  by_both D true h e =
      let d = decide_undefined (compared g (lowest_of a) && compared g (highest_of a)) (each_fails a g) e in
      let f = or_false (any (λ v. not (passes_alone g v)) (values (lowest_of a) g.elements)) (not (any (passes_alone g) (values (highest_of a) g.elements))) d.1 in
      let u = some_e (passes_alone g) (highest_of a) g.elements (not_false (any (passes_alone g) (values (highest_of a) g.elements)) f.1) in (
        (also a u.0.atom, also_completes D h f.0 u.0 u.1 u.2 u.3, also_passes D h f.0 u.0 u.1 u.2 u.3),
        at (cases (compared g (lowest_of a))) d.0,
      )
    where
      at : Is (compared g (lowest_of a)) ⊎ (compared g (lowest_of a) ≡ false) → (compared g (lowest_of a) && compared g (highest_of a)) ≡ false
          → (X : Atoms) × Completes a g.elements X × (compared g X ≡ false)
      at (inl x) z = (highest_of a, highest_completes a g.elements, contra (compared g (highest_of a)) {b = false} (λ y. absurd (clash (and_i x y) z)) refl)
      at (inr x) z = (lowest_of a, lowest_completes a g.elements, x)

  aggregate_both : Distinct g.elements → aggregate_value a g ≡ Undefined → Both a g.elements (compared g) (aggregate_value a g)
  unfolding aggregate_value
  aggregate_both D e = by_both D (asks_each g.function g.comparison) refl e

  -- ---- all elements defined

  module _ (d : (e : Element) → e ∈ g.elements → Defined a e.atom) where
    extremes_same : values (lowest_of a) g.elements ≡ values (highest_of a) g.elements
    extremes_same = values_same (lowest_of a) (highest_of a) g.elements (λ e m. let t = d e m in ap truth_of t.2 ∙ sym (ap possibly t.2))

    compared_same : compared g (lowest_of a) ≡ compared g (highest_of a)
    unfolding compared
    compared_same = ap (λ (vs : List ℕ). compares g.comparison g.threshold (value_of g.function vs)) extremes_same

    by_decided : (b : Bool) → asks_each g.function g.comparison ≡ b → value_by b a g ≡ Undefined → ⊥
    by_decided false n e = at (between_undefined (compared g (lowest_of a)) (compared g (highest_of a)) e)
      where
        at : (Is (compared g (lowest_of a)) × (compared g (highest_of a) ≡ false)) ⊎ ((compared g (lowest_of a) ≡ false) × Is (compared g (highest_of a))) → ⊥
        at (inl t) = clash t.0 (compared_same ∙ t.1)
        at (inr t) = clash t.1 (sym compared_same ∙ t.0)
    by_decided true h e =
        let z = decide_undefined (compared g (lowest_of a) && compared g (highest_of a)) (each_fails a g) e in
        let f = or_false (any (λ v. not (passes_alone g v)) (values (lowest_of a) g.elements)) (not (any (passes_alone g) (values (highest_of a) g.elements))) z.1 in
        let s : Is (any (passes_alone g) (values (lowest_of a) g.elements)) = ap (any (passes_alone g)) extremes_same ∙ not_false (any (passes_alone g) (values (highest_of a) g.elements)) f.1 in
        let t : Is (all (passes_alone g) (values (lowest_of a) g.elements)) = each_i (passes_alone g) (lowest_of a) g.elements (λ e m x.
        not_false (passes_alone g e.value) (contra (not (passes_alone g e.value)) {b = false} (λ y. absurd (clash (some_i (λ v. not (passes_alone g v)) (lowest_of a) g.elements m x y) f.0)) refl)) in
        let x : Is (compared g (lowest_of a)) = each_law h (lowest_of a) ∙ and_i s t in
        clash (and_i x (sym compared_same ∙ x)) z.0

    aggregate_decided : aggregate_value a g ≡ Undefined → ⊥
    unfolding aggregate_value
    aggregate_decided e = by_decided (asks_each g.function g.comparison) refl e

-- ---- an aggregate or its negation

opposite_true : (v : Value) → opposite v ≡ True → v ≡ False
opposite_true True e = sym e
opposite_true False e = refl
opposite_true Undefined e = absurd (differ says_undefined e refl refl)

opposite_false : (v : Value) → opposite v ≡ False → v ≡ True
opposite_false True e = refl
opposite_false False e = sym e
opposite_false Undefined e = absurd (differ says_undefined e refl refl)

opposite_undefined : (v : Value) → opposite v ≡ Undefined → v ≡ Undefined
opposite_undefined True e = absurd (differ says_false e refl refl)
opposite_undefined False e = absurd (differ says_true e refl refl)
opposite_undefined Undefined e = refl

beq_true : (b : Bool) → beq true b ≡ b
beq_true true = refl
beq_true false = refl

beq_false : (b : Bool) → beq false b ≡ not b
beq_false true = refl
beq_false false = refl

module _ (a : ℕ → Cell) (es : List Element) (f : Atoms → Bool) (v : Value) where
  signed_right : (s : Bool) → Right a es f v → Right a es (λ X. beq s (f X)) (signed s v)
  signed_right true R = record { always = λ e X C. beq_true (f X) ∙ R.always e X C; never = λ e X C. beq_true (f X) ∙ R.never e X C }
  signed_right false R = record {
    always = λ e X C. beq_false (f X) ∙ is_not_lem (f X) (R.never (opposite_true v e) X C);
    never = λ e X C. beq_false (f X) ∙ ap not (R.always (opposite_false v e) X C);
  }

  signed_both : (s : Bool) → Both a es f v → Both a es (λ X. beq s (f X)) (signed s v)
  signed_both true (t, u) = ((t.0, t.1, beq_true (f t.0) ∙ t.2), (u.0, u.1, beq_true (f u.0) ∙ u.2))
  signed_both false (t, u) = ((u.0, u.1, beq_false (f u.0) ∙ is_not_lem (f u.0) u.2), (t.0, t.1, beq_false (f t.0) ∙ ap not t.2))

signed_undefined : (s : Bool) (v : Value) → signed s v ≡ Undefined → v ≡ Undefined
signed_undefined true v e = e
signed_undefined false v e = opposite_undefined v e

pub literal_right : (a : ℕ → Cell) (l : Literal) → Right a l.aggregate.elements (λ X. literal X l) (literal_value a l)
unfolding literal_value literal
literal_right a l = signed_right a l.aggregate.elements (compared l.aggregate) (aggregate_value a l.aggregate) l.plain (aggregate_right a l.aggregate)

pub literal_both : (a : ℕ → Cell) (l : Literal) → Distinct l.aggregate.elements → literal_value a l ≡ Undefined → Both a l.aggregate.elements (λ X. literal X l) (literal_value a l)
unfolding literal_value literal
literal_both a l D e =
    signed_both a l.aggregate.elements (compared l.aggregate) (aggregate_value a l.aggregate) l.plain (aggregate_both a l.aggregate D (signed_undefined l.plain (aggregate_value a l.aggregate) e))

pub literal_decided : (a : ℕ → Cell) (l : Literal) → ((e : Element) → e ∈ l.aggregate.elements → Defined a e.atom) → literal_value a l ≡ Undefined → ⊥
unfolding literal_value
literal_decided a l d e = aggregate_decided a l.aggregate d (signed_undefined l.plain (aggregate_value a l.aggregate) e)

-- ---- the three equivalences

module _ (a : ℕ → Cell) (l : Literal) (D : Distinct l.aggregate.elements) where
  -- an undefined value stands against an unanimous claim
  open_not : (b : Bool) → literal_value a l ≡ Undefined → Always a l b → ⊥
  open_not b e h = let t = literal_both a l D e in clash t.0.2 (h t.0.0 t.0.1 ∙ sym (h t.1.0 t.1.1) ∙ t.1.2)

  value_cases : (v : Value) → (v ≡ True) ⊎ ((v ≡ False) ⊎ (v ≡ Undefined))
  value_cases True = inl refl
  value_cases False = inr (inl refl)
  value_cases Undefined = inr (inr refl)

  pub exact_true : (literal_value a l ≡ True) ↔ Always a l true
  exact_true = ((literal_right a l).always, λ h. at h (value_cases (literal_value a l)))
    where
      at : Always a l true → (literal_value a l ≡ True) ⊎ ((literal_value a l ≡ False) ⊎ (literal_value a l ≡ Undefined)) → literal_value a l ≡ True
      at h (inl e) = e
      at h (inr (inl e)) =
          let c = lowest_completes a l.aggregate.elements in
          absurd (clash (h (lowest_of a) c) ((literal_right a l).never e (lowest_of a) c))
      at h (inr (inr e)) = absurd (open_not true e h)

  pub exact_false : (literal_value a l ≡ False) ↔ Always a l false
  exact_false = ((literal_right a l).never, λ h. at h (value_cases (literal_value a l)))
    where
      at : Always a l false → (literal_value a l ≡ True) ⊎ ((literal_value a l ≡ False) ⊎ (literal_value a l ≡ Undefined)) → literal_value a l ≡ False
      at h (inl e) =
          let c = lowest_completes a l.aggregate.elements in
          absurd (clash ((literal_right a l).always e (lowest_of a) c) (h (lowest_of a) c))
      at h (inr (inl e)) = e
      at h (inr (inr e)) = absurd (open_not false e h)

  pub exact_undefined : (literal_value a l ≡ Undefined) ↔ (Sometimes a l true × Sometimes a l false)
  exact_undefined = (λ e. literal_both a l D e, λ t. at t (value_cases (literal_value a l)))
    where
      at : Sometimes a l true × Sometimes a l false → (literal_value a l ≡ True) ⊎ ((literal_value a l ≡ False) ⊎ (literal_value a l ≡ Undefined)) → literal_value a l ≡ Undefined
      at t (inl e) = absurd (clash ((literal_right a l).always e t.1.0 t.1.1) t.1.2)
      at t (inr (inl e)) = absurd (clash t.0.2 ((literal_right a l).never e t.0.0 t.0.1))
      at t (inr (inr e)) = e
