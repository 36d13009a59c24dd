-- Values, what settles an aggregate, and reasons depend on what each atom is, true, false or undefined, and not on the levels kept for the atoms.
--   Alike a b       each atom is the same in both
--   value_alike     a literal's value;  settling-alike: the elements that are blamed;  reason-alike, reasons-alike: reasons
-- Assumes nothing.
use Prim.Native.Nat.{ℕ}
use mathlib.Core.Path.{◌≡◌, refl, sym, ◌∙◌, ap, fun_ext}
use mathlib.Core.Bool.{Bool, true, false, not, ◌&&◌, ◌||◌}
use mathlib.Core.List.{List, [], ◌∷◌, ◌++◌}
use Rattle.meaning.specs.Aggregates.{Atoms, values, compared}
use Rattle.meaning.specs.Lists.{any, cons_if, has}
use Rattle.meaning.specs.Program.{Element, Aggregate, Literal}
use Rattle.levels.specs.Levels.{Levels, no_levels, union}
use Rattle.interpretation.specs.State.{Cell, undefined, defined, truth_of}
use Rattle.interpretation.specs.View.{cell_value}
use Rattle.interpretation.specs.declared.Value.{Value}
use Rattle.interpretation.specs.declared.Value.TheVariants.{True, False, Undefined}
use Rattle.valuing.specs.Values.{says_true, says_false, says_undefined, lowest_of, highest_of, possibly, passes_alone, asks_each, between, decide, value_by, aggregate_value, signed, literal_value, Lit, atom_lit, agg_lit, value}
use Rattle.valuing.specs.Settling.{known_if, restricted, settles, is_false, is_defined, atoms_that, tried, first_that, settling_of}
use Rattle.valuing.specs.Reasons.{reason_at, reasons_at, reason_of, reasons_of}

-- ---- what a cell gives, by its value

truth_by : (c : Cell) → truth_of c ≡ says_true (cell_value c)
truth_by undefined = refl
truth_by (defined true l) = refl
truth_by (defined false l) = refl

possibly_by : (c : Cell) → possibly c ≡ not (says_false (cell_value c))
possibly_by undefined = refl
possibly_by (defined true l) = refl
possibly_by (defined false l) = refl

false_by : (c : Cell) → is_false c ≡ says_false (cell_value c)
false_by undefined = refl
false_by (defined true l) = refl
false_by (defined false l) = refl

defined_by : (c : Cell) → is_defined c ≡ not (says_undefined (cell_value c))
defined_by undefined = refl
defined_by (defined true l) = refl
defined_by (defined false l) = refl

-- with some atoms alone
abbrev known_by : Bool → Value → Value
known_by true v = v
known_by false v = Undefined

known_by_lem : (b : Bool) (c : Cell) → cell_value (known_if b c) ≡ known_by b (cell_value c)
known_by_lem true c = refl
known_by_lem false c = refl

-- the reason, by the value
abbrev reason_by : Value → Levels → Levels
reason_by True R = R
reason_by False R = R
reason_by Undefined R = no_levels

reason_by_lem : (c : Cell) (R : Levels) → reason_at c R ≡ reason_by (cell_value c) R
reason_by_lem undefined R = refl
reason_by_lem (defined true l) R = refl
reason_by_lem (defined false l) R = refl

-- ---- cells that are alike

abbrev pub Alike : (ℕ → Cell) → (ℕ → Cell) → Type 0
Alike a b = (p : ℕ) → cell_value (a p) ≡ cell_value (b p)

-- also where only some atoms are known
restricted_alike : (S : List ℕ) (a b : ℕ → Cell) → Alike a b → Alike (restricted S a) (restricted S b)
restricted_alike S a b h p = known_by_lem (has p S) (a p) ∙ ap (known_by (has p S)) (h p) ∙ sym (known_by_lem (has p S) (b p))

module _ (a b : ℕ → Cell) (h : Alike a b) where
  lowest_alike : lowest_of a ≡ lowest_of b
  lowest_alike = fun_ext (λ p. truth_by (a p) ∙ ap says_true (h p) ∙ sym (truth_by (b p)))

  highest_alike : highest_of a ≡ highest_of b
  highest_alike = fun_ext (λ p. possibly_by (a p) ∙ ap (λ (v : Value). not (says_false v)) (h p) ∙ sym (possibly_by (b p)))

  -- an aggregate's value as a function of its two extreme completions
  abbrev extremes : Bool → Aggregate → Atoms → Atoms → Value
  extremes false g low high = between (compared g low) (compared g high)
  extremes true g low high =
      decide (compared g low && compared g high) (any (λ v. not (passes_alone g v)) (values low g.elements) || not (any (passes_alone g) (values high g.elements)))

  value_by_lem : (e : Bool) (g : Aggregate) → value_by e a g ≡ value_by e b g
  value_by_lem false g = ap (λ (low : Atoms). extremes false g low (highest_of a)) lowest_alike ∙ ap (extremes false g (lowest_of b)) highest_alike
  value_by_lem true g = ap (λ (low : Atoms). extremes true g low (highest_of a)) lowest_alike ∙ ap (extremes true g (lowest_of b)) highest_alike

  pub aggregate_alike : (g : Aggregate) → aggregate_value a g ≡ aggregate_value b g
  unfolding aggregate_value
  aggregate_alike g = value_by_lem (asks_each g.function g.comparison) g

  literal_alike : (l : Literal) → literal_value a l ≡ literal_value b l
  unfolding literal_value
  literal_alike l = ap (signed l.plain) (aggregate_alike l.aggregate)

  pub value_alike : (x : Lit) → value a x ≡ value b x
  value_alike (atom_lit s p) = ap (signed s) (h p)
  value_alike (agg_lit l) = literal_alike l

  atoms_by : (f : Cell → Bool) (k : Value → Bool) → ((c : Cell) → f c ≡ k (cell_value c)) → (es : List Element) → atoms_that f a es ≡ atoms_that f b es
  atoms_by f k e [] = refl
  atoms_by f k e (d ∷ es) = λ t. cons_if ((e (a d.atom) ∙ ap k (h d.atom) ∙ sym (e (b d.atom))) t) d.atom (atoms_by f k e es t)

pub settling_alike : (a b : ℕ → Cell) → Alike a b → (g : Aggregate) → settling_of a g ≡ settling_of b g
unfolding settling_of settles
settling_alike a b h g = λ t. first_that (f t) (tried g.function (T t) (F t) (D t) ++ (T t ∷ F t ∷ [])) (D t)
  where
    T : atoms_that truth_of a g.elements ≡ atoms_that truth_of b g.elements
    T = atoms_by a b h truth_of says_true truth_by g.elements

    F : atoms_that is_false a g.elements ≡ atoms_that is_false b g.elements
    F = atoms_by a b h is_false says_false false_by g.elements

    D : atoms_that is_defined a g.elements ≡ atoms_that is_defined b g.elements
    D = atoms_by a b h is_defined (λ v. not (says_undefined v)) defined_by g.elements

    f : settles a g ≡ settles b g
    f = fun_ext (λ S. ap (λ (v : Value). not (says_undefined v)) (aggregate_alike (restricted S a) (restricted S b) (restricted_alike S a b h) g))

module _ (a b : ℕ → Cell) (h : Alike a b) where
  pub at_alike : (r : ℕ → Levels) (p : ℕ) → reason_at (a p) (r p) ≡ reason_at (b p) (r p)
  at_alike r p = reason_by_lem (a p) (r p) ∙ ap (λ (v : Value). reason_by v (r p)) (h p) ∙ sym (reason_by_lem (b p) (r p))

  pub reason_alike : (r : ℕ → Levels) (x : Lit) → reason_of a r x ≡ reason_of b r x
  unfolding reason_of
  reason_alike r (atom_lit s p) = at_alike r p
  reason_alike r (agg_lit l) = ap (reasons_at r) (settling_alike a b h l.aggregate)

  pub reasons_alike : (r : ℕ → Levels) (s : List Lit) → reasons_of a r s ≡ reasons_of b r s
  reasons_alike r [] = refl
  reasons_alike r (x ∷ s) = ap (λ (R : Levels). union R (reasons_of a r s)) (reason_alike r x) ∙ ap (union (reason_of b r x)) (reasons_alike r s)
