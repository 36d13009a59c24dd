-- The value of an aggregate in an interpretation (01, "Meaning"). Definitions only: to be believed.
--   Atoms        "An interpretation makes some atoms true and the rest false"
--   values       "An aggregate takes the values of its elements whose atom is true"
--   value_of      the function of these values: "Count and sum of none are 0." "Min or max of none has no value"
--   compares     the comparison with the threshold: without a value "the comparison is then false"
--   compared     an aggregate's comparison in an interpretation
-- Assumes nothing.
use Rattle.std.specs.Prelude.{Bool, true, false, List, [], ◌∷◌, ℕ, zero, ◌+◌, min, max, length, ltb, ℤ, negsuc}
use Rattle.std.proofs.Math.Option.{Option, none, some}
use Rattle.meaning.specs.Lists.{cons_if}
use Rattle.meaning.specs.declared.Function.{Function}
use Rattle.meaning.specs.declared.Function.TheVariants.{Count, Sum, Min, Max}
use Rattle.meaning.specs.declared.Comparison.{Comparison}
use Rattle.meaning.specs.declared.Comparison.TheVariants.{Less, Greater}
use Rattle.meaning.specs.Program.{Element, Aggregate}

abbrev pub Atoms : Type 0
Atoms = ℕ → Bool

-- "Each listed element counts, also where two have the same value"
abbrev pub values : Atoms → List Element → List ℕ
values I [] = []
values I (e ∷ es) = cons_if (I e.atom) e.value (values I es)

abbrev pub total : List ℕ → ℕ
total [] = zero
total (v ∷ vs) = v + total vs

abbrev pub join : (ℕ → ℕ → ℕ) → ℕ → Option ℕ → Option ℕ
join f v none = some v
join f v (some w) = some (f v w)

abbrev pub least_of : List ℕ → Option ℕ
least_of [] = none
least_of (v ∷ vs) = join min v (least_of vs)

abbrev pub most_of : List ℕ → Option ℕ
most_of [] = none
most_of (v ∷ vs) = join max v (most_of vs)

abbrev pub value_of : Function → List ℕ → Option ℕ
value_of Count vs = some (length vs)
value_of Sum vs = some (total vs)
value_of Min vs = least_of vs
value_of Max vs = most_of vs

-- `negsuc t` is the threshold -(t + 1)
abbrev pub compares : Comparison → ℤ → Option ℕ → Bool
compares c t none = false
compares Less (ℤ.pos t) (some v) = ltb v t
compares Less (negsuc t) (some v) = false
compares Greater (ℤ.pos t) (some v) = ltb t v
compares Greater (negsuc t) (some v) = true

unfoldable pub compared : Aggregate → Atoms → Bool
compared a I = compares a.comparison a.threshold (value_of a.function (values I a.elements))
