-- Values in a partial interpretation (01, "Propagation": "An aggregate literal is true (false) if it is so in every completion of its undefined
-- atoms"). Definitions only: to be believed. `proofs/Exact.antt` shows the values exact.
--   aggregate_value   an aggregate's comparison; literal_value: an aggregate or its negation
--   Lit, value       a literal of a rule: an atom or its negation, or an aggregate literal; its value
-- Assumes nothing.
use Rattle.std.specs.Prelude.{ℕ, Bool, true, false, not, ◌&&◌, ◌||◌}
use Rattle.std.proofs.Math.Option.{some}
use Rattle.meaning.specs.Aggregates.{Atoms, values, compares, compared}
use Rattle.meaning.specs.Lists.{any}
use Rattle.meaning.specs.declared.Function.{Function}
use Rattle.meaning.specs.declared.Function.TheVariants.{Count, Sum, Min, Max}
use Rattle.meaning.specs.declared.Comparison.{Comparison}
use Rattle.meaning.specs.declared.Comparison.TheVariants.{Less, Greater}
use Rattle.meaning.specs.Program.{Aggregate, Literal}
use Rattle.meaning.specs.Answers.{literal}
use Rattle.interpretation.specs.declared.Value.{Value}
use Rattle.interpretation.specs.declared.Value.TheVariants.{True, False, Undefined}
use Rattle.interpretation.specs.View.{cell_value}
use Rattle.interpretation.specs.State.{Cell, undefined, defined, truth_of}

abbrev pub says_true : Value → Bool
says_true True = true
says_true False = false
says_true Undefined = false

abbrev pub says_false : Value → Bool
says_false True = false
says_false False = true
says_false Undefined = false

abbrev pub says_undefined : Value → Bool
says_undefined True = false
says_undefined False = false
says_undefined Undefined = true

-- ---- atoms

abbrev pub opposite : Value → Value
opposite True = False
opposite False = True
opposite Undefined = Undefined

-- with the sign false, the negation's
abbrev pub signed : Bool → Value → Value
signed true v = v
signed false v = opposite v

abbrev pub signed_bool : Bool → Bool → Bool
signed_bool true b = b
signed_bool false b = not b

-- ---- aggregates

-- the completion that makes each undefined atom false, and the one that makes it true
abbrev pub lowest_of : (ℕ → Cell) → Atoms
lowest_of a = λ p. truth_of (a p)

abbrev pub possibly : Cell → Bool
possibly undefined = true
possibly (defined v l) = v

abbrev pub highest_of : (ℕ → Cell) → Atoms
highest_of a = λ p. possibly (a p)

-- one value passes the comparison
abbrev pub passes_alone : Aggregate → ℕ → Bool
passes_alone g v = compares g.comparison g.threshold (some v)

-- "min > t" and "max < t" ask each value to pass, and that there be one; all other comparisons lie between their two extreme completions
abbrev pub asks_each : Function → Comparison → Bool
asks_each Count c = false
asks_each Sum c = false
asks_each Min Less = false
asks_each Min Greater = true
asks_each Max Less = true
asks_each Max Greater = false

abbrev pub between : Bool → Bool → Value
between true true = True
between true false = Undefined
between false true = Undefined
between false false = False

abbrev pub decide : Bool → Bool → Value
decide true f = True
decide false true = False
decide false false = Undefined

-- where each is asked: false if a true element does not pass, or if none that could be true passes
abbrev pub each_fails : (ℕ → Cell) → Aggregate → Bool
each_fails a g = any (λ v. not (passes_alone g v)) (values (lowest_of a) g.elements) || not (any (passes_alone g) (values (highest_of a) g.elements))

abbrev pub value_by : Bool → (ℕ → Cell) → Aggregate → Value
value_by false a g = between (compared g (lowest_of a)) (compared g (highest_of a))
value_by true a g = decide (compared g (lowest_of a) && compared g (highest_of a)) (each_fails a g)

unfoldable pub aggregate_value : (ℕ → Cell) → Aggregate → Value
aggregate_value a g = value_by (asks_each g.function g.comparison) a g

unfoldable pub literal_value : (ℕ → Cell) → Literal → Value
literal_value a l = signed l.plain (aggregate_value a l.aggregate)

-- ---- the literals of a rule

pub data Lit : Type 0 where
  atom_lit : Bool → ℕ → Lit
  agg_lit : Literal → Lit

abbrev pub value : (ℕ → Cell) → Lit → Value
value a (atom_lit s p) = signed s (cell_value (a p))
value a (agg_lit l) = literal_value a l

abbrev pub true_in : Atoms → Lit → Bool
true_in X (atom_lit s p) = signed_bool s (X p)
true_in X (agg_lit l) = literal X l
