-- How the code finds the elements that settle an aggregate, and the union of their reasons, in a walk over the elements. Definitions only; they need not be believed:
-- `proofs/Runs.antt` and `proofs/Singles.antt` show that they give crate `valuing`'s `settling_of`.
--   run_of        count and sum: the shortest run of true (of false) elements that settles the aggregate, from the first
--   single_of     min and max: the first element that settles it alone; else all false ones, or all
-- Assumes nothing.
use Rattle.std.specs.Prelude.{Bool, true, false, cond, not, ◌&&◌, ◌||◌, List, [], ◌∷◌, ℕ, ◌+◌, ◌-◌, ltb, length}
use Rattle.std.specs.Bool.{beq}
use Rattle.meaning.specs.Program.{Element}
use Rattle.meaning.specs.declared.Comparison.{Comparison}
use Rattle.meaning.specs.declared.Function.{Function}
use Rattle.meaning.specs.declared.Function.TheVariants.{Count, Sum, Min, Max}
use Rattle.levels.specs.Levels.{Levels, union}
use Rattle.levels.specs.View.{row}
use Rattle.interpretation.specs.State.{Cell, undefined, defined, truth_of}
use Rattle.valuing.specs.Values.{possibly, asks_each}
use Rattle.valuing.specs.Settling.{is_false, is_defined}
use Rattle.literals.specs.Elements.{passes_by, weight_of, part_of}
use Rattle.literals.specs.declared.settling.Run.{Run}

-- a reason joined to a set, or not
abbrev pub join_if : Bool → Levels → Levels → Levels
join_if true R A = union R A
join_if false R A = A

-- ---- count and sum

-- true elements, or false ones
abbrev pub of_sign : Bool → Cell → Bool
of_sign true = truth_of
of_sign false = is_false

-- the comparison is the same at both bounds
abbrev pub alike_by : Comparison → ℕ → ℕ → ℕ → Bool
alike_by c k low high = beq (passes_by c k low) (passes_by c k high)

-- what all elements come to
abbrev pub whole_of : Bool → List Element → ℕ
whole_of count [] = 0
whole_of count (e ∷ es) = whole_of count es + weight_of count e.value

-- elements that come to x settle it, of `high` in all: true ones raise the least bound, false ones lower the greatest
abbrev pub bound_by : Bool → Comparison → ℕ → ℕ → ℕ → Bool
bound_by true c k high x = alike_by c k x high
bound_by false c k high x = alike_by c k 0 (high - x)

-- whether a run settles it; the reasons of that run, or of all elements of that sign
pub record Told : Type 0 where
  pub settled : Bool
  pub reason : Levels

abbrev pub told_by : Run → Told
told_by r = record { settled = r.settled; reason = row r.reason }

abbrev pub pick_told : Bool → Told → Told → Told
pick_told true s t = s
pick_told false s t = t

abbrev pub run_of : Bool → Bool → Comparison → ℕ → ℕ → (ℕ → Cell) → (ℕ → Levels) → List Element → ℕ → Levels → Told
run_of sign count c k high a r [] x A = record { settled = bound_by sign c k high x; reason = A }
run_of sign count c k high a r (e ∷ es) x A =
    pick_told (bound_by sign c k high x) (record { settled = true; reason = A })
    (run_of sign count c k high a r es (x + part_of (of_sign sign (a e.atom)) (weight_of count e.value)) (join_if (of_sign sign (a e.atom)) (r e.atom) A))

-- a run of true ones, or of false ones, or all
abbrev pub or_else : Told → Levels → Levels
or_else t A = cond t.settled t.reason A

abbrev pub adds_of : Bool → Comparison → ℕ → (ℕ → Cell) → (ℕ → Levels) → List Element → Levels → Levels
adds_of count c k a r es B =
    let up = run_of true count c k (whole_of count es) a r es 0 B in
    let down = run_of false count c k (whole_of count es) a r es 0 B in
    or_else up (or_else down (union up.reason down.reason))

-- ---- min and max

-- how many elements' values pass the comparison
abbrev pub passing_of : Comparison → ℕ → List Element → ℕ
passing_of c k [] = 0
passing_of c k (e ∷ es) = passing_of c k es + part_of (passes_by c k e.value) 1

-- an element whose atom is known settles the aggregate alone: `sure` it is true, `ok` its value passes, `pass` and `fail` another's does so
abbrev pub alone_by : Bool → Bool → Bool → Bool → Bool → Bool
alone_by true true ok pass fail = not ok || not fail
alone_by true false ok pass fail = not pass
alone_by false sure ok pass fail = (sure && ok) || not pass

abbrev pub alone_at : Bool → Cell → Bool → ℕ → ℕ → Bool
alone_at each undefined ok P F = false
alone_at each (defined v l) ok P F = alone_by each v ok (ltb (part_of ok 1) P) (ltb (part_of (not ok) 1) F)

-- P and F elements pass and fail in all; `falses` the reasons of the false ones so far, `every` of all; `may` one that passes is not false
abbrev pub single_from : Bool → Comparison → ℕ → ℕ → ℕ → (ℕ → Cell) → (ℕ → Levels) → Levels → List Element → Levels → Levels → Bool → Levels
single_from each c k P F a r B [] falses every may = cond may every falses
single_from each c k P F a r B (e ∷ es) falses every may =
    cond (alone_at each (a e.atom) (passes_by c k e.value) P F) (union (r e.atom) B)
    (single_from each c k P F a r B es (join_if (is_false (a e.atom)) (r e.atom) falses) (join_if (is_defined (a e.atom)) (r e.atom) every)
    ((passes_by c k e.value && possibly (a e.atom)) || may))

abbrev pub single_of : Bool → Comparison → ℕ → (ℕ → Cell) → (ℕ → Levels) → List Element → Levels → Levels
single_of each c k a r es B = single_from each c k (passing_of c k es) (length es - passing_of c k es) a r B es B B false

-- ---- by the function

abbrev pub blamed_by : Function → Comparison → ℕ → (ℕ → Cell) → (ℕ → Levels) → List Element → Levels → Levels
blamed_by Count c k a r es B = adds_of true c k a r es B
blamed_by Sum c k a r es B = adds_of false c k a r es B
blamed_by Min c k a r es B = single_of (asks_each Min c) c k a r es B
blamed_by Max c k a r es B = single_of (asks_each Max c) c k a r es B
