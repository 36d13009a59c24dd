-- What a turn of the search asks after its propagation, in the terms of crate `search` (01, "Reasons and jumps"). Definitions only.
--   turn_of       what a turn does after propagation, by how that ended, the lowest undefined atom, the final test and the limit
--   blamed       the reason of a conflict: propagation's, or "all present levels" where the final test failed
--   back_of       where a conflict leads: "C empty adds k skips and ends", "otherwise m, the highest in C, adds k - m skips"
-- Assumes nothing.
use Rattle.std.specs.Prelude.{Bool, true, false, ℕ, zero, suc, ◌-◌, ◌≤◌}
use Rattle.std.proofs.Math.Option.{Option, none, some}
use Rattle.levels.specs.Levels.{Levels, up_to, highest}
use Rattle.outcome.specs.declared.Outcome.{Outcome}
use Rattle.outcome.specs.declared.Outcome.TheVariants as outcome
use Rattle.search.specs.Search.{Tested, passed, failed, exhausted}
use Rattle.turns.specs.declared.Turn.{Turn}
use Rattle.turns.specs.declared.Turn.TheVariants.{Answer, Limit, Choose, Conflict}
use Rattle.turns.specs.declared.Back.{Back}
use Rattle.turns.specs.declared.Back.TheVariants.{End, Level}

-- `left` is the number of choices that are left
abbrev pub turn_of : ℕ → Outcome → Option ℕ → Tested → Bool → Turn
turn_of left outcome.Conflict o x m = Conflict 0
turn_of left outcome.Settled (some p) x true = Choose p
turn_of left outcome.Settled (some p) x false = Limit 0
turn_of left outcome.Settled none (passed n) m = Answer n
turn_of left outcome.Settled none (failed n) m = Conflict n
turn_of left outcome.Settled none exhausted m = Limit left

abbrev pub blamed : Outcome → Levels → ℕ → Levels
blamed outcome.Conflict C k = C
blamed outcome.Settled C k = up_to k

-- with m as the level to which a conflict goes back, k being present
abbrev pub back_to : (ℕ → ℕ) → ℕ → ℕ → Back
back_to choice k zero = End k
back_to choice k (suc j) = Level (suc j) (choice (suc j)) (k - suc j)

-- the choice atoms of levels 1 .. k are atoms
abbrev pub ChosenIn : (ℕ → ℕ) → ℕ → Type 0
ChosenIn choice k = (l : ℕ) → 1 ≤ l → l ≤ k → choice l ≤ 256

abbrev pub back_of : (ℕ → ℕ) → Levels → ℕ → Back
back_of choice C k = back_to choice k (highest C k)
