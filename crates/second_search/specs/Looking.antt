-- What the code of the second search hands back, in the terms of crates `steps`, `search` and `smaller`. Definitions only; they need not be believed: the contract of
-- the test speaks of `smaller_test` alone.
--   Like         working states that differ in reasons only
--   cells_at      the cells that an array of values and one of levels stand for;  view_of: the interpretation, with the choice atoms and the present level
--   Whole        both arrays have their 256 elements
--   work_of       the working state that arrays and what a pass did stand for
--   asked_of      what is asked of a rule, by whether it is in the reduct
--   start_of      the interpretation at the start: the atoms outside the candidate false
--   turn_of       what a turn does after propagation, by whether there was a conflict, the lowest undefined atom, whether an atom is lacking, and the limit
--   tested_of     what the code says of the candidate
-- Assumes nothing.
use Rattle.std.specs.Prelude.{ℕ, ◌≡◌, Bool, true, false, List, map, length}
use Rattle.std.proofs.Math.Option.{Option, none, some}
use Rattle.meaning.specs.Aggregates.{Atoms}
use Rattle.levels.specs.Levels.{no_levels}
use Rattle.interpretation.specs.State.{Cell, Interpretation}
use Rattle.interpretation.specs.View.{cells, choices}
use Rattle.interpretation.specs.declared.Record.{Record}
use Rattle.steps.specs.Steps.{Verdict, settled, conflict, is_settled, Work}
use Rattle.search.specs.Search as search
use Rattle.search.specs.Search.{pinned_cell}
use Rattle.search.specs.Engine.{no_reasons}
use Rattle.rules.specs.declared.Step.{Step}
use Rattle.rules.specs.declared.Step.TheVariants as step
use Rattle.smaller.specs.Smaller.{others}
use Rattle.second_search.specs.declared.Turn.{Turn}
use Rattle.second_search.specs.declared.Turn.TheVariants.{Smaller, Limit, Choose, Back}
use Rattle.second_search.specs.declared.Tested.{Tested}
use Rattle.second_search.specs.declared.Tested.TheVariants.{Passed, Failed, Exhausted}

-- the record of an atom that was set at level l
abbrev pub record_at : ℕ → Record
record_at l = record { level = l; round = 0; rule = 0 }

-- the cells by values and levels
abbrev pub cells_at : List ℕ → List ℕ → ℕ → Cell
cells_at vs ls = cells vs (map record_at ls)

abbrev pub view_of : List ℕ → List ℕ → List ℕ → ℕ → Interpretation
view_of vs ls xs d = record { level = d; choice = choices xs d; cell = cells_at vs ls }

abbrev pub Whole : List ℕ → List ℕ → Type 0
Whole vs ls = (length vs ≡ 256) × (length ls ≡ 256)

pub record Like (w u : Work) : Type 0 where
  pub level : w.level ≡ u.level
  pub cells : w.cell ≡ u.cell
  pub same : is_settled w.verdict ≡ is_settled u.verdict
  pub moved : w.changed ≡ u.changed

abbrev pub verdict_by : Bool → Verdict
verdict_by true = conflict no_levels
verdict_by false = settled

-- a level and cells as a working state, with what passes say of themselves
abbrev pub work_of : ℕ → (ℕ → Cell) → Bool → Bool → Work
work_of d a changed conflicting = record { level = d; cell = a; reason = no_reasons; verdict = verdict_by conflicting; changed = changed }

abbrev pub asked_of : Bool → Step → Step
asked_of true d = d
asked_of false d = step.Nothing

abbrev pub start_cells : ℕ → Atoms → ℕ → Cell
start_cells n X = λ p. pinned_cell (others n X p)

abbrev pub start_of : ℕ → Atoms → Interpretation
start_of n X = record { level = 0; choice = λ l. 0; cell = start_cells n X }

-- the last: one more choice is allowed
abbrev pub turn_of : Bool → Option ℕ → Bool → Bool → Turn
turn_of true o lacks more = Back
turn_of false (some p) lacks true = Choose p
turn_of false (some p) lacks false = Limit
turn_of false none true more = Smaller
turn_of false none false more = Back

abbrev pub tested_of : Tested → search.Tested
tested_of (Passed k) = search.passed k
tested_of (Failed k) = search.failed k
tested_of Exhausted = search.exhausted
