-- What the locals of a propagation stand for, in the terms of crate `steps` (01, "Propagation"). Definitions only.
--   work        the working state that the code's interpretation, reasons and flag stand for: no conflict so far
--   verdict_by   how the code says that a conflict was met
-- Assumes nothing.
use Rattle.std.specs.Prelude.{ℕ, Bool, List}
use Rattle.levels.specs.Levels.{Levels}
use Rattle.levels.specs.View.{rows}
use Rattle.interpretation.specs.View.{cells}
use Rattle.interpretation.specs.declared.Interpretation.{Interpretation}
use Rattle.outcome.specs.declared.Outcome.{Outcome}
use Rattle.outcome.specs.declared.Outcome.TheVariants.{Settled, Conflict}
use Rattle.steps.specs.Steps.{Verdict, settled, conflict, Work}

abbrev pub work : Interpretation → List (List ℕ) → Bool → Work
work it reasons changed = record { level = it.depth; cell = cells it.values it.records; reason = rows reasons; verdict = settled; changed = changed }

abbrev pub verdict_by : Outcome → Levels → Verdict
verdict_by Settled C = settled
verdict_by Conflict C = conflict C
