-- `plain::passes::forced_by` meets its contract. The invariant of its loop: what step e makes of the pass at hand is like what it makes of the first one. The measure
-- is the number of undefined atoms.
-- Assumes nothing.
use mathlib.Core.Path.{◌≡◌}
use mathlib.Core.Option.{some}
use Rattle.levels.specs.Levels.{no_levels}
use Rattle.interpretation.specs.View.{valued}
use Rattle.layout.specs.Layout.{rule_at}
use Rattle.steps.specs.Steps.{step_e}
use Rattle.plain.specs.Passes.{Like, work_of, undefined_to}
use Rattle.plain.proofs.passes.forced_by.Given as goal

abbrev pub invariant-loop-p : goal.invariant-loop-p
invariant-loop-p l = Like (step_e (some (rule_at l.t.words.now l.at)) no_levels (work_of l.side)) (step_e (some (rule_at l.t.words.now l.at)) no_levels (work_of l.initial.side)) × (l.side.choices ≡ l.initial.side.choices)

abbrev pub decreases-loop-p : goal.decreases-loop-p
decreases-loop-p l = undefined_to l.t.places.atoms (valued l.side.values)
