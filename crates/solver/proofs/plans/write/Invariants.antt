-- `solver::plans::write` meets its contract. The invariant of its loop: the first i bytes are the plan's, the others are as they were. Assumes nothing.
use mathlib.Core.Path.{◌≡◌}
use Rattle.interpretation.specs.State.{true_atoms}
use Rattle.interpretation.specs.View.{valued}
use Rattle.promises.specs.Plans.{plan_with}
use Rattle.solver.proofs.plans.write.Given as goal

abbrev pub invariant-loop-i : goal.invariant-loop-i
invariant-loop-i l = l.plan ≡ plan_with l.i (true_atoms l.n (valued l.values)) l.initial.plan
