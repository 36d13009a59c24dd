-- `solver::plans::values_of` meets its contract. The invariant of its loop: the first i values are the plan's. Assumes nothing.
use native.Mathlib.Omega.{arith}
use Rattle.solver.proofs.Offered.{offers}
use Rattle.solver.proofs.plans.values_of.Goals as goal

pub returns : goal.returns
returns c = offers c.args.n c.args.plan.now c.loop-i.values (λ j h. c.loop-i.invariant.1 j (omega arith))
