-- `solver::plans::write` meets its contract. The invariant of its loop: the first i bytes are the plan's, the others are as they were. Assumes nothing.
use mathlib.Core.Path.{ap, ◌∙◌}
use mathlib.Core.List.{List}
use Prim.Native.Nat.{ℕ, ◌<◌}
use native.Mathlib.Omega.{arith}
use lib.ListN.{length, set}
use Rattle.interpretation.specs.State.{true_atoms}
use Rattle.interpretation.specs.View.{valued}
use Rattle.solver.proofs.Bytes.{plan_more, plan_byte}
use Rattle.solver.proofs.plans.write.Goals as goal

pub loop-i-preserved : goal.loop-i-preserved
loop-i-preserved c =
    let a = c.args in
    let i = c.loop-i.i in
    let h : i < length a.plan.now = omega arith in
    ap (λ (q : List ℕ). set q i c.bit.result) c.loop-i.invariant
    ∙ plan_more (true_atoms a.n (valued a.values)) a.plan.now i h c.bit.result (c.bit.ensures ∙ plan_byte a.values a.n i (omega arith))
