-- `second_search::lacks_one` meets its contract. The invariant of its loop: no atom below p is lacking. Assumes nothing.
use native.Mathlib.Omega.{arith}
use Prim.Native.Nat.{◌+◌, ◌-◌}
use mathlib.Core.Path.{◌≡◌, sym, ap, ◌∙◌}
use Rattle.meaning.specs.Program.{In}
use Rattle.interpretation.specs.State.{true_atoms}
use Rattle.interpretation.specs.View.{valued}
use Rattle.foundation.proofs.Decided.{true_at}
use Rattle.smaller.specs.Smaller.{lacks_one}
use Rattle.second_search.proofs.Lacking.{lacks_to, lacks_at, lacks_not, lacks_kept}
use Rattle.second_search.proofs.lacks_one.Goals as goal
use Rattle.second_search.proofs.lacks_one.Goals.{else-is_true-via-then-is_true+else-not-is_true, else-is_true-via-else-is_true}

pub returns-then-not-is_true : goal.returns-then-not-is_true
unfolding lacks_one
returns-then-not-is_true c =
    let a = c.args in
    let k = c.loop-p-test.true in
    let m = c.loop-p.auto.p in
    let p = c.loop-p.p in
    let I : In a.n p = (omega arith, omega arith) in
    sym (lacks_at (true_atoms a.n (valued a.candidate.now)) (true_atoms a.n (valued a.values.now)) a.n p (omega arith) (omega arith)
    (true_at a.n (valued a.candidate.now) p I ∙ sym c.is_true.ensures ∙ c.if-is_true.true)
    (true_at a.n (valued a.values.now) p I ∙ sym c.is_true-then-is_true.ensures ∙ c.if-not-is_true.true))

pub loop-p-preserved : goal.loop-p-preserved
loop-p-preserved c =
    let a = c.args in
    let k = c.loop-p-test.true in
    let m = c.loop-p.auto.p in
    let p = c.loop-p.p in
    let I : In a.n p = (omega arith, omega arith) in
    let X = true_atoms a.n (valued a.candidate.now) in
    let Y = true_atoms a.n (valued a.values.now) in
    let e : p + 1 - 1 ≡ p = omega arith in
    ap (lacks_to X Y) e ∙ elim c.else-is_true.branch [
      | else-is_true-via-then-is_true+else-not-is_true w ↦ lacks_kept X Y p m (true_at a.n (valued a.values.now) p I ∙ sym w.is_true-then-is_true.ensures ∙ w.if-not-is_true.false) ∙ c.loop-p.invariant
      | else-is_true-via-else-is_true w ↦ lacks_not X Y p m (true_at a.n (valued a.candidate.now) p I ∙ sym c.is_true.ensures ∙ w.if-is_true.false) ∙ c.loop-p.invariant
    ]

pub returns : goal.returns
unfolding lacks_one
returns c =
    let a = c.args in
    let k = c.loop-p-test.false in
    let m = c.loop-p.auto.p-end (omega arith) in
    let e : c.loop-p.p - 1 ≡ a.n = omega arith in
    sym (ap (lacks_to (true_atoms a.n (valued a.candidate.now)) (true_atoms a.n (valued a.values.now))) (sym e) ∙ c.loop-p.invariant)
