-- `aspif_aggregates::put_all_good` meets its contract. The invariant of its loop: to lay the lines of the elements left from here is to lay all from the start. Assumes nothing.
use mathlib.Core.Path.{◌≡◌}
use Prim.Native.Nat.{◌+◌, ◌*◌}
use native.Mathlib.Omega.{arith}
use Rattle.layout.specs.Layout.{pairs}
use Rattle.bytes_out.proofs.Laws.{left_step, left_done}
use Rattle.aspif_aggregates.proofs.Parts.{good_on, good_off}
use Rattle.aspif_aggregates.proofs.put_all_good.Goals as goal

pub loop-j-preserved : goal.loop-j-preserved
loop-j-preserved c =
    let m = c.args.l.now in
    let i = 2 * c.loop-j.j in
    let k : 2 * (c.loop-j.j + 1) ≡ i + 2 = omega arith in
    rw k (left_step (good_on c.args.p c.args.good c.args.bad (pairs m) m i (omega arith)) c.loop-j.invariant (rw (c.atom-value.ensures, c.atom.ensures) at c.put_if_good-to.ensures))

pub returns : goal.returns
returns c =
    left_done (good_off c.args.p c.args.good c.args.bad (pairs c.args.l.now) c.args.l.now (2 * c.loop-j.j) (omega arith)) c.loop-j.invariant
