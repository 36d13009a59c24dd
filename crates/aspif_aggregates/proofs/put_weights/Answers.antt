-- `aspif_aggregates::put_weights` meets its contract. The invariant of its loop: to lay the elements left from here is to lay all from the start. Assumes nothing.
use mathlib.Core.Path.{◌≡◌}
use Prim.Native.Nat.{◌+◌, ◌*◌}
use native.Mathlib.Omega.{arith}
use Rattle.bytes_out.proofs.Laws.{left_step, left_done}
use Rattle.aspif_aggregates.proofs.Parts.{weights_on, weights_off}
use Rattle.aspif_aggregates.proofs.put_weights.Goals as goal

pub loop-j-preserved : goal.loop-j-preserved
loop-j-preserved c =
    let m = c.args.l.now in
    let i = 2 * c.loop-j.j in
    let k : 2 * (c.loop-j.j + 1) ≡ i + 2 = omega arith in
    rw k (left_step (weights_on c.args.test c.args.count m i (omega arith)) c.loop-j.invariant (rw (c.atom-value.ensures, c.atom.ensures) at c.put_weight-to.ensures))

pub returns : goal.returns
returns c =
    left_done (weights_off c.args.test c.args.count c.args.l.now (2 * c.loop-j.j) (omega arith)) c.loop-j.invariant
