-- `aspif_aggregates::put_all_barred` meets its contract. The invariant of its loop: to lay the elements left from here is to lay all from the start. Assumes nothing.
use mathlib.Core.Path.{◌≡◌}
use Prim.Native.Nat.{◌+◌, ◌*◌}
use native.Mathlib.Omega.{arith}
use Rattle.bytes_out.proofs.Laws.{left_step, left_done}
use Rattle.aspif_parts.proofs.Elements.{each_on}
use Rattle.aspif_aggregates.proofs.Parts.{barred_on, barred_off}
use Rattle.aspif_aggregates.proofs.put_all_barred.Goals as goal

pub put_barred-to-requires : goal.put_barred-to-requires
put_barred-to-requires c = rw c.atom.ensures (each_on c.args.l.now (2 * c.loop-j.j) (omega arith) c.loop-j.invariant.0).0

pub loop-j-preserved : goal.loop-j-preserved
loop-j-preserved c =
    let m = c.args.l.now in
    let i = 2 * c.loop-j.j in
    let k : 2 * (c.loop-j.j + 1) ≡ i + 2 = omega arith in
    rw k ((each_on m i (omega arith) c.loop-j.invariant.0).1, left_step (barred_on c.args.test m i (omega arith)) c.loop-j.invariant.1 (rw (c.atom-value.ensures, c.atom.ensures) at c.put_barred-to.ensures))

pub returns : goal.returns
returns c =
    left_done (barred_off c.args.test c.args.l.now (2 * c.loop-j.j) (omega arith)) c.loop-j.invariant.1
