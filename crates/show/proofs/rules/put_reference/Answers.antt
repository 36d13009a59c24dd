-- `show::rules::put_reference` meets its contract. Assumes nothing.
use Prim.Native.Nat.{◌-◌}
use native.Mathlib.Omega.{arith}
use borrow.Author.Tests.{lt-leb}
use Rattle.show.proofs.Texts.{aggregate_is}
use Rattle.show.proofs.rules.put_reference.Goals as goal

pub returns : goal.returns
returns c =
    let args = c.args in
    let pre = c.requires in
    let at-if1 = c.if-j-d in
    let at-start = c.start in
    let at-put-aggregate = c.put_aggregate in
    rw (lt-leb args.j args.d at-if1.false) (rw (aggregate_is args.t.now.words.now args.t.now.places c.args.t.now.laid (args.j - 1) at-start.result (omega (arith, pre.0, pre.1)) at-start.ensures) at at-put-aggregate.ensures)
