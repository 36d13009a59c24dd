-- `bytes_out::put` meets its contract. The invariant of its loop: to lay the bytes left from here is to lay all from the start. Assumes nothing.
use mathlib.Core.Path.{◌≡◌}
use mathlib.Core.List.{[], ◌∷◌, ◌++◌}
use Prim.Native.Nat.{◌+◌}
use native.Mathlib.Numerals.{add-one}
use lib.ListN.{get_or, drop, drop_of_length-le}
use lib.Seq.{drop-cons}
use Rattle.bytes_out.proofs.Laws.{left_step, left_done}
use Rattle.bytes_out.proofs.put.Goals as goal

pub loop-b-preserved : goal.loop-b-preserved
loop-b-preserved c =
    let e : drop c.loop-b.b-index c.args.text.now ≡ (get_or c.args.text.now c.loop-b.b-index 0 ∷ []) ++ drop (c.loop-b.b-index + 1) c.args.text.now =
    rw (add-one c.loop-b.b-index) (drop-cons c.args.text.now c.loop-b.b-index 0 c.loop-b-test.true) in
    left_step e c.loop-b.invariant c.put_byte-to.ensures

pub returns : goal.returns
returns c = left_done (drop_of_length-le c.args.text.now c.loop-b-test.false) c.loop-b.invariant
