-- `text::printer::put` meets its contract. The invariant of its loop: the bytes passed have been put. Assumes nothing.
use native.Mathlib.Numerals.{add-one}
use lib.Seq.{take-suc}
use Rattle.text.proofs.Putting.{put_then}
use Rattle.text.proofs.printer.put.Goals as goal

pub loop-b-preserved : goal.loop-b-preserved
loop-b-preserved c =
    rw (add-one c.loop-b.b-index, take-suc c.args.text.now c.loop-b.b-index 0 c.loop-b-test.true) (put_then _ _ _ _ _ _ _ _ c.requires c.loop-b.invariant c.put_byte-to.ensures)
