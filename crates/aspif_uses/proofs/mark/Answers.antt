-- `aspif_uses::mark` meets its contract. The invariant of its loop: the marks with the literals left are those of the whole list. Assumes nothing.
use mathlib.Core.Path.{sym, ◌∙◌}
use Prim.Native.Nat.{◌<◌}
use native.Mathlib.Omega.{arith}
use lib.IntN.{pos}
use lib.ListN.{get_or, length-set}
use Rattle.aspif_parts.proofs.Marking.{place_low, mark_on, mark_none}
use Rattle.aspif_uses.proofs.mark.Goals as goal

pub offset_bounds-marks-at : goal.offset_bounds-marks-at
offset_bounds-marks-at c =
    let low : c.place-at.result < 128 =
    let k = c.requires c.loop-i.i c.loop-i-test.true in
    rw c.place-at.ensures (place_low (get_or c.args.l.now c.loop-i.i (pos 0)) k.0 k.1) in
    omega (arith, low)

pub bounds-marks-at : goal.bounds-marks-at
bounds-marks-at c =
    let low : c.place-at.result < 128 =
    let k = c.requires c.loop-i.i c.loop-i-test.true in
    rw c.place-at.ensures (place_low (get_or c.args.l.now c.loop-i.i (pos 0)) k.0 k.1) in
    omega (arith, low, c.loop-i.invariant.1)

pub loop-i-preserved : goal.loop-i-preserved
loop-i-preserved c =
    let i = c.loop-i.invariant in
    (omega arith, simp length-set i.1, rw c.place-at.ensures (sym (mark_on c.loop-i.marks c.args.l.now c.loop-i.i c.loop-i-test.true) ∙ i.2))

pub returns : goal.returns
returns c = sym (mark_none c.loop-i.marks c.args.l.now c.loop-i.i c.loop-i-test.false) ∙ c.loop-i.invariant.2
