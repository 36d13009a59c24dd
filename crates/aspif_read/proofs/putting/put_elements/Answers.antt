-- `aspif_read::putting::put_elements` meets its contract. Assumes nothing.
use Rattle.aspif_read.proofs.Puts.{put_then, put_none, put_inside, put_long}
use Rattle.aspif_read.proofs.RowLaws.{weights_yes, weights_no, weights_none}
use Prim.Native.Nat.{ℕ, ◌+◌, ◌-◌}
use mathlib.Core.Path.{◌∙◌}
use native.Mathlib.Omega.{arith}
use Rattle.aspif_read.proofs.putting.put_elements.Goals as goal
use Rattle.aspif_read.proofs.putting.put_elements.Goals.{then-marks-place-gt0, else-marks-place-gt0}

pub loop-i-preserved : goal.loop-i-preserved
loop-i-preserved c =
    let v = c.loop-i.invariant in
    let m = c.args.marks.now in
    let i = c.loop-i.i in
    let at : ℕ = 768 in
    elim c.if-marks-place-gt0.branch [
      | then-marks-place-gt0 w ↦
          let q = w.put_element-to.ensures in
          rw (w.words-is, w.to-is) (
            put_inside _ _ _ _ _ q,
            put_long _ _ _ _ _ q ∙ v.1,
            λ r new k. v.2 r new (rw (weights_yes m (at + i) (i + 1) (256 - i) (at + (i + 1)) (i + 1 + 1) (256 - (i + 1)) (omega arith) (omega arith) (omega arith) w.if-marks-place-gt0.true) (put_then _ _ _ _ _ _ _ _ v.0 q k)),
          )
      | else-marks-place-gt0 w ↦ rw (w.words-is, w.to-is) (v.0, v.1, λ r new k. v.2 r new (rw (weights_no m (at + i) (i + 1) (256 - i) (at + (i + 1)) (i + 1 + 1) (256 - (i + 1)) (omega arith) (omega arith) (omega arith) w.if-marks-place-gt0.false) k))
    ]

pub returns : goal.returns
returns c = c.loop-i.invariant.2 _ _ (rw (weights_none _ _ _ (256 - c.loop-i.i) (omega arith)) (put_none _ _ c.loop-i.invariant.0))
