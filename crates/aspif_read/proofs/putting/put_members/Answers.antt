-- `aspif_read::putting::put_members` meets its contract. Assumes nothing.
use Rattle.aspif_read.proofs.Puts.{put_then, put_none, put_inside, put_long}
use Rattle.aspif_read.proofs.RowLaws.{row_yes, row_no, row_none}
use Prim.Native.Nat.{◌+◌, ◌*◌, ◌-◌}
use mathlib.Core.Path.{◌≡◌, refl, ◌∙◌}
use native.Mathlib.Omega.{arith}
use Rattle.aspif_read.proofs.putting.put_members.Goals as goal
use Rattle.aspif_read.proofs.putting.put_members.Goals.{then-marks-place-gt0, else-marks-place-gt0}

pub loop-i-init : goal.loop-i-init
loop-i-init c = (c.requires.0, refl, λ r new k. let e : c.args.row * 256 ≡ c.args.row * 256 + 0 = omega arith in rw e k)

pub loop-i-preserved : goal.loop-i-preserved
loop-i-preserved c =
    let v = c.loop-i.invariant in
    let m = c.args.marks.now in
    let i = c.loop-i.i in
    let at = c.args.row * 256 in
    elim c.if-marks-place-gt0.branch [
      | then-marks-place-gt0 w ↦
          let q = w.put-to.ensures in
          rw (w.words-is, w.to-is) (
            put_inside _ _ _ _ _ q,
            put_long _ _ _ _ _ q ∙ v.1,
            λ r new k. v.2 r new (rw (row_yes m (at + i) (i + 1) (256 - i) (at + (i + 1)) (i + 1 + 1) (256 - (i + 1)) (omega arith) (omega arith) (omega arith) w.if-marks-place-gt0.true) (put_then _ _ _ _ _ _ _ _ v.0 q k)),
          )
      | else-marks-place-gt0 w ↦ rw (w.words-is, w.to-is) (v.0, v.1, λ r new k. v.2 r new (rw (row_no m (at + i) (i + 1) (256 - i) (at + (i + 1)) (i + 1 + 1) (256 - (i + 1)) (omega arith) (omega arith) (omega arith) w.if-marks-place-gt0.false) k))
    ]

pub returns : goal.returns
returns c = c.loop-i.invariant.2 _ _ (rw (row_none _ _ _ (256 - c.loop-i.i) (omega arith)) (put_none _ _ c.loop-i.invariant.0))
