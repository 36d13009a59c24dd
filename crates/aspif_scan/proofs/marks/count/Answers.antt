-- `aspif_scan::marks::count` meets its contract. Assumes nothing.
use Rattle.aspif_scan.specs.Marks.{row_from}
use Rattle.aspif_scan.proofs.Laws.{count_yes, count_no, count_none}
use lib.ListN.{length}
use mathlib.Core.Path.{◌≡◌, ap}
use Prim.Native.Nat.{ℕ, suc, ◌+◌, ◌*◌, ◌-◌}
use native.Mathlib.Omega.{arith}
use Rattle.aspif_scan.proofs.marks.count.Goals as goal
use Rattle.aspif_scan.proofs.marks.count.Goals.{then-marks-row-gt0, else-marks-row-gt0}

pub loop-i-init : goal.loop-i-init
loop-i-init c =
    let m = c.args.marks.now in
    let e : length (row_from m (c.args.row * 256 + 0) 1 256) ≡ length (row_from m (c.args.row * 256) 1 256) = ap (λ (x : ℕ). length (row_from m x 1 256)) (omega arith) in
    (omega arith, omega arith)

pub loop-i-preserved : goal.loop-i-preserved
loop-i-preserved c =
    let m = c.args.marks.now in
    let at = c.args.row * 256 in
    let i = c.loop-i.i in
    elim c.if-marks-row-gt0.branch [
      | then-marks-row-gt0 w ↦
          let e = count_yes m (at + i) (suc i) (256 - i) (at + (i + 1)) (suc (i + 1)) (256 - (i + 1)) (omega arith) (omega arith) (omega arith) w.if-marks-row-gt0.true in
          (omega arith, omega arith)
      | else-marks-row-gt0 w ↦
          let e = count_no m (at + i) (suc i) (256 - i) (at + (i + 1)) (suc (i + 1)) (256 - (i + 1)) (omega arith) (omega arith) (omega arith) w.if-marks-row-gt0.false in
          (omega arith, omega arith)
    ]

pub returns : goal.returns
returns c =
    let i = c.loop-i.i in
    let e = count_none c.args.marks.now (c.args.row * 256 + i) (suc i) (256 - i) (omega arith) in
    let k = c.loop-i.invariant in
    record { value = omega arith; upper_bound = omega arith }
