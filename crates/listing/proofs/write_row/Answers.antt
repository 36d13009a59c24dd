-- `listing::write_row` meets its contract. The invariant of its loop: the first i bytes of the row are written. Assumes nothing.
use mathlib.Core.Path.{refl, ap, ◌∙◌}
use mathlib.Core.List.{List}
use Prim.Native.Nat.{ℕ, ◌+◌}
use native.Mathlib.Omega.{arith}
use lib.ListN.{set, length-set}
use Rattle.interpretation.specs.State.{true_atoms}
use Rattle.interpretation.specs.View.{valued}
use Rattle.listing.proofs.Written.{put_none, put_more}
use Rattle.listing.proofs.write_row.Goals as goal

pub loop-i-init : goal.loop-i-init
loop-i-init c = let h = c.requires in (refl, put_none _ c.args.at c.args.rows.now (omega arith))

pub loop-i-preserved : goal.loop-i-preserved
loop-i-preserved c =
    let a = c.args in
    let p = c.requires in
    let k = c.loop-i-test.true in (
      simp length-set c.loop-i.invariant.0,
      ap (λ (l : List ℕ). set l (a.at + c.loop-i.i) c.row_byte.result) c.loop-i.invariant.1 ∙ put_more (true_atoms a.n (valued a.values.now)) a.at a.rows.now c.loop-i.i (omega arith) c.row_byte.result c.row_byte.ensures,
    )
