-- `second_search::held::undo` meets its contract. The invariant of its loop: the cells up to index i are undone, the others as they were. Assumes nothing.
use native.Mathlib.Omega.{arith}
use Prim.Native.Nat.{ℕ}
use mathlib.Core.Path.{◌≡◌, ap, ◌∙◌}
use mathlib.Core.List.{map}
use Rattle.interpretation.proofs.Laws.{partly, partly_start, partly_end}
use Rattle.second_search.specs.Looking.{record_at, cells_at}
use Rattle.second_search.proofs.Arrays.{whole_set, undo_at, keep_at}
use Rattle.second_search.proofs.held.undo.Goals as goal
use Rattle.second_search.proofs.held.undo.Goals.{then-m-levels, else-m-levels}

pub loop-i-init : goal.loop-i-init
loop-i-init c = let a = c.args in (c.requires, partly_start a.m a.values.now (map record_at a.levels.now))

pub loop-i-preserved : goal.loop-i-preserved
loop-i-preserved c =
    let a = cells_at c.args.values.now c.args.levels.now in
    let l = c.loop-i in
    let w = l.invariant.0 in
    elim c.if-m-levels.branch [
      | then-m-levels x ↦ rw (x.values-is, x.levels-is) (whole_set l.values l.levels l.i 0 0 w, undo_at c.args.m l.i a l.values l.levels w l.invariant.1 (omega arith) x.if-m-levels.true)
      | else-m-levels x ↦ rw (x.values-is, x.levels-is) (w, keep_at c.args.m l.i a l.values l.levels w l.invariant.1 x.if-m-levels.false)
    ]

pub returns : goal.returns
returns c =
    let a = c.args in
    let z : c.loop-i.i ≡ 256 = omega arith in
    let n = c.requires.0 in
    (c.loop-i.invariant.0, c.loop-i.invariant.1 ∙ ap (λ (k : ℕ). partly a.m k (cells_at a.values.now a.levels.now)) z ∙ partly_end a.m 256 a.values.now (map record_at a.levels.now) (omega arith))
