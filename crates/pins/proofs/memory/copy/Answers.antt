-- `pins::memory::copy` meets its contract. Assumes nothing.
use borrow.Author.Rules.{rules}
use mathlib.Core.Path.{◌≡◌, ap, ◌∙◌}
use mathlib.Core.List.{List}
use native.Mathlib.Omega.{arith}
use lib.IntN.{ℤ, pos}
use lib.ListN.{get_or, set, length-set}
use mir.Syntax.{w32}
use mir.Val.{to_z, of_z}
use Rattle.pins.proofs.Words.{copied_more}
use Rattle.pins.proofs.memory.copy.Goals as goal

pub loop-i-preserved : goal.loop-i-preserved
loop-i-preserved c =
    let a = c.args in
    let i = c.loop-i.i in
    let h = c.loop-i-test.true in
    let z = get_or a.words.now i (pos 0) in
    let k : to_z w32 (of_z w32 z) ≡ z = search rules in (
      length-set c.loop-i.s i (to_z w32 (of_z w32 z)) ∙ c.loop-i.invariant.0,
      ap (λ (y : ℤ). set c.loop-i.s i y) k ∙ ap (λ (l : List ℤ). set l i z) c.loop-i.invariant.1 ∙ copied_more a.words.now a.s.now i h (omega arith),
    )
