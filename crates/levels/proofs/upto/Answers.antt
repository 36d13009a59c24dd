-- `levels::upto` meets its contract. Assumes nothing.
use mathlib.Core.Path.{ap, ◌∙◌}
use Prim.Native.Nat.{◌+◌}
use Rattle.levels.specs.Levels.{union, only}
use Rattle.levels.proofs.Laws.{upto_zero, upto_more}
use Rattle.levels.proofs.upto.Goals as goal

pub loop-below-init : goal.loop-below-init
loop-below-init c = c.empty-a.ensures ∙ upto_zero

pub loop-below-preserved : goal.loop-below-preserved
loop-below-preserved c = c.with-next.ensures ∙ ap (union (only (c.loop-below.below + 1))) c.loop-below.invariant ∙ upto_more c.loop-below.below
