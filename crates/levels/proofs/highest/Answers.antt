-- `levels::highest` meets its contract. Assumes nothing.
use mathlib.Core.Path.{sym, ◌∙◌}
use native.Mathlib.Omega.{arith}
use Rattle.levels.proofs.Laws.{highest_zero, highest_stop, highest_on}
use Rattle.levels.proofs.highest.Goals as goal

pub returns-then-has : goal.returns-then-has
returns-then-has c = sym (highest_stop _ _ (omega arith) (sym c.has.ensures ∙ c.if-has.true)) ∙ c.loop-l.invariant

pub loop-l-preserved : goal.loop-l-preserved
loop-l-preserved c = sym (highest_on _ _ (omega arith) (sym c.has.ensures ∙ c.if-has.false)) ∙ c.loop-l.invariant

pub returns : goal.returns
returns c = sym (highest_zero _ _ (omega arith)) ∙ c.loop-l.invariant
