-- `table::grammar::rules_at` meets its contract: the rules one by one. Assumes nothing.
use mathlib.Core.Path.{sym, ◌∙◌}
use Rattle.table.proofs.Parts.{times_on, times_stop, times_none}
use Rattle.table.proofs.Returned.{ends}
use Rattle.table.proofs.grammar.rules_at.Goals as goal

pub returns-in_err-at : goal.returns-in_err-at
returns-in_err-at c =
    ends _ _ c.from_residual.ensures.1
    ∙ sym (times_stop _ _ _ c.loop.counter _ _ c.loop-test.true (sym c.in_err-at.ensures))
    ∙ c.loop.invariant

pub loop-preserved : goal.loop-preserved
loop-preserved c = sym (times_on _ _ _ c.loop.counter _ _ c.loop-test.true (sym c.in_ok-at.ensures)) ∙ c.loop.invariant

pub returns : goal.returns
returns c = sym (times_none _ _ _ c.loop.counter _ c.loop-test.false) ∙ c.loop.invariant
