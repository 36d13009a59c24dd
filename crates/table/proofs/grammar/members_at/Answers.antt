-- `table::grammar::members_at` meets its contract: the members one by one. Assumes nothing.
use mathlib.Core.Path.{sym, ◌∙◌}
use Rattle.table.proofs.Parts.{members_on, members_stop, members_none}
use Rattle.table.proofs.Returned.{ends}
use Rattle.table.proofs.grammar.members_at.Goals as goal

pub returns-in_err-a : goal.returns-in_err-a
returns-in_err-a c =
    ends _ _ c.from_residual.ensures.1
    ∙ sym (members_stop _ _ _ _ _ c.loop.counter _ _ c.loop-test.true (sym c.in_err-a.ensures))
    ∙ c.loop.invariant

pub loop-preserved : goal.loop-preserved
loop-preserved c = sym (members_on _ _ _ _ _ c.loop.counter _ _ _ c.loop-test.true (sym c.in_ok-a.ensures)) ∙ c.loop.invariant

pub returns : goal.returns
returns c = sym (members_none _ _ _ _ _ c.loop.counter _ c.loop-test.false) ∙ c.loop.invariant
