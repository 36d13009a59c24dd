-- `table::grammar::elements_at` meets its contract: the pairs one by one. Assumes nothing.
use mathlib.Core.Path.{sym, ◌∙◌}
use Rattle.table.proofs.Parts.{elements_on, elements_stop, elements_stop_atom, elements_none}
use Rattle.table.proofs.Returned.{ends}
use Rattle.table.proofs.grammar.elements_at.Goals as goal

pub returns-in_err-place : goal.returns-in_err-place
returns-in_err-place c =
    ends _ _ c.from_residual.ensures.1
    ∙ sym (elements_stop _ _ _ _ c.loop.counter _ _ c.loop-test.true (sym c.in_err-place.ensures))
    ∙ c.loop.invariant

pub returns-in_err-a : goal.returns-in_err-a
returns-in_err-a c =
    ends _ _ c.from_residual-in_err-a.ensures.1
    ∙ sym (elements_stop_atom _ _ _ _ c.loop.counter _ _ _ _ c.loop-test.true (sym c.in_ok-place.ensures) (sym c.in_err-a.ensures))
    ∙ c.loop.invariant

pub loop-preserved : goal.loop-preserved
loop-preserved c =
    sym (elements_on _ _ _ _ c.loop.counter _ _ _ _ _ c.loop-test.true (sym c.in_ok-place.ensures) (sym c.in_ok-a.ensures))
    ∙ c.loop.invariant

pub returns : goal.returns
returns c = sym (elements_none _ _ _ _ c.loop.counter _ c.loop-test.false) ∙ c.loop.invariant
