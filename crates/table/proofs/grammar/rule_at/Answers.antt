-- `table::grammar::rule_at` meets its contract: the four lists, one after another. Assumes nothing.
use mathlib.Core.Path.{sym, ◌∙◌}
use Rattle.table.proofs.Returned.{ends}
use Rattle.table.proofs.Sections.{rule_stop1, rule_stop2, rule_stop3, rule_on}
use Rattle.table.proofs.grammar.rule_at.Goals as goal

pub returns-in_err-positive : goal.returns-in_err-positive
returns-in_err-positive c = ends _ _ c.from_residual.ensures.1 ∙ sym (rule_stop1 _ _ _ _ _ (sym c.in_err-positive.ensures))

pub returns-in_err-negated : goal.returns-in_err-negated
returns-in_err-negated c =
    ends _ _ c.from_residual-in_err-negated.ensures.1 ∙ sym (rule_stop2 _ _ _ _ _ (sym c.in_ok-positive.ensures) _ (sym c.in_err-negated.ensures))

pub returns-in_err-literals : goal.returns-in_err-literals
returns-in_err-literals c =
    ends _ _ c.from_residual-in_err-literals.ensures.1
    ∙ sym (rule_stop3 _ _ _ _ _ (sym c.in_ok-positive.ensures) _ (sym c.in_ok-negated.ensures) _ (sym c.in_err-literals.ensures))

pub returns : goal.returns
returns c =
    c.list_at-4.ensures
    ∙ sym (rule_on _ _ _ _ _ (sym c.in_ok-positive.ensures) _ (sym c.in_ok-negated.ensures) _ (sym c.in_ok-literals.ensures))
