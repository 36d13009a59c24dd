-- `table::grammar::aggregate_at` meets its contract: four words, then the elements. Assumes nothing.
use mathlib.Core.Path.{sym, ◌∙◌}
use Rattle.table.proofs.Returned.{ends}
use Rattle.table.proofs.Sections.{aggregate_stop1, aggregate_stop2, aggregate_stop3, aggregate_stop4, aggregate_on}
use Rattle.table.proofs.grammar.aggregate_at.Goals as goal

pub returns-in_err-comparison : goal.returns-in_err-comparison
returns-in_err-comparison c = ends _ _ c.from_residual.ensures.1 ∙ sym (aggregate_stop1 _ _ _ _ (sym c.in_err-comparison.ensures))

pub returns-in_err-threshold : goal.returns-in_err-threshold
returns-in_err-threshold c =
    ends _ _ c.from_residual-in_err-threshold.ensures.1
    ∙ sym (aggregate_stop2 _ _ _ _ _ (sym c.in_ok-comparison.ensures) _ (sym c.in_err-threshold.ensures))

pub returns-in_err-count : goal.returns-in_err-count
returns-in_err-count c =
    ends _ _ c.from_residual-in_err-count.ensures.1
    ∙ sym (aggregate_stop3 _ _ _ _ _ (sym c.in_ok-comparison.ensures) _ _ (sym c.in_ok-threshold.ensures) _ (sym c.in_err-count.ensures))

pub returns-in_err-n : goal.returns-in_err-n
returns-in_err-n c =
    ends _ _ c.from_residual-in_err-n.ensures.1
    ∙ sym (aggregate_stop4 _ _ _ _ _ (sym c.in_ok-comparison.ensures) _ _ (sym c.in_ok-threshold.ensures) _ _ (sym c.in_ok-count.ensures) _ (sym c.in_err-n.ensures))

pub returns : goal.returns
returns c =
    c.elements_at.ensures
    ∙ sym (aggregate_on _ _ _ _ _ (sym c.in_ok-comparison.ensures) _ _ (sym c.in_ok-threshold.ensures) _ _ (sym c.in_ok-count.ensures) _ _ (sym c.in_ok-n.ensures))
