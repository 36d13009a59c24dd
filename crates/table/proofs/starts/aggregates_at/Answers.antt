-- `table::starts::aggregates_at` meets its contract: the count, then the aggregates. Assumes nothing.
use mathlib.Core.Path.{sym, ◌∙◌}
use Rattle.table.proofs.Placing.{section_stop, section_count, section_on}
use Rattle.table.proofs.Returned.{ends}
use Rattle.table.proofs.starts.aggregates_at.Goals as goal

pub returns-in_err-n : goal.returns-in_err-n
returns-in_err-n c = ends _ _ c.from_residual.ensures.1 ∙ sym (section_stop _ _ _ _ (sym c.in_err-n.ensures))

pub starts_at-requires : goal.starts_at-requires
starts_at-requires c = (section_count _ c.args.top _ _ _ (sym c.in_ok-n.ensures), c.requires)

pub returns : goal.returns
returns c = c.starts_at.ensures ∙ sym (section_on _ _ _ _ _ (sym c.in_ok-n.ensures))
