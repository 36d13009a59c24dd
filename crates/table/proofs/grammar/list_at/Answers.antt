-- `table::grammar::list_at` meets its contract: the count, then the members. Assumes nothing.
use mathlib.Core.Path.{sym, ◌∙◌}
use Rattle.table.proofs.Parts.{list_on, list_stop}
use Rattle.table.proofs.Returned.{ends}
use Rattle.table.proofs.grammar.list_at.Goals as goal

pub returns-in_err-n : goal.returns-in_err-n
returns-in_err-n c = ends _ _ c.from_residual.ensures.1 ∙ sym (list_stop _ _ _ _ _ _ (sym c.in_err-n.ensures))

pub returns : goal.returns
returns c = c.members_at.ensures ∙ sym (list_on _ _ _ _ _ _ _ (sym c.in_ok-n.ensures))
