-- `table::finish` meets its contract: the count, the rules, the end. Assumes nothing.
use mathlib.Core.Path.{sym, ◌∙◌}
use Rattle.table.proofs.Placing.{finish_stop, finish_stop2, finish_trailing, finish_end}
use Rattle.table.proofs.Returned.{ends}
use Rattle.table.proofs.finish.Goals as goal

pub returns-in_err-number : goal.returns-in_err-number
returns-in_err-number c = ends _ _ c.from_residual.ensures.1 ∙ sym (finish_stop _ _ _ c.args.places.starts _ _ (sym c.in_err-number.ensures))

pub returns-in_err-end : goal.returns-in_err-end
returns-in_err-end c =
    ends _ _ c.from_residual-in_err-end.ensures.1
    ∙ sym (finish_stop2 _ _ _ c.args.places.starts _ _ _ (sym c.in_ok-number.ensures) _ (sym c.in_err-end.ensures))

pub returns-then-end-t : goal.returns-then-end-t
returns-then-end-t c =
    sym (finish_trailing _ _ _ c.args.places.starts _ _ _ (sym c.in_ok-number.ensures) _ (sym c.in_ok-end.ensures) c.if-end-t.true)

pub returns : goal.returns
returns c = sym (finish_end _ _ _ c.args.places.starts _ _ _ (sym c.in_ok-number.ensures) _ (sym c.in_ok-end.ensures) c.if-end-t.false)
