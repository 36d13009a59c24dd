-- `aspif_aggregates::put_barred` meets its contract. Assumes nothing.
use mathlib.Core.Path.{sym, ◌∙◌}
use native.Mathlib.Omega.{arith}
use Rattle.bytes_out.proofs.Laws.{put_none}
use Rattle.aspif_aggregates.proofs.Parts.{barred_yes, barred_no}
use Rattle.aspif_aggregates.proofs.put_barred.Goals as goal

pub returns-then-passes : goal.returns-then-passes
returns-then-passes c =
    rw (barred_yes c.args.test c.args.value c.args.atom c.requires (sym c.passes.ensures ∙ c.if-passes.true)) at c.put_signed.ensures

pub returns : goal.returns
returns c =
    rw (barred_no c.args.test c.args.value c.args.atom (sym c.passes.ensures ∙ c.if-passes.false)) (put_none _ _ (omega arith) (omega arith))
