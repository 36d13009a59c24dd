-- `aspif_aggregates::put_if_good` meets its contract. Assumes nothing.
use mathlib.Core.Path.{sym, ◌∙◌}
use native.Mathlib.Omega.{arith}
use Rattle.layout.specs.Layout.{pairs}
use Rattle.bytes_out.proofs.Laws.{put_none}
use Rattle.aspif_aggregates.proofs.Parts.{good_yes, good_no}
use Rattle.aspif_aggregates.proofs.put_if_good.Goals as goal

pub returns-then-passes : goal.returns-then-passes
returns-then-passes c =
    rw (good_yes c.args.p c.args.good c.args.bad (pairs c.args.l.now) c.args.value c.args.atom (sym c.passes.ensures ∙ c.if-passes.true)) at c.put_good.ensures

pub returns : goal.returns
returns c =
    rw (good_no c.args.p c.args.good c.args.bad (pairs c.args.l.now) c.args.value c.args.atom (sym c.passes.ensures ∙ c.if-passes.false)) (put_none _ _ (omega arith) (omega arith))
