-- `aspif_aggregates::put_reached` meets its contract: its parts are laid one after the other. Assumes nothing.
use mathlib.Core.Path.{sym, ◌∙◌}
use Rattle.layout.specs.Layout.{pairs}
use Rattle.bytes_out.proofs.Laws.{put_then}
use Rattle.aspif_parts.specs.Parts.{weights_by}
use Rattle.aspif_aggregates.proofs.Parts.{fact_line, weight_line, weights_long}
use Rattle.aspif_aggregates.proofs.put_reached.Goals as goal

pub returns-then-b-eq0 : goal.returns-then-b-eq0
returns-then-b-eq0 c =
    rw (c.if-b-eq0.true, ← fact_line c.args.p (weights_by c.args.test c.args.count (pairs c.args.l.now))) (put_then c.put_new-after_head.ensures c.put.ensures)

pub returns : goal.returns
returns c =
    rw (← weight_line c.args.p c.args.b c.passing.result (weights_by c.args.test c.args.count (pairs c.args.l.now)) c.if-b-eq0.false (c.passing.ensures.0 ∙ sym (weights_long c.args.test c.args.count (pairs c.args.l.now))))
    (put_then c.put_new-after_head.ensures (put_then c.put-begun.ensures (put_then c.put_field-after_bound.ensures (put_then c.put_field-counted.ensures (put_then c.put_weights-after_weights.ensures c.put_byte.ensures)))))
