-- `aspif_aggregates::put_weight` meets its contract. Assumes nothing.
use mathlib.Core.Path.{sym, ◌∙◌}
use native.Mathlib.Omega.{arith}
use Rattle.bytes_out.proofs.Laws.{put_then, put_none}
use Rattle.aspif_aggregates.proofs.Parts.{weight_yes, weight_no}
use Rattle.aspif_aggregates.proofs.put_weight.Goals as goal

pub returns-then-count : goal.returns-then-count
returns-then-count c =
    let e = sym c.passes.ensures ∙ c.if-passes.true in
    rw (weight_yes c.args.test c.args.count c.args.value c.args.atom e, c.if-count.true) (put_then c.put_field-after_atom.ensures c.put_field.ensures)

pub returns-then-passes : goal.returns-then-passes
returns-then-passes c =
    let e = sym c.passes.ensures ∙ c.if-passes.true in
    rw (weight_yes c.args.test c.args.count c.args.value c.args.atom e, c.if-count.false) (put_then c.put_field-after_atom.ensures c.put_field-then-passes.ensures)

pub returns : goal.returns
returns c =
    rw (weight_no c.args.test c.args.count c.args.value c.args.atom (sym c.passes.ensures ∙ c.if-passes.false)) (put_none _ _ (omega arith) (omega arith))
