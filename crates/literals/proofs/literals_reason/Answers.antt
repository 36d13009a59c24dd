-- `literals::literals_reason` meets its contract. Assumes nothing.
use Rattle.std.proofs.Common.{◌+◌, drop, sym, ap, ◌∙◌}
use Rattle.levels.specs.Levels.{Levels, union}
use Rattle.levels.specs.View.{row, rows}
use Rattle.interpretation.specs.View.{valued}
use Rattle.layout.specs.Layout.{literal_of}
use Rattle.valuing.specs.Values.{agg_lit}
use Rattle.valuing.specs.Reasons.{reasons_of}
use Rattle.literals.specs.Scan.{literal_lits}
use Rattle.literals.proofs.Walks.{reasons_on, reasons_end}
use Rattle.literals.proofs.literals_reason.Goals as goal

pub loop-k-preserved : goal.loop-k-preserved
loop-k-preserved c =
    let a = c.args in
    let k = c.loop-k.k in
    let X = valued a.values.now in
    let R = rows a.reasons.now in
    ap (λ (S : Levels). union (reasons_of X R (literal_lits a.t.now.words.now (drop (k + 1) a.l.now))) S) c.literal_reason-next.ensures
    ∙ reasons_on a.l.now k X R (literal_of a.t.now.words.now) agg_lit c.loop-k-test.true (row c.loop-k.acc) ∙ c.loop-k.invariant

pub returns : goal.returns
returns c =
    let a = c.args in
    sym (reasons_end a.l.now c.loop-k.k (valued a.values.now) (rows a.reasons.now) (literal_of a.t.now.words.now) agg_lit c.loop-k-test.false (row c.loop-k.acc)) ∙ c.loop-k.invariant
