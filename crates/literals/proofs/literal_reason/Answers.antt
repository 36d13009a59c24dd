-- `literals::literal_reason` meets its contract. Assumes nothing.
use mathlib.Core.Path.{ap, ◌∙◌}
use Prim.Native.Nat.{ℕ}
use Rattle.interpretation.specs.View.{valued}
use Rattle.layout.specs.Layout.{aggregate_at}
use Rattle.levels.specs.Levels.{union}
use Rattle.levels.specs.View.{row, rows}
use Rattle.layout.specs.Layout.{aggregate_at}
use Rattle.valuing.specs.Settling.{settling_of}
use Rattle.valuing.specs.Reasons.{reasons_at, reason_of}
use Rattle.literals.proofs.Pairs.{place}
use Rattle.literals.proofs.literal_reason.Goals as goal

pub returns : goal.returns
unfolding reason_of
returns c =
    let a = c.args in
    let p = c.requires in
    let X = valued a.values.now in
    let R = rows a.reasons.now in
    c.aggregate_reason.ensures
    ∙ ap (λ (i : ℕ). union (reasons_at R (settling_of X (aggregate_at a.t.now.words.now i))) (row a.more)) (c.start-at.ensures ∙ place a.t.now.words.now a.t.now.places c.args.t.now.laid a.l.now p.0 a.k p.1)
