-- `propagation::whole_reason` meets its contract. Assumes nothing.
use mathlib.Core.Path.{sym, ap, ◌∙◌}
use Rattle.levels.specs.Levels.{Levels, union}
use Rattle.levels.specs.View.{row, rows}
use Rattle.levels.proofs.Laws.{rows_at}
use Rattle.propagation.proofs.whole_reason.Goals as goal

pub returns : goal.returns
returns c =
    let a = c.args in
    c.union.ensures
    ∙ ap (λ (A : Levels). union A (row c.blame-others.result)) (sym (rows_at a.reasons.now a.p c.requires.1))
    ∙ ap (union (rows a.reasons.now a.p)) c.blame-others.ensures
