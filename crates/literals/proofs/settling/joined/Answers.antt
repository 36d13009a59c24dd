-- `literals::settling::joined` meets its contract. Assumes nothing.
use mathlib.Core.Path.{sym, ap, ◌∙◌}
use mathlib.Core.Bool.{Bool}
use Rattle.levels.specs.Levels.{Levels, union}
use Rattle.levels.specs.View.{row, rows}
use Rattle.levels.proofs.Laws.{rows_at}
use Rattle.literals.specs.Settled.{join_if}
use Rattle.literals.proofs.settling.joined.Goals as goal

pub returns-then-on : goal.returns-then-on
returns-then-on c =
    let R = c.args.reasons.now in
    c.union.ensures ∙ ap (λ (A : Levels). union A (row c.args.more)) (sym (rows_at R c.args.p c.requires.0))
    ∙ sym (ap (λ (o : Bool). join_if o (rows R c.args.p) (row c.args.more)) c.if-on.true)
