-- `literals::atom_reason` meets its contract. Assumes nothing.
use mathlib.Core.Path.{sym, ap, ◌∙◌}
use Rattle.levels.specs.Levels.{Levels, union}
use Rattle.levels.specs.View.{row}
use Rattle.levels.proofs.Laws.{rows_at}
use Rattle.literals.proofs.Walks.{byte_undefined, byte_defined}
use Rattle.literals.proofs.atom_reason.Goals as goal

pub returns-then-value-eq0 : goal.returns-then-value-eq0
returns-then-value-eq0 c = sym (ap (λ (R : Levels). union R (row c.args.more)) (byte_undefined c.args.values.now c.args.p _ c.requires.0 c.if-value-eq0.true))

pub returns : goal.returns
returns c =
    let R = c.args.reasons.now in
    c.union.ensures ∙ ap (λ (A : Levels). union A (row c.args.more)) (sym (rows_at R c.args.p c.requires.0) ∙ sym (byte_defined c.args.values.now c.args.p _ c.requires.0 c.if-value-eq0.false))
