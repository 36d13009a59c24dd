-- `reach::settling::settle` meets its contract. Assumes nothing.
use mathlib.Core.Path.{sym, ◌∙◌, subst}
use Rattle.layout.specs.Layout.{program_of}
use Rattle.levels.specs.Levels.{Levels}
use Rattle.levels.specs.View.{row}
use Rattle.reach.specs.Arcs.{arcs_of}
use Rattle.reach.specs.Visits.{Part}
use Rattle.reach.proofs.Settled.{settling_more}
use Rattle.reach.proofs.settling.settle.Goals as goal

pub returns : goal.returns
returns c =
    let a = c.args in
    settling_more (arcs_of a.added (program_of a.t.now.words.now a.t.now.places)) (row a.done) (row c.with.result) a.p c.requires.3 (sym c.has.ensures ∙ c.if-has.false)
    (subst (λ (X : Levels). Part X (row a.done)) c.from_atom-to.ensures (c.inside.ensures c.if-not-inside.false)) c.with.ensures
