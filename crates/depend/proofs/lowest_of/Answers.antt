-- `depend::lowest_of` meets its contract. Assumes nothing.
use mathlib.Core.Path.{sym, ◌∙◌}
use Prim.Native.Nat.{suc}
use Rattle.layout.specs.Layout.{program_of}
use Rattle.levels.specs.View.{row}
use Rattle.reach.proofs.Inside.{laid_inside}
use Rattle.depend.proofs.Skipped.{no_cycle}
use Rattle.depend.proofs.Tested.{closes_named, settled_none}
use Rattle.depend.proofs.lowest_of.Goals as goal

pub returns-then-not-may_close : goal.returns-then-not-may_close
returns-then-not-may_close c =
    let a = c.args in
    sym (no_cycle (suc a.t.now.places.atoms) (program_of a.t.now.words.now a.t.now.places) a.added (sym c.may_close.ensures ∙ c.if-not-may_close.true))

pub returns-then-everything : goal.returns-then-everything
returns-then-everything c =
    let a = c.args in
    sym (settled_none a.t.now.places.atoms (program_of a.t.now.words.now a.t.now.places) (laid_inside a.t.now.words.now a.t.now.places c.args.t.now.laid) (row c.settled-settled.result) (c.everything.ensures c.if-everything.true) a.added c.settled-settled.ensures)

pub returns : goal.returns
returns c =
    let a = c.args in
    c.first.ensures ∙ closes_named a.t.now.places.atoms (program_of a.t.now.words.now a.t.now.places) (laid_inside a.t.now.words.now a.t.now.places c.args.t.now.laid) c.find.new.names a.added c.find.ensures
