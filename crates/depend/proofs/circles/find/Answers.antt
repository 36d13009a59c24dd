-- `depend::circles::find` meets its contract. The invariant: the circles of the atoms 1 to p have their names, and what is settled is settled. Assumes nothing.
use Rattle.layout.specs.Layout.{program_of}
use Rattle.levels.specs.View.{row}
use Rattle.reach.proofs.Inside.{laid_inside}
use Rattle.depend.proofs.Naming.{named_first, final_first}
use Rattle.depend.proofs.circles.find.Goals as goal

pub loop-p-init : goal.loop-p-init
loop-p-init c =
    let a = c.args in
    (named_first a.added a.t.now.places.atoms (program_of a.t.now.words.now a.t.now.places) (laid_inside a.t.now.words.now a.t.now.places c.args.t.now.laid) a.names.now c.args.t.now.laid.few_atoms c.requires.2 c.requires.3, final_first a.added a.t.now.places.atoms (program_of a.t.now.words.now a.t.now.places) (laid_inside a.t.now.words.now a.t.now.places c.args.t.now.laid) a.names.now (row a.settled) c.requires.1)
