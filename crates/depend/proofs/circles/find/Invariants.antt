-- `depend::circles::find` meets its contract. The invariant: the circles of the atoms 1 to p have their names, and what is settled is settled. Assumes nothing.
use Rattle.layout.specs.Layout.{program_of}
use Rattle.levels.specs.View.{row}
use Rattle.reach.specs.Arcs.{arcs_of}
use Rattle.depend.specs.Circles.{Named, Final}
use Rattle.depend.proofs.circles.find.Given as goal

abbrev pub invariant-loop-p : goal.invariant-loop-p
invariant-loop-p l =
    Named (arcs_of l.added (program_of l.t.words.now l.t.places)) l.n l.p l.names × Final (arcs_of l.added (program_of l.t.words.now l.t.places)) l.n l.names (row l.done)
