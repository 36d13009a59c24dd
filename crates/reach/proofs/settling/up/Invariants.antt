-- `reach::settling::up` meets its contract. Assumes nothing.
use Rattle.layout.specs.Layout.{program_of}
use Rattle.levels.specs.View.{row}
use Rattle.reach.specs.Arcs.{arcs_of}
use Rattle.reach.specs.Visits.{Settling}
use Rattle.reach.proofs.settling.up.Given as goal

abbrev pub invariant-loop-p : goal.invariant-loop-p
invariant-loop-p l = Settling (arcs_of l.added (program_of l.t.words.now l.t.places)) (row l.initial.all) (row l.all)
