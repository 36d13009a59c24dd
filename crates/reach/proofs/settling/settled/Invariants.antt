-- `reach::settling::settled` meets its contract. The invariant: what is settled so far is settled. Assumes nothing.
use Rattle.layout.specs.Layout.{program_of}
use Rattle.levels.specs.View.{row}
use Rattle.reach.specs.Arcs.{arcs_of}
use Rattle.reach.specs.Visits.{Settled}
use Rattle.reach.proofs.settling.settled.Given as goal

abbrev pub invariant-loop : goal.invariant-loop
invariant-loop l = Settled (arcs_of l.added (program_of l.t.words.now l.t.places)) (row l.all)
