-- `reach::visits::visit` meets its contract. The invariant: all marked atoms are reached, and the arcs of the atoms on the list before index i go to marked
-- atoms. The measure: the places of the list that are still to come. Assumes nothing.
use Prim.Native.Nat.{◌-◌}
use Rattle.layout.specs.Layout.{program_of}
use Rattle.levels.specs.View.{row}
use Rattle.reach.specs.Arcs.{arcs_of}
use Rattle.reach.proofs.Visiting.{Visiting}
use Rattle.reach.proofs.visits.visit.Given as goal

abbrev pub invariant-loop-i : goal.invariant-loop-i
invariant-loop-i l = Visiting (arcs_of l.added (program_of l.t.words.now l.t.places)) l.p (row l.seen.marks) l.list l.seen.count l.i

abbrev pub decreases-loop-i : goal.decreases-loop-i
decreases-loop-i l = 256 - l.i
