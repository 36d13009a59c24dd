-- `reach::back::back` meets its contract. The invariant: the marked atoms lie on the circle of p, which is marked. The measure: how many atoms are not
-- yet marked. Assumes nothing.
use Prim.Native.Nat.{◌-◌}
use Rattle.layout.specs.Layout.{program_of}
use Rattle.levels.specs.View.{row}
use Rattle.reach.specs.Arcs.{arcs_of}
use Rattle.reach.proofs.Leading.{Back}
use Rattle.reach.proofs.back.back.Given as goal

abbrev pub invariant-loop-found : goal.invariant-loop-found
invariant-loop-found l = Back (arcs_of l.added (program_of l.t.words.now l.t.places)) l.p (row l.found.marks) l.found.count

abbrev pub decreases-loop-found : goal.decreases-loop-found
decreases-loop-found l = 256 - l.found.count
