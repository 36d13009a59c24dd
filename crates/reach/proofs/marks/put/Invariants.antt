-- `reach::marks::put` meets its contract. The invariant: the atoms above l are put. Assumes nothing.
use Prim.Native.Nat.{suc, ◌≤◌}
use Rattle.levels.specs.View.{row}
use Rattle.reach.specs.Visits.{within, Put}
use Rattle.reach.proofs.marks.put.Given as goal

abbrev pub invariant-loop-l : goal.invariant-loop-l
invariant-loop-l l =
    (l.l ≤ l.n) × Put (within (suc l.l) l.n (row l.to)) (row l.initial.all.marks) l.initial.list l.initial.all.count (row l.all.marks) l.list l.all.count

abbrev pub decreases-loop-l : goal.decreases-loop-l
decreases-loop-l l = l.l
