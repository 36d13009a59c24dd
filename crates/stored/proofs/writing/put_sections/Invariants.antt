-- `stored::writing::put_sections` meets its contract. The invariant of its loop is `Going`. Assumes nothing.
use Prim.Native.Nat.{◌≤◌}
use lib.ListN.{length}
use Rattle.stored.proofs.Going.{Going}
use Rattle.stored.proofs.writing.put_sections.Given as goal

abbrev pub invariant-loop-k : goal.invariant-loop-k
invariant-loop-k l = (l.k ≤ length l.t) × Going l.t l.top l.initial.out l.at l.out l.to l.k l.point
