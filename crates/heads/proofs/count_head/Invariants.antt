-- `heads::count_head` meets its contract. The invariant of its loop: the atoms from index i on are counted.
-- Assumes nothing.
use lib.ListN.{drop}
use Rattle.layout.specs.Layout.{atoms}
use Rattle.heads.specs.Heads.{Counted}
use Rattle.heads.proofs.count_head.Given as goal

abbrev pub invariant-loop-i : goal.invariant-loop-i
invariant-loop-i l = Counted (atoms (drop l.i l.head)) l.initial.lists l.lists
