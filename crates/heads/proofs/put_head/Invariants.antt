-- `heads::put_head` meets its contract. The invariant of its loop: the rule is put for the atoms from index i on.
-- Assumes nothing.
use lib.ListN.{drop}
use Rattle.layout.specs.Layout.{atoms}
use Rattle.heads.specs.Heads.{Put}
use Rattle.heads.proofs.put_head.Given as goal

abbrev pub invariant-loop-i : goal.invariant-loop-i
invariant-loop-i l = Put (atoms (drop l.i l.head)) l.rule l.initial.lists l.lists
