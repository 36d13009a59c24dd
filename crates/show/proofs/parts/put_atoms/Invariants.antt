-- `show::parts::put_atoms` meets its contract. The invariant of its loop: to lay the atoms left from here is to lay all from the start. Assumes nothing.
use mathlib.Core.List.{map}
use Prim.Native.Nat.{◌≤◌}
use lib.ListN.{length, drop}
use Rattle.layout.specs.Layout.{atoms}
use Rattle.bytes_out.proofs.Laws.{Left}
use Rattle.notation.specs.Notation.{joined_from, atom_text}
use Rattle.show.proofs.parts.put_atoms.Given as goal

abbrev pub invariant-loop-i : goal.invariant-loop-i
invariant-loop-i l =
    (l.i ≤ length l.l) × Left l.initial.out l.at (joined_from l.between l.behind (map (atom_text l.word) (atoms l.l))) l.out l.to (joined_from l.between l.follows (map (atom_text l.word) (atoms (drop l.i l.l))))
