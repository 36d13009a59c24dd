-- `aspif_rules::put_atoms` meets its contract. The invariant of its loop: to lay the atoms left from here is to lay all from the start. Assumes nothing.
use mathlib.Core.List.{map}
use Prim.Native.Nat.{◌≤◌}
use lib.ListN.{length, drop}
use Rattle.layout.specs.Layout.{atoms}
use Rattle.aspif.specs.Writing.{with}
use Rattle.bytes_out.proofs.Laws.{Left}
use Rattle.aspif_parts.specs.Parts.{literals_text}
use Rattle.aspif_rules.proofs.put_atoms.Given as goal

abbrev pub invariant-loop-i : goal.invariant-loop-i
invariant-loop-i l =
    (l.i ≤ length l.l) × Left l.initial.out l.at (literals_text (map (with l.plain) (atoms l.l))) l.out l.to (literals_text (map (with l.plain) (atoms (drop l.i l.l))))
