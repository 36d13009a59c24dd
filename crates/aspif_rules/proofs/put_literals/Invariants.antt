-- `aspif_rules::put_literals` meets its contract. The invariant of its loop: to lay the literals left from here is to lay all from the start. Assumes nothing.
use mathlib.Core.List.{map}
use Prim.Native.Nat.{◌≤◌}
use lib.ListN.{length, drop}
use Rattle.aspif.specs.Writing.{stated_literal}
use Rattle.bytes_out.proofs.Laws.{Left}
use Rattle.aspif_parts.specs.Held.{held_by}
use Rattle.aspif_parts.specs.Parts.{literals_text}
use Rattle.aspif_rules.proofs.put_literals.Given as goal

abbrev pub invariant-loop-i : goal.invariant-loop-i
invariant-loop-i l =
    (l.i ≤ length l.l) × Left l.initial.out l.at (literals_text (map (stated_literal (held_by l.t.words.now l.t.places)) l.l)) l.out l.to (literals_text (map (stated_literal (held_by l.t.words.now l.t.places)) (drop l.i l.l)))
