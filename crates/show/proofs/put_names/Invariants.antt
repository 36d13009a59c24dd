-- `show::put_names` meets its contract. The invariant of its loop: to lay the lines left from here is to lay all from the start. Assumes nothing.
use Prim.Native.Nat.{◌+◌, ◌≤◌}
use lib.ListN.{take, drop}
use Rattle.aspif_parts.specs.Held.{held_by}
use Rattle.bytes_out.proofs.Laws.{Left}
use Rattle.notation.specs.Notation.{names_text}
use Rattle.show.proofs.put_names.Given as goal

abbrev pub invariant-loop-j : goal.invariant-loop-j
invariant-loop-j l =
    (l.j ≤ l.d) × Left l.initial.out l.at (names_text 1 (take l.d (held_by l.t.words.now l.t.places).aggregates)) l.out l.to (names_text (l.j + 1) (drop l.j (take l.d (held_by l.t.words.now l.t.places).aggregates)))
