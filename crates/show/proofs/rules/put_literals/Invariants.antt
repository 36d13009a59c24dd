-- `show::rules::put_literals` meets its contract. The invariant of its loop: to lay the literals left from here is to lay all from the start. Assumes nothing.
use mathlib.Core.List.{map}
use Prim.Native.Nat.{◌≤◌}
use lib.ListN.{length, drop}
use Rattle.aspif_parts.specs.Held.{held_by}
use Rattle.bytes_out.proofs.Laws.{Left}
use Rattle.notation.specs.Notation.{comma, joined_from, literal_text}
use Rattle.show.proofs.rules.put_literals.Given as goal

abbrev pub invariant-loop-i : goal.invariant-loop-i
invariant-loop-i l =
    (l.i ≤ length l.l) × Left l.initial.out l.at (joined_from comma l.behind (map (literal_text l.d (held_by l.t.words.now l.t.places).aggregates) l.l)) l.out l.to (joined_from comma l.follows (map (literal_text l.d (held_by l.t.words.now l.t.places).aggregates) (drop l.i l.l)))
