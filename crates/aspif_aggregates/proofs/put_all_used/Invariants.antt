-- `aspif_aggregates::put_all_used` meets its contract. The invariant of its loop: to lay the lines of the aggregates left from here is to lay all from the start. Assumes nothing.
use mathlib.Core.Path.{◌≡◌}
use Prim.Native.Nat.{◌-◌, ◌≤◌}
use Rattle.aspif.specs.Writing.{used_from, used, defining_all}
use Rattle.bytes_out.proofs.Laws.{Left}
use Rattle.aspif_parts.specs.Held.{held_by}
use Rattle.aspif_parts.specs.Parts.{lines_text}
use Rattle.aspif_aggregates.proofs.put_all_used.Given as goal

abbrev pub invariant-loop-j : goal.invariant-loop-j
invariant-loop-j l =
    (l.j ≤ l.n) × (l.n ≡ l.t.places.aggregates)
    × Left l.initial.out l.at (lines_text (defining_all (held_by l.t.words.now l.t.places) (used (held_by l.t.words.now l.t.places)))) l.out l.to (lines_text (defining_all (held_by l.t.words.now l.t.places) (used_from (held_by l.t.words.now l.t.places).rules l.j (l.n - l.j))))
