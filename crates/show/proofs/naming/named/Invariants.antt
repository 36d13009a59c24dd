-- `show::naming::named` meets its contract. The invariant of its loop: the least number from here on is the least from 0 on. Assumes nothing.
use mathlib.Core.Path.{◌≡◌}
use Prim.Native.Nat.{◌-◌, ◌≤◌}
use Rattle.aspif_parts.specs.Held.{held_by}
use Rattle.notation.specs.Notation.{named_from, named}
use Rattle.show.proofs.naming.named.Given as goal

abbrev pub invariant-loop-d : goal.invariant-loop-d
invariant-loop-d l =
    (l.d ≤ l.t.places.aggregates) × (named_from (held_by l.t.words.now l.t.places) l.d (l.t.places.aggregates - l.d) ≡ named (held_by l.t.words.now l.t.places))
