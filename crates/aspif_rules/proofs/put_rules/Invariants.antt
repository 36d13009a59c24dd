-- `aspif_rules::put_rules` meets its contract. The invariant of its loop: to lay the lines of the rules left from here is to lay all from the start. Assumes nothing.
use mathlib.Core.List.{map}
use lib.IntN.{ℤ}
use Rattle.meaning.specs.Lists.{Is}
use Prim.Native.Nat.{◌-◌}
use Rattle.layout.specs.Layout.{RulesLie}
use Rattle.aspif.specs.Writing.{uses, stated}
use Rattle.bytes_out.proofs.Laws.{Left}
use Rattle.aspif_parts.specs.Held.{numbered_from, held_by}
use Rattle.aspif_parts.specs.Parts.{lines_text}
use Rattle.aspif_rules.proofs.put_rules.Given as goal

abbrev pub invariant-loop : goal.invariant-loop
invariant-loop l =
    RulesLie l.t.places.atoms l.t.places.aggregates l.t.words.now l.rule (l.t.places.rules - l.counter)
    × ((w : ℤ) → Is (uses (numbered_from l.t.words.now l.rule (l.t.places.rules - l.counter)) w) → Is (uses (held_by l.t.words.now l.t.places).rules w))
    × Left l.initial.out l.at (lines_text (map (stated (held_by l.t.words.now l.t.places)) (numbered_from l.t.words.now l.initial.rule l.t.places.rules))) l.out l.to (lines_text (map (stated (held_by l.t.words.now l.t.places)) (numbered_from l.t.words.now l.rule (l.t.places.rules - l.counter))))
