-- `show::naming::in_turn` meets its contract. The invariant of its loop: the rules left from here take the aggregates in turn as all do from the start. Assumes nothing.
use mathlib.Core.Path.{◌≡◌}
use Prim.Native.Nat.{◌-◌}
use Rattle.layout.specs.Layout.{RulesLie}
use Rattle.aspif_parts.specs.Held.{numbered_from}
use Rattle.notation.specs.Notation.{turns_all}
use Rattle.show.proofs.naming.in_turn.Given as goal

abbrev pub invariant-loop : goal.invariant-loop
invariant-loop l =
    RulesLie l.t.places.atoms l.t.places.aggregates l.t.words.now l.rule (l.fn.t.places.rules - l.counter) × (turns_all l.d l.next (numbered_from l.t.words.now l.rule (l.fn.t.places.rules - l.counter)) ≡ turns_all l.d l.initial.next (numbered_from l.t.words.now l.initial.rule l.fn.t.places.rules))
