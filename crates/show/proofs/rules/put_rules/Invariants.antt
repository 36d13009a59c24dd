-- `show::rules::put_rules` meets its contract. The invariant of its loop: to lay the lines of the rules left from here is to lay all from the start. Assumes nothing.
use Prim.Native.Nat.{◌+◌, ◌-◌}
use Rattle.layout.specs.Layout.{RulesLie}
use Rattle.aspif_parts.specs.Held.{numbered_from, held_by}
use Rattle.bytes_out.proofs.Laws.{Left}
use Rattle.notation.specs.Notation.{rules_text}
use Rattle.show.proofs.rules.put_rules.Given as goal

abbrev pub invariant-loop-i : goal.invariant-loop-i
invariant-loop-i l =
    RulesLie l.t.places.atoms l.t.places.aggregates l.t.words.now l.rule (l.fn.t.places.rules - l.i) × Left l.initial.out l.at (rules_text l.d (held_by l.t.words.now l.t.places).aggregates 1 (held_by l.t.words.now l.t.places).rules) l.out l.to (rules_text l.d (held_by l.t.words.now l.t.places).aggregates (l.i + 1) (numbered_from l.t.words.now l.rule (l.fn.t.places.rules - l.i)))
