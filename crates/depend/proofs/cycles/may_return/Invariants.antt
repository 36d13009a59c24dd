-- `depend::cycles::may_return` meets its contract. The invariant: some rule to come adds arcs where some rule does. Assumes nothing.
use mathlib.Core.Path.{◌≡◌}
use Prim.Native.Nat.{◌-◌}
use Rattle.meaning.specs.Lists.{any}
use Rattle.layout.specs.Layout.{rules_from, RulesLie}
use Rattle.depend.specs.Cycles.{adds_arcs}
use Rattle.depend.proofs.cycles.may_return.Given as goal

abbrev pub invariant-loop : goal.invariant-loop
invariant-loop l =
    RulesLie l.fn.t.places.atoms l.fn.t.places.aggregates l.t.words.now l.at (l.fn.t.places.rules - l.counter)
    × (any adds_arcs (rules_from l.t.words.now l.at (l.fn.t.places.rules - l.counter)) ≡ any adds_arcs (rules_from l.t.words.now l.fn.t.places.first l.fn.t.places.rules))
