-- `depend::cycles::first` meets its contract. The invariant: the lowest of the rules to come, numbered on, is the lowest of all. Assumes nothing.
use mathlib.Core.Path.{◌≡◌}
use Prim.Native.Nat.{◌+◌, ◌-◌}
use Rattle.layout.specs.Layout.{rules_from, RulesLie}
use Rattle.depend.specs.Circles.{alike}
use Rattle.depend.specs.Cycles.{closes, lowest}
use Rattle.depend.proofs.cycles.first.Given as goal

abbrev pub invariant-loop-k : goal.invariant-loop-k
invariant-loop-k l =
    RulesLie l.fn.t.places.atoms l.fn.t.places.aggregates l.t.words.now l.at (l.fn.t.places.rules - l.k)
    × (lowest (closes l.added (alike l.names)) (l.k + 1) (rules_from l.t.words.now l.at (l.fn.t.places.rules - l.k)) ≡ lowest (closes l.added (alike l.names)) 1 (rules_from l.t.words.now l.fn.t.places.first l.fn.t.places.rules))
