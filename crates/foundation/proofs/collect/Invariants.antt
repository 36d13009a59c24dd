-- `foundation::collect` meets its contract. The invariant of its loop: the candidates that stand in the array, and those of the rules to come, are those of
-- all rules. Assumes nothing.
use mathlib.Core.Path.{◌≡◌}
use mathlib.Core.List.{◌++◌}
use Prim.Native.Nat.{◌-◌, ◌≤◌}
use lib.ListN.{length, take}
use Rattle.interpretation.specs.View.{valued}
use Rattle.layout.specs.Layout.{RulesLie}
use Rattle.foundation.specs.Walk.{candidates_from}
use Rattle.foundation.proofs.collect.Given as goal

abbrev pub invariant-loop : goal.invariant-loop
invariant-loop l =
    (l.number ≤ l.counter) × (length l.list ≡ 1024) × RulesLie l.t.places.atoms l.t.places.aggregates l.t.words.now l.at (l.t.places.rules - l.counter)
    × (take l.number l.list ++ candidates_from (valued l.values) l.t.words.now l.at (l.t.places.rules - l.counter) ≡ candidates_from (valued l.values) l.t.words.now l.t.places.first l.t.places.rules)
