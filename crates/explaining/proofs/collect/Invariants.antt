-- `explaining::collect` meets its contract. The invariant of its loop: the words that stand in the array, and those of the rules to come, are those of all
-- rules. Assumes nothing.
use mathlib.Core.Path.{◌≡◌}
use mathlib.Core.List.{◌++◌}
use Prim.Native.Nat.{◌-◌}
use lib.ListN.{length, take}
use Rattle.interpretation.specs.View.{valued}
use Rattle.layout.specs.Layout.{RulesLie}
use Rattle.explaining.specs.Walk.{codes_from}
use Rattle.explaining.proofs.collect.Given as goal

abbrev pub invariant-loop-k : goal.invariant-loop-k
invariant-loop-k l =
    (length l.list ≡ 1024) × RulesLie l.t.places.atoms l.t.places.aggregates l.t.words.now l.at (l.t.places.rules - l.k)
    × (take l.k l.list ++ codes_from (valued l.values) l.t.words.now l.at (l.t.places.rules - l.k) ≡ codes_from (valued l.values) l.t.words.now l.t.places.first l.t.places.rules)
