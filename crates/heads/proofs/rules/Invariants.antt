-- `heads::rules` meets its contract. The invariant of its loop: the places that stand from index bounds on, and those of the rules to come, are the places of
-- all rules; the words before stay. Assumes nothing.
use mathlib.Core.Path.{◌≡◌}
use mathlib.Core.List.{◌++◌}
use Prim.Native.Nat.{◌-◌}
use lib.ListN.{length, take}
use Rattle.layout.specs.Layout.{RulesLie}
use Rattle.heads.specs.Heads.{bounds, size, places_from, places_of}
use Rattle.heads.proofs.Lists.{part}
use Rattle.heads.proofs.rules.Given as goal

abbrev pub invariant-loop-i : goal.invariant-loop-i
invariant-loop-i l =
    (length l.lists ≡ size) × (take bounds l.lists ≡ take bounds l.initial.lists) × RulesLie l.fn.t.places.atoms l.fn.t.places.aggregates l.t.words.now l.at (l.fn.t.places.rules - l.i)
    × (part l.lists bounds l.i ++ places_from l.t.words.now l.at (l.fn.t.places.rules - l.i) ≡ places_of l.t.words.now l.fn.t.places)
