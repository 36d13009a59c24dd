-- `relaxer::choosing::choose` meets its contract. The invariant of its loop: the places that stand behind the bounds, and those to come, are the places of all rules that
-- take part; the words before, and those behind the room for all rules, stay. Assumes nothing.
use mathlib.Core.Path.{◌≡◌}
use mathlib.Core.List.{◌++◌}
use Prim.Native.Nat.{suc, ◌+◌, ◌-◌, ◌≤◌}
use lib.ListN.{length, take, drop}
use Rattle.levels.specs.View.{row}
use Rattle.layout.specs.Layout.{RulesLie}
use Rattle.heads.specs.Heads.{bounds, size}
use Rattle.heads.proofs.Lists.{part}
use Rattle.relaxer.specs.Offering.{kept_from, kept_places}
use Rattle.relaxer.proofs.choosing.choose.Given as goal

abbrev pub invariant-loop-i : goal.invariant-loop-i
invariant-loop-i l =
    (bounds ≤ l.end) × (l.end ≤ bounds + l.i) × (length l.lists ≡ size) × (take bounds l.lists ≡ take bounds l.initial.lists) × (drop (bounds + l.fn.t.places.rules) l.lists ≡ drop (bounds + l.fn.t.places.rules) l.initial.lists)
    × RulesLie l.fn.t.places.atoms l.fn.t.places.aggregates l.t.words.now l.at (l.fn.t.places.rules - l.i)
    × (part l.lists bounds (l.end - bounds) ++ kept_from (row l.kept) l.t.words.now l.at (suc l.i) (l.fn.t.places.rules - l.i) ≡ kept_places (row l.kept) l.t.words.now l.fn.t.places)
