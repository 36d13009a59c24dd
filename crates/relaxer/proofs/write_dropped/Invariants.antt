-- `relaxer::write_dropped` meets its contract. The invariant of its loop: the n numbers that stand at the front of the list, and those to come, are all numbers dropped;
-- the rest of the list stays. Assumes nothing.
use mathlib.Core.Path.{◌≡◌}
use mathlib.Core.List.{◌++◌}
use Prim.Native.Nat.{suc, ◌-◌, ◌≤◌}
use lib.ListN.{length, take, drop}
use Rattle.levels.specs.View.{row}
use Rattle.layout.specs.Layout.{rules_from, program_of, RulesLie}
use Rattle.relaxing.specs.Relaxing.{dropped_from, dropped_of}
use Rattle.relaxer.proofs.write_dropped.Given as goal

abbrev pub invariant-loop-i : goal.invariant-loop-i
invariant-loop-i l =
    (l.n ≤ l.i) × (length l.dropped ≡ length l.initial.dropped) × (drop l.n l.dropped ≡ drop l.n l.initial.dropped) × RulesLie l.fn.t.places.atoms l.fn.t.places.aggregates l.t.words.now l.at (l.fn.t.places.rules - l.i)
    × (take l.n l.dropped ++ dropped_from (row l.kept) (suc l.i) (rules_from l.t.words.now l.at (l.fn.t.places.rules - l.i)) ≡ dropped_of (program_of l.t.words.now l.fn.t.places) (row l.kept))
