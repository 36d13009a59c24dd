-- `reach::settling::along` meets its contract. The invariant: what is left is the front of the list, and what is settled so far is settled. Assumes nothing.
use mathlib.Core.Path.{◌≡◌}
use lib.ListN.{length, take}
use Rattle.layout.specs.Layout.{program_of}
use Rattle.levels.specs.View.{row}
use Rattle.reach.specs.Arcs.{arcs_of}
use Rattle.reach.specs.Visits.{Settling}
use Rattle.reach.proofs.settling.along.Given as goal

abbrev pub invariant-loop-p : goal.invariant-loop-p
invariant-loop-p l = let left = l.p-iterator.iter.rest.now in record {
  front : left ≡ take (length left) l.list;
  settled : Settling (arcs_of l.added (program_of l.t.words.now l.t.places)) (row l.initial.all) (row l.all);
}
