-- `reach::back::walk` meets its contract. The invariant: what is left is the front of the list, and the atoms behind it are walked. Assumes nothing.
use mathlib.Core.Path.{◌≡◌}
use lib.ListN.{length, take}
use Rattle.layout.specs.Layout.{program_of}
use Rattle.levels.specs.View.{row}
use Rattle.reach.specs.Arcs.{arcs_of}
use Rattle.reach.specs.Visits.{Walked}
use Rattle.reach.proofs.back.walk.Given as goal

abbrev pub invariant-loop-q : goal.invariant-loop-q
invariant-loop-q l = let left = l.q-iterator.iter.rest.now in record {
  front : left ≡ take (length left) l.list;
  walked : Walked (arcs_of l.added (program_of l.t.words.now l.t.places)) l.list (length left) (length l.list) (row l.initial.all.marks) l.initial.all.count (row l.all.marks) l.all.count;
}
