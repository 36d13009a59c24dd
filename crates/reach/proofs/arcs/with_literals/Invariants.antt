-- `reach::arcs::with_literals` meets its contract. The invariant: the set so far and the elements of the literals to come are all elements and the set at the start. Assumes nothing.
use mathlib.Core.Path.{◌≡◌}
use lib.ListN.{drop}
use Rattle.levels.specs.Levels.{union}
use Rattle.levels.specs.View.{row}
use Rattle.reach.specs.Arcs.{literals}
use Rattle.reach.proofs.arcs.with_literals.Given as goal

abbrev pub invariant-loop-w : goal.invariant-loop-w
invariant-loop-w l = union (literals l.t.words.now (drop l.w-index l.l)) (row l.all) ≡ union (literals l.t.words.now l.l) (row l.initial.all)
