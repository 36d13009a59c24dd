-- `reach::arcs::with_atoms` meets its contract. The invariant: the set so far and the atoms to come are all atoms and the set at the start. Assumes nothing.
use mathlib.Core.Path.{◌≡◌}
use lib.ListN.{drop}
use Rattle.levels.specs.Levels.{union}
use Rattle.levels.specs.View.{row}
use Rattle.reach.specs.Arcs.{listed}
use Rattle.reach.proofs.arcs.with_atoms.Given as goal

abbrev pub invariant-loop-w : goal.invariant-loop-w
invariant-loop-w l = union (listed (drop l.w-index l.l)) (row l.all) ≡ union (listed l.l) (row l.initial.all)
