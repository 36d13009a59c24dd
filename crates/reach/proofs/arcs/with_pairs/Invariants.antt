-- `reach::arcs::with_pairs` meets its contract. The invariant: the set so far and the atoms of the pairs to come are all atoms and the set at the start. Assumes nothing.
use mathlib.Core.Path.{◌≡◌}
use Prim.Native.Nat.{◌*◌}
use lib.ListN.{drop}
use Rattle.levels.specs.Levels.{union}
use Rattle.levels.specs.View.{row}
use Rattle.reach.specs.Arcs.{elements}
use Rattle.reach.proofs.arcs.with_pairs.Given as goal

abbrev pub invariant-loop-i : goal.invariant-loop-i
invariant-loop-i l = union (elements (drop (2 * l.i) l.l)) (row l.all) ≡ union (elements l.l) (row l.initial.all)
