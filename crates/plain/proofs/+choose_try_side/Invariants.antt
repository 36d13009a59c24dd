-- The measures of `choose` and `try_side`: twice the number of undefined atoms, and one more for `try_side`: a choice sets one that was undefined, and propagation
-- leaves no more undefined than there were.
-- Assumes nothing.
use Prim.Native.Nat.{◌+◌, ◌*◌}
use Rattle.interpretation.specs.View.{valued}
use Rattle.plain.specs.Passes.{undefined_to}
use Rattle.plain.proofs.+choose_try_side.Given as goal

abbrev pub decreases-choose : goal.decreases-choose
decreases-choose l = 2 * undefined_to l.t.now.places.atoms (valued l.side.values)

abbrev pub decreases-try_side : goal.decreases-try_side
decreases-try_side l = 2 * undefined_to l.t.now.places.atoms (valued l.side.values) + 1
