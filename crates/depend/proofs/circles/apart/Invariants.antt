-- `depend::circles::apart` meets its contract. The invariant: the first i atoms have names of their own. Assumes nothing.
use mathlib.Core.Path.{◌≡◌}
use lib.ListN.{length}
use Rattle.depend.specs.Circles.{Apart}
use Rattle.depend.proofs.circles.apart.Given as goal

abbrev pub invariant-loop-i : goal.invariant-loop-i
invariant-loop-i l = (length l.names ≡ 256) × Apart l.i l.names
