-- `second_search::lacks_one` meets its contract. The invariant of its loop: no atom below p is lacking. Assumes nothing.
use Prim.Native.Nat.{◌-◌}
use mathlib.Core.Path.{◌≡◌}
use mathlib.Core.Bool.{false}
use Rattle.interpretation.specs.State.{true_atoms}
use Rattle.interpretation.specs.View.{valued}
use Rattle.second_search.proofs.Lacking.{lacks_to}
use Rattle.second_search.proofs.lacks_one.Given as goal

abbrev pub invariant-loop-p : goal.invariant-loop-p
invariant-loop-p l = lacks_to (true_atoms l.n (valued l.candidate)) (true_atoms l.n (valued l.values)) (l.p - 1) ≡ false
