-- `solver::plans::values_of` meets its contract. The invariant of its loop: the first i values are the plan's. Assumes nothing.
use mathlib.Core.Path.{◌≡◌}
use Prim.Native.Nat.{ℕ, ◌<◌}
use lib.Dec.{eqb}
use lib.ListN.{length, get_or}
use Rattle.interpretation.specs.View.{byte_of}
use Rattle.solver.proofs.plans.values_of.Given as goal

abbrev pub invariant-loop-i : goal.invariant-loop-i
invariant-loop-i l = (length l.values ≡ 256) × ((j : ℕ) → j < l.i → get_or l.values j 0 ≡ byte_of (eqb (get_or l.plan j 0) 1))
