-- `second_search::held::start` meets its contract. The invariant of its loop: the atoms 1 .. i stand as at the start. Assumes nothing.
use Prim.Native.Nat.{◌≤◌}
use mathlib.Core.Path.{◌≡◌}
use Rattle.interpretation.specs.State.{true_atoms}
use Rattle.interpretation.specs.View.{valued}
use Rattle.second_search.specs.Looking.{cells_at, Whole, start_cells}
use Rattle.second_search.proofs.held.start.Given as goal

abbrev pub invariant-loop-i : goal.invariant-loop-i
invariant-loop-i l = (l.i ≤ l.n) × Whole l.values l.levels × (cells_at l.values l.levels ≡ start_cells l.i (true_atoms l.n (valued l.candidate)))
