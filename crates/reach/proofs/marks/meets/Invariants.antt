-- `reach::marks::meets` meets its contract. The invariant: no atom above l is in both. Assumes nothing.
use Prim.Native.Nat.{ℕ, ◌≤◌, ◌<◌}
use Rattle.meaning.specs.Lists.{Is}
use Rattle.levels.specs.View.{row}
use Rattle.reach.proofs.marks.meets.Given as goal

abbrev pub invariant-loop-l : goal.invariant-loop-l
invariant-loop-l l = ((q : ℕ) → l.l < q → q ≤ l.fn.n → Is (row l.a q) → Is (row l.b q) → ⊥)
