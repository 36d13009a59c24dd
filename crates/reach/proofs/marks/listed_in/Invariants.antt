-- `reach::marks::listed_in` meets its contract. The invariant: the atoms before index i are in the set. Assumes nothing.
use Prim.Native.Nat.{ℕ, suc, ◌<◌}
use lib.ListN.{get_or}
use Rattle.meaning.specs.Lists.{Is}
use Rattle.levels.specs.View.{row}
use Rattle.reach.proofs.marks.listed_in.Given as goal

abbrev pub invariant-loop-q : goal.invariant-loop-q
invariant-loop-q l = ((j : ℕ) → j < l.q-index → Is (row l.set (suc (get_or l.list j 0))))
