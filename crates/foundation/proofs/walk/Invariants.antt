-- `foundation::walk` meets its contract. The invariant of its loop: the walk over the candidates from the k-th on, with the marks so far, comes to the marks
-- that the whole walk comes to, and those left so far with those that it leaves are all that are left.
-- Assumes nothing.
use mathlib.Core.Path.{◌≡◌}
use mathlib.Core.List.{◌++◌}
use Prim.Native.Nat.{◌≤◌}
use lib.ListN.{length, take}
use Rattle.foundation.specs.Walk.{marked, Fit, walk_marks, walk_left}
use Rattle.foundation.proofs.Words.{rest}
use Rattle.foundation.proofs.walk.Given as goal

abbrev pub invariant-loop-k : goal.invariant-loop-k
invariant-loop-k l =
    (l.left ≤ l.k) × (length l.list ≡ 1024) × Fit l.t (rest l.list l.number l.k)
    × (walk_marks l.t (rest l.list l.number l.k) (marked l.marks) ≡ walk_marks l.t (take l.number l.initial.list) (marked l.initial.marks))
    × (take l.left l.list ++ walk_left l.t (rest l.list l.number l.k) (marked l.marks) ≡ walk_left l.t (take l.number l.initial.list) (marked l.initial.marks))
