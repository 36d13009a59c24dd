-- `foundation::added` meets its contract. The invariant of its loop: what is marked is added, and a rule that could add an atom not yet marked is among the
-- candidates (`Between`, here said of any program of which it holds before the first walk). The measure is the number of candidates: a walk that
-- leaves them all shows that the marks are closed, so they hold all that is added.
-- Assumes nothing.
use mathlib.Core.Path.{◌≡◌}
use Prim.Native.Nat.{◌≤◌}
use lib.ListN.{length, take}
use Rattle.interpretation.specs.View.{valued}
use Rattle.foundation.specs.Walk.{marked}
use Rattle.foundation.proofs.Walks.{Kept}
use Rattle.foundation.proofs.added.Given as goal

abbrev pub invariant-loop-number : goal.invariant-loop-number
invariant-loop-number l =
    (l.number ≤ 1024) × (length l.list ≡ 1024) × Kept (valued l.values) l.t.words.now (marked l.initial.marks) (take l.initial.number l.initial.list) (marked l.marks) (take l.number l.list)

abbrev pub decreases-loop-number : goal.decreases-loop-number
decreases-loop-number l = l.number
