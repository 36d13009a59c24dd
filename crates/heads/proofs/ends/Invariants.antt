-- `heads::ends` meets its contract. The invariant of its loop: the ends of the lists before p stand, and the counts of the others.
-- Assumes nothing.
use mathlib.Core.Path.{◌≡◌}
use Prim.Native.Nat.{ℕ, ◌+◌, ◌-◌, ◌*◌, ◌≤◌}
use lib.ListN.{get_or}
use Rattle.heads.specs.Heads.{bounds, end_of, Ended}
use Rattle.heads.proofs.ends.Given as goal

abbrev pub invariant-loop-p : goal.invariant-loop-p
invariant-loop-p l =
    Ended (bounds + l.fn.rules) (l.p - 1) l.initial.lists l.lists × (l.end ≡ end_of l.initial.lists (bounds + l.fn.rules) (l.p - 1))
    × ((q : ℕ) → l.p ≤ q → get_or l.lists (2 * q + 1) 0 ≡ get_or l.initial.lists (2 * q + 1) 0)
