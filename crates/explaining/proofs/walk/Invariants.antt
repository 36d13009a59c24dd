-- `explaining::walk` meets its contract. The invariant of its loop: the walk over the words from the k-th on, with the marks so far, comes to what the whole
-- walk comes to; and as long as nothing was added the marks are as they were.
-- Assumes nothing.
use mathlib.Core.Path.{◌≡◌}
use mathlib.Core.Bool.{false}
use Prim.Native.Nat.{◌+◌}
use lib.ListN.{length, take}
use Rattle.foundation.proofs.Words.{rest}
use Rattle.rounds.specs.Rounds.{whys_in}
use Rattle.explaining.specs.Walk.{walk_codes, FitCodes}
use Rattle.explaining.proofs.walk.Given as goal

abbrev pub invariant-loop-k : goal.invariant-loop-k
invariant-loop-k l =
    (length l.marks ≡ 256) × FitCodes l.t (rest l.list l.number l.k)
    × (walk_codes l.t l.round (l.k + 1) (rest l.list l.number l.k) (whys_in l.marks) ≡ walk_codes l.t l.round 1 (take l.number l.list) (whys_in l.initial.marks))
    × (l.any ≡ false → whys_in l.marks ≡ whys_in l.initial.marks)
