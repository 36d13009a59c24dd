-- `explaining::whys_of` meets its contract. The invariant of its loop: below index i stands what the records hold. Assumes nothing.
use mathlib.Core.Path.{◌≡◌}
use Prim.Native.Nat.{ℕ}
use lib.ListN.{length, get_or}
use Rattle.rounds.specs.Rounds.{no_why}
use Rattle.interpretation.specs.View.{blank}
use Rattle.explaining.specs.Kept.{why_in}
use Rattle.explaining.proofs.Kept.{Below}
use Rattle.explaining.proofs.whys_of.Given as goal

abbrev pub invariant-loop-i : goal.invariant-loop-i
invariant-loop-i l = (length l.whys ≡ 256) × Below (λ (j : ℕ). why_in (get_or l.it.records j blank)) (λ (j : ℕ). get_or l.whys j no_why) l.i
