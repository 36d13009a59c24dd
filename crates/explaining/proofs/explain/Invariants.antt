-- `explaining::explain` meets its contract: the marks after N rounds are the defined rounds and rules, and go into the records. The invariant of its loop: the
-- interpretation is as it was, and the records below index i hold what the marks say. Assumes nothing.
use mathlib.Core.Path.{◌≡◌}
use Prim.Native.Nat.{ℕ}
use lib.ListN.{length, get_or}
use Rattle.interpretation.specs.View.{view, blank}
use Rattle.rounds.specs.Rounds.{no_why}
use Rattle.explaining.specs.Kept.{why_in}
use Rattle.explaining.proofs.Kept.{Below}
use Rattle.explaining.proofs.explain.Given as goal

abbrev pub invariant-loop-i : goal.invariant-loop-i
invariant-loop-i l =
    (length l.marks ≡ 256) × (length l.it.records ≡ 256) × (view l.it ≡ view l.initial.it) × Below (λ (j : ℕ). get_or l.marks j no_why) (λ (j : ℕ). why_in (get_or l.it.records j blank)) l.i
