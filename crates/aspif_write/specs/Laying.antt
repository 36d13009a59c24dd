-- What writing an accepted table into a buffer comes to. Definitions only.
-- Assumes nothing.
use Rattle.std.specs.Prelude.{◌≡◌, List, ◌++◌, ℕ, ◌≤◌, ◌<◌, length, drop, Result, Ok, Err}
use Rattle.results.specs.declared.Refusal.{Refusal}
use Rattle.results.specs.declared.Refusal.TheVariants.{ShortBuffer}

pub record Laying (text old new : List ℕ) (r : Result ℕ Refusal) : Type 0 where
  pub fits : length text ≤ length old → (r ≡ Ok (length text)) × (new ≡ text ++ drop (length text) old)
  pub short : length old < length text → (r ≡ Err ShortBuffer) × (new ≡ old)
