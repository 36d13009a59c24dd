-- How the code sets the pins: one after the other, each whose atom lies in 1 to n and has no value yet. Definitions only.
--   start_with pins    the interpretation at which the search with these pins starts
-- Assumes nothing.
use Rattle.std.specs.Prelude.{Bool, true, false, cond, ◌&&◌, ℕ}
use Rattle.meaning.specs.Cycles.{inside}
use Rattle.interpretation.specs.State.{Cell, undefined, defined, Interpretation, set_at}
use Rattle.sessions.specs.Sessions.{Pins, cells_of}

abbrev pub is_undefined : Cell → Bool
is_undefined undefined = true
is_undefined (defined v l) = false

abbrev pub is_free : ℕ → (ℕ → Cell) → ℕ → Bool
is_free n a p = inside n p && is_undefined (a p)

abbrev pub set_pin : ℕ → ℕ → Bool → Interpretation → Interpretation
set_pin n p v s = cond (is_free n s.cell p) (set_at p v s) s

abbrev pub start_with : Pins → Interpretation
start_with pins = record { level = 0; choice = λ l. 0; cell = cells_of pins }
