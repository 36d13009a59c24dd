-- What the text program prints for a text, for every text (01, "The text program reads standard input .. It prints one line"): the crates `text`
-- and `solver` put together. Definitions only: to be believed.
--   Tells     the line of what the solver promises of words and a limit, where the plan was all 0 before, so that only the table's atoms can be 1
--   Replies   the line of a text: of its limit and words, or of its refusal
-- `wrote` is how much was written to the front of the buffer `old`, and `new` is what the buffer then holds.
-- Assumes nothing.
use Rattle.std.specs.Prelude.{◌≡◌, false, List, ℕ, ℤ, replicate, Result, Err}
use Rattle.results.specs.declared.Refusal.{Refusal}
use Rattle.results.specs.declared.Solved.{Solved}
use Rattle.solver.specs.Solving.{Solving}
use Rattle.text.specs.Text.{text_of, text, refused}
use Rattle.text.specs.Line.{PrintAs}

abbrev pub no_plan : List ℕ
no_plan = replicate 256 0

pub record Tells (t : List ℤ) (lim : ℕ) (old : List ℕ) (wrote : ℕ) (new : List ℕ) : Type 0 where
  pub result : Result Solved Refusal
  pub plan : List ℕ
  pub solving : Solving t (record { cycles = false; limit = lim }) no_plan plan result
  pub line : PrintAs result 256 plan old wrote new

pub record Replies (bs old : List ℕ) (wrote : ℕ) (new : List ℕ) : Type 0 where
  pub good : (lim : ℕ) (t : List ℤ) → text_of bs ≡ text lim t → Tells t lim old wrote new
  pub bad : (f : Refusal) → text_of bs ≡ refused f → PrintAs (Err f) 256 no_plan old wrote new
