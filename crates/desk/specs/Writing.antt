-- What `saucepebbly_write_aspif` promises, for every input: what the writer promises of a result, with the result's kind and its two numbers
-- (`specs/Reading.antt`), the number of bytes or a refusal's number and place. Definitions only: to be believed.
-- Assumes nothing.
use Rattle.std.specs.Prelude.{◌≡◌, List, ℕ, ℤ, Result}
use Rattle.results.specs.declared.Refusal.{Refusal}
use Rattle.aspif_write.specs.Promise.{Writes}
use Rattle.reports.specs.Report.{reported}
use Rattle.desk.specs.Reading.{read_kind, read_first, read_second}

pub record WritesAspif (words : List ℤ) (oldText newText oldReport newReport : List ℕ) (k : ℕ) : Type 0 where
  pub result : Result ℕ Refusal
  pub writes : Writes words oldText newText result
  pub kind : k ≡ read_kind result
  pub report : newReport ≡ reported (read_first result) (read_second result) oldReport
