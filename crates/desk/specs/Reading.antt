-- What `saucepebbly_read_aspif` promises, for every input: what the reader promises of a result, with the result's kind and its two numbers.
-- Definitions only: to be believed.
-- Assumes nothing.
use Rattle.std.specs.Prelude.{◌≡◌, List, ℕ, ℤ, Result, Ok, Err}
use Rattle.results.specs.Results.{number_of, place_of}
use Rattle.results.specs.declared.Refusal.{Refusal}
use Rattle.aspif_read.specs.Reads.{Reads}
use Rattle.reports.specs.Report.{narrow, reported}

abbrev pub read_kind : Result ℕ Refusal → ℕ
read_kind (Ok n) = 0
read_kind (Err f) = 3

-- the number of words (of bytes, for the writer); or a refusal's number and place
abbrev pub read_first : Result ℕ Refusal → ℕ
read_first (Ok n) = narrow n
read_first (Err f) = number_of f

abbrev pub read_second : Result ℕ Refusal → ℕ
read_second (Ok n) = 0
read_second (Err f) = narrow (place_of f)

pub record ReadsAspif (text : List ℕ) (oldWords newWords : List ℤ) (oldReport newReport : List ℕ) (k : ℕ) : Type 0 where
  pub result : Result ℕ Refusal
  pub reads : Reads text oldWords result newWords
  pub kind : k ≡ read_kind result
  pub report : newReport ≡ reported (read_first result) (read_second result) oldReport
