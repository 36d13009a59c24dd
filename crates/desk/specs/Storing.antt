-- What `saucepebbly_store` and `saucepebbly_restore` promise, for every input: what crate `stored` promises of a result, with the result's kind and its two numbers
-- (`specs/Reading.antt`), the number of bytes or words or a refusal's number and place. Definitions only: to be believed.
-- Assumes nothing.
use Rattle.std.specs.Prelude.{◌≡◌, List, ℕ, ℤ, Result}
use Rattle.results.specs.declared.Refusal.{Refusal}
use Rattle.stored.specs.Promises.{Stores}
use Rattle.stored.specs.Restoring.{Restores}
use Rattle.reports.specs.Report.{reported}
use Rattle.desk.specs.Reading.{read_kind, read_first, read_second}

pub record StoresTable (words : List ℤ) (oldBytes newBytes oldReport newReport : List ℕ) (k : ℕ) : Type 0 where
  pub result : Result ℕ Refusal
  pub stores : Stores words oldBytes newBytes result
  pub kind : k ≡ read_kind result
  pub report : newReport ≡ reported (read_first result) (read_second result) oldReport

pub record RestoresTable (bytes : List ℕ) (oldWords newWords : List ℤ) (oldReport newReport : List ℕ) (k : ℕ) : Type 0 where
  pub result : Result ℕ Refusal
  pub restores : Restores bytes oldWords newWords result
  pub kind : k ≡ read_kind result
  pub report : newReport ≡ reported (read_first result) (read_second result) oldReport
