-- What `saucepebbly_relax` promises, for every input: what giving up promises of a result (02, request 13), with the result's kind and its two numbers. Definitions
-- only: to be believed.
-- Assumes nothing.
use Rattle.std.specs.Prelude.{◌≡◌, List, ℕ, ℤ, Result, Ok, Err}
use Rattle.results.specs.Results.{number_of, place_of, relax_report_of}
use Rattle.results.specs.declared.Refusal.{Refusal}
use Rattle.results.specs.declared.Relaxed.{Relaxed}
use Rattle.results.specs.declared.Relaxed.TheVariants as told
use Rattle.relaxer.specs.Promise.{Relaxing}
use Rattle.reports.specs.Report.{ask_of, narrow, reported}

abbrev pub relax_kind : Result Relaxed Refusal → ℕ
relax_kind r = (relax_report_of r).kind

-- the number of dropped rules; or a refusal's number and place
abbrev pub relax_first : Result Relaxed Refusal → ℕ
relax_first (Ok (told.Answer k)) = narrow k
relax_first (Ok told.Nothing) = 0
relax_first (Ok told.Limit) = 0
relax_first (Err f) = number_of f

abbrev pub relax_second : Result Relaxed Refusal → ℕ
relax_second (Ok (told.Answer k)) = 0
relax_second (Ok told.Nothing) = 0
relax_second (Ok told.Limit) = 0
relax_second (Err f) = narrow (place_of f)

pub record GivesUpInC (t : List ℤ) (mode lim : ℕ) (list list' plan plan' oldReport newReport : List ℕ) (k : ℕ) : Type 0 where
  pub result : Result Relaxed Refusal
  pub relaxing : Relaxing t (ask_of mode lim) list list' plan plan' result
  pub kind : k ≡ relax_kind result
  pub report : newReport ≡ reported (relax_first result) (relax_second result) oldReport
