-- What `saucepebbly_plain` promises, for every input: what the plain engine promises of a result, with the result's kind and its two numbers. Definitions only: to be
-- believed.
-- Assumes nothing.
use Rattle.std.specs.Prelude.{◌≡◌, List, ℕ, ℤ, Result}
use Rattle.results.specs.Results.{kind_of}
use Rattle.results.specs.declared.Refusal.{Refusal}
use Rattle.results.specs.declared.Solved.{Solved}
use Rattle.plain.specs.Promise.{Plainly}
use Rattle.reports.specs.Report.{ask_of, first_of, second_of, reported}

pub record SolvesPlainly (t : List ℤ) (mode lim : ℕ) (oldPlan newPlan oldReport newReport : List ℕ) (k : ℕ) : Type 0 where
  pub result : Result Solved Refusal
  pub solving : Plainly t (ask_of mode lim) oldPlan newPlan result
  pub kind : k ≡ kind_of result
  pub report : newReport ≡ reported (first_of result) (second_of result) oldReport
