-- What the dock's entries of include/saucepebbly.h promise, for every input: what the solver promises of a result, with the result's kind and its
-- numbers (crate `reports`), and of an answer the rounds and rules as numbers. Definitions only: to be believed.
-- Assumes nothing.
use Rattle.std.specs.Prelude.{◌≡◌, Bool, true, false, List, ℕ, ℤ, length, Result, Ok, Err}
use Rattle.results.specs.Results.{number_of, place_of, kind_of, check_kind}
use Rattle.results.specs.declared.Refusal.{Refusal}
use Rattle.results.specs.declared.Solved.{Solved}
use Rattle.rounds.specs.declared.Why.{Why}
use Rattle.judging.specs.declared.Buffer.TheVariants.{Plan}
use Rattle.solver.specs.Solving.{Solving}
use Rattle.solver.specs.Explaining.{ExplainingBy}
use Rattle.solver.specs.Approving.{ApprovingBy}
use Rattle.reports.specs.Report.{mode_of, ask_of, narrow, first_of, second_of, third_of, reported, with_third}
use Rattle.reports.specs.Whys.{whys_written}

-- of a check only a refusal is reported
abbrev pub check_report : Result Bool Refusal → List ℕ → List ℕ
check_report (Ok true) old = old
check_report (Ok false) old = old
check_report (Err f) old = reported (number_of f) (narrow (place_of f)) old

pub record Solves (t : List ℤ) (mode lim : ℕ) (oldPlan newPlan oldReport newReport oldWhys newWhys : List ℕ) (k : ℕ) : Type 0 where
  pub result : Result Solved Refusal
  pub records : List Why
  pub solving : Solving t (ask_of mode lim) oldPlan newPlan result
  pub explaining : ExplainingBy (mode_of mode) t (Plan (length oldPlan)) newPlan result records
  pub kind : k ≡ kind_of result
  pub report : newReport ≡ with_third (third_of result) (reported (first_of result) (second_of result) oldReport)
  pub whys : newWhys ≡ whys_written records oldWhys

pub record Approves (t : List ℤ) (mode : ℕ) (plan oldReport newReport : List ℕ) (k : ℕ) : Type 0 where
  pub result : Result Bool Refusal
  pub approving : ApprovingBy (mode_of mode) t plan result
  pub kind : k ≡ check_kind result
  pub report : newReport ≡ check_report result oldReport
