-- What `saucepebbly_open`, `saucepebbly_pin`, `saucepebbly_unpin` and `saucepebbly_plan` promise, for every input: what crate `pins` promises of a result, with the
-- result's kind and its numbers. Definitions only: to be believed.
-- Assumes nothing.
use Rattle.std.specs.Prelude.{◌≡◌, List, ℕ, ℤ, ⊤, Result, Ok, Err}
use Rattle.results.specs.Results.{number_of, place_of, kind_of, pinned_kind}
use Rattle.results.specs.declared.Refusal.{Refusal}
use Rattle.solver.specs.declared.Solution.{Solution}
use Rattle.sessions.specs.Sessions.{Call}
use Rattle.pins.specs.Session.{Opening, Changing, Plans}
use Rattle.reports.specs.Report.{mode_of, narrow, first_of, second_of, third_of, reported, with_third}
use Rattle.reports.specs.Whys.{whys_written}

abbrev pub changed_first : Result ⊤ Refusal → ℕ
changed_first (Ok d) = 0
changed_first (Err f) = number_of f

abbrev pub changed_second : Result ⊤ Refusal → ℕ
changed_second (Ok d) = 0
changed_second (Err f) = narrow (place_of f)

pub record Opens (t : List ℤ) (mode : ℕ) (old new : List ℤ) (oldReport newReport : List ℕ) (k : ℕ) : Type 0 where
  pub result : Result ⊤ Refusal
  pub opening : Opening (mode_of mode) t old new result
  pub kind : k ≡ pinned_kind result
  pub report : newReport ≡ reported (changed_first result) (changed_second result) oldReport

pub record Changes (call : Call) (old new : List ℤ) (oldReport newReport : List ℕ) (k : ℕ) : Type 0 where
  pub result : Result ⊤ Refusal
  pub changing : Changing call old new result
  pub kind : k ≡ pinned_kind result
  pub report : newReport ≡ reported (changed_first result) (changed_second result) oldReport

pub record PlansInC (s : List ℤ) (lim : ℕ) (oldPlan newPlan oldReport newReport oldWhys newWhys : List ℕ) (k : ℕ) : Type 0 where
  pub result : Solution
  pub plans : Plans s lim oldPlan newPlan result
  pub kind : k ≡ kind_of result.solved
  pub report : newReport ≡ with_third (third_of result.solved) (reported (first_of result.solved) (second_of result.solved) oldReport)
  pub whys : newWhys ≡ whys_written result.whys oldWhys
