-- What the code writes into the plan buffer and reads from an offered plan, by the values' bytes. Definitions only.
--   report_of, buffer_of   the result and the later buffer of a search that found r
--   bad_from              the first byte of k from index i on that is neither 0 nor 1
--   passes_by             the test of an offered model, by the mode
--   checked_by            the check's result, by that byte, the model test and that test
--   Offers               the values of an offered plan
--   whys_for              the rounds and rules that come with a result, where those of the plan are w;  whys_by, by the mode
-- Assumes nothing.
use Rattle.std.specs.Prelude.{◌≡◌, Option, None, Some, Result, Ok, Err, Bool, true, false, not, List, ℕ, zero, suc, ltb, get_or}
use Rattle.meaning.specs.Aggregates.{Atoms}
use Rattle.meaning.specs.Program.{Program}
use Rattle.meaning.specs.Foundedness.{founded}
use Rattle.interpretation.specs.State.{true_atoms, AllDefined}
use Rattle.interpretation.specs.View.{view, valued}
use Rattle.results.specs.declared.Refusal.{Refusal}
use Rattle.results.specs.declared.Refusal.TheVariants as refusal
use Rattle.results.specs.declared.Solved.{Solved}
use Rattle.results.specs.declared.Solved.TheVariants as solved
use Rattle.rounds.specs.declared.Why.{Why}
use Rattle.rounds.specs.Rounds.{no_whys}
use Rattle.search.specs.Search as defined
use Rattle.smaller.specs.Cyclic.{has_smaller}
use Rattle.outcome.specs.declared.Found.{Found}
use Rattle.jumping.specs.Jumping.{result_of}
use Rattle.promises.specs.Plans.{plan_atoms}
use Rattle.promises.specs.Promises.{solved_by, plan_after}

-- the result that the search's struct stands for
abbrev pub result_for : ℕ → Found → defined.Result
result_for n r = result_of r.ending (true_atoms n (view r.it).cell)

abbrev pub report_of : ℕ → Found → Solved
report_of n r = solved_by (result_for n r) (record { choices = r.choices; skips = r.skips; passes = r.passes })

abbrev pub buffer_of : ℕ → Found → List ℕ → List ℕ
buffer_of n r old = plan_after n (result_for n r) old

-- ---- an offered plan

abbrev pub bad_or : Bool → ℕ → Option ℕ → Option ℕ
bad_or true i o = Some i
bad_or false i o = o

unfoldable pub bad_from : List ℕ → ℕ → ℕ → Option ℕ
bad_from plan i zero = None
bad_from plan i (suc k) = bad_or (ltb 1 (get_or plan i 0)) i (bad_from plan (suc i) k)

-- foundedness, or "look for a smaller model of the reduct .. with no limit"
abbrev pub passes_by : Bool → Program → ℕ → Atoms → Bool
passes_by false P n X = founded P n X
passes_by true P n X = not (has_smaller P n X)

abbrev pub checked_by : Option ℕ → Bool → Bool → Result Bool Refusal
checked_by (Some i) m f = Err (refusal.PlanByte i)
checked_by None true true = Ok true
checked_by None true false = Ok false
checked_by None false f = Ok false

pub record Offers (n : ℕ) (plan values : List ℕ) : Type 0 where
  pub says : true_atoms n (valued values) ≡ plan_atoms n plan
  pub whole : AllDefined n (valued values)

-- ---- rounds and rules

abbrev pub is_answer : Solved → Bool
is_answer (solved.Answer k) = true
is_answer (solved.Nothing k) = false
is_answer (solved.Limit k) = false

abbrev pub whys_if : Bool → (ℕ → Why) → ℕ → Why
whys_if true w = w
whys_if false w = no_whys

abbrev pub whys_for : Solved → (ℕ → Why) → ℕ → Why
whys_for r w = whys_if (is_answer r) w

-- "Rounds of Wish 1 are 0 in this mode"
abbrev pub whys_by : Bool → Solved → (ℕ → Why) → ℕ → Why
whys_by false r w = whys_for r w
whys_by true r w = no_whys
