-- What `relax` promises (02, request 13), for every input. Definitions only: to be believed.
--   RelaxRefused                      01's refusals (crate `judging`), and "Refusal 26: the list has fewer than M places, after 9"
--   relaxed_by, list_after, plan_after   the result, the lent list and the plan buffer that report what the definition (crate `relaxing`) comes to
--   GivesUp                           an answer in answer sets: which rules are kept, the plan, the list, and that putting back a dropped rule leaves no plan
--   Relaxes                           what is promised of an accepted table; Relaxing, of every input
-- The lent list is `list` before the call and `list'` after it, the plan buffer `plan` and `plan'`. "For this entry demand 2 reads over the rules kept, and its
-- "none" over the rules with heads alone."
-- Assumes nothing.
use Rattle.std.specs.Prelude.{◌≡◌, ◌≢◌, ◌↔◌, Bool, List, ◌++◌, ℕ, ◌≤◌, ◌<◌, ℤ, length, drop, Result, Ok}
use Rattle.std.proofs.Math.Option.{some}
use Rattle.meaning.specs.Lists.{◌∈◌, keep}
use Rattle.meaning.specs.Aggregates.{Atoms}
use Rattle.meaning.specs.Program.{Program}
use Rattle.meaning.specs.Answers.{AnswerSet}
use Rattle.results.specs.declared.Refusal.{Refusal}
use Rattle.results.specs.declared.Ask.{Ask}
use Rattle.results.specs.declared.Relaxed.{Relaxed}
use Rattle.results.specs.declared.Relaxed.TheVariants as told
use Rattle.results.specs.Results.{relax_report_of, refusal_relaxed}
use Rattle.search.specs.Search.{jump, limit, Outcome, solve}
use Rattle.smaller.specs.Cyclic.{base_by}
use Rattle.relaxing.specs.Relaxing as defined
use Rattle.relaxing.specs.Relaxing.{headed, rules_of, dropped_of, with_number, Keeps, relaxed, no_plan, at_limit, relax}
use Rattle.table.specs.Contents.{Contents, program}
use Rattle.judging.specs.declared.Buffer.TheVariants.{Plan}
use Rattle.judging.specs.Refusals.{AcceptedBy, RefusedBy}
use Rattle.promises.specs.Plans.{plan_with}
use Rattle.promises.specs.Promises.{FirstWritten, Empty}

-- ---- refusals, in the mode of the call: a plan buffer of `room` bytes, a list of `places` places

pub data RelaxRefused (cycles : Bool) (t : List ℤ) (room places : ℕ) (number place : ℕ) : Type 0 where
  before : RefusedBy cycles t (Plan room) number place → RelaxRefused cycles t room places number place
  -- 26: "the list has fewer than M places", place 0
  short : (c : Contents) → AcceptedBy cycles t (Plan room) c → places < length (program c) → number ≡ 26 → place ≡ 0 → RelaxRefused cycles t room places number place

-- ---- what is reported: "the dropped rules' numbers, ascending, in a lent list with their count, and the first plan of what is kept"; "Neither writes"

abbrev pub relaxed_by : Program → defined.Relaxed → Relaxed
relaxed_by P (relaxed kept X) = told.Answer (length (dropped_of P kept))
relaxed_by P no_plan = told.Nothing
relaxed_by P at_limit = told.Limit

-- the rest of the list is as it was
abbrev pub list_after : Program → defined.Relaxed → List ℕ → List ℕ
list_after P (relaxed kept X) list = dropped_of P kept ++ drop (length (dropped_of P kept)) list
list_after P no_plan list = list
list_after P at_limit list = list

abbrev pub plan_after : ℕ → defined.Relaxed → List ℕ → List ℕ
plan_after n (relaxed kept X) plan = plan_with n X plan
plan_after n no_plan plan = plan
plan_after n at_limit plan = plan

-- ---- an answer: of k dropped rules

pub record GivesUp (n : ℕ) (P : Program) (list list' plan plan' : List ℕ) (k : ℕ) : Type 0 where
  -- the numbers of the constraints that are kept
  pub kept : ℕ → Bool
  -- "offer the constraints in table order; keep each one with which a plan still exists"
  pub keeps : Keeps P kept
  -- "the first plan of what is kept"
  pub written : FirstWritten n (AnswerSet (rules_of P kept)) plan plan'
  pub number : k ≡ length (dropped_of P kept)
  pub listed : list' ≡ dropped_of P kept ++ drop k list
  -- "Putting back any one dropped constraint leaves no plan"
  pub put_back : (i : ℕ) → i ∈ dropped_of P kept → Empty n (AnswerSet (rules_of P (with_number i kept)))

-- ---- an accepted table

pub record Relaxes (cycles : Bool) (n : ℕ) (P : Program) (lim : ℕ) (list list' plan plan' : List ℕ) (r : Result Relaxed Refusal) : Type 0 where
  -- result, list and plan are those of the definition by trials: so limit is met exactly if one of its trials meets it
  pub result : r ≡ Ok (relaxed_by P (relax cycles n lim P))
  pub listed : list' ≡ list_after P (relax cycles n lim P) list
  pub written : plan' ≡ plan_after n (relax cycles n lim P) plan
  -- the same in answer sets
  pub answers : (k : ℕ) → r ≡ Ok (told.Answer k) → GivesUp n P list list' plan plan' k
  -- "If the rules with heads alone have no answer set, it ends with none": and only then
  pub none : r ≡ Ok told.Nothing → Empty n (AnswerSet (keep headed P)) × (list' ≡ list) × (plan' ≡ plan)
  -- "if one reaches it the call ends with limit"
  pub limited : r ≡ Ok told.Limit → ((kept : ℕ → Bool) × (o : Outcome) × (solve (base_by cycles (rules_of P kept) n) jump lim ≡ some o) × (o.result ≡ limit)) × (list' ≡ list) × (plan' ≡ plan)
  -- where the rules with heads have an answer set and no limit is met, there is an answer
  pub found : (X : Atoms) → AnswerSet (keep headed P) X → r ≢ Ok told.Limit → (k : ℕ) × (r ≡ Ok (told.Answer k))
  -- where the whole table has an answer set, nothing is dropped
  pub whole : (X : Atoms) → AnswerSet P X → (k : ℕ) → r ≡ Ok (told.Answer k) → k ≡ 0
  -- an accepted table is not refused
  pub taken : (m i : ℕ) → relax_report_of r ≢ refusal_relaxed m i

-- ---- every input

pub record Relaxing (t : List ℤ) (ask : Ask) (list list' plan plan' : List ℕ) (r : Result Relaxed Refusal) : Type 0 where
  pub refused : (n i : ℕ) → (relax_report_of r ≡ refusal_relaxed n i) ↔ RelaxRefused ask.cycles t (length plan) (length list) n i
  pub untouched : (n i : ℕ) → relax_report_of r ≡ refusal_relaxed n i → (list' ≡ list) × (plan' ≡ plan)
  pub relaxes : (c : Contents) → AcceptedBy ask.cycles t (Plan (length plan)) c → length (program c) ≤ length list
      → Relaxes ask.cycles c.atoms (program c) ask.limit list list' plan plan' r
