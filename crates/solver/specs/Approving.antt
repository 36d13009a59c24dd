-- What `approve` promises (01, "What comes back"): "The check never writes and returns yes, no or refused with number and place"; "A plan offered for checking
-- is approved exactly if it is an answer set"; request 14: where the call takes head cycles 8 is not given, and "The check makes the test with no limit": so its words are
-- the same. Definitions only: to be believed.
--   Bits n plan         every byte of the first n is 0 or 1
--   BadByte n plan i    11: "a byte of the first N is neither 0 nor 1", i the first such index
--   CheckRefusedBy m    the refusals of `RefusedBy m`, and after them 11: number and place;  CheckRefused, in 01's mode
--   ApprovingBy m       the promise in the mode m;  Approving, in 01's mode
-- Assumes nothing.
use Rattle.std.specs.Prelude.{◌≡◌, ◌↔◌, Bool, true, false, List, ℕ, ◌<◌, ℤ, length, get_or, Result, Ok}
use Rattle.meaning.specs.Answers.{AnswerSet}
use Rattle.results.specs.declared.Refusal.{Refusal}
use Rattle.results.specs.Results.{check_report_of, refusal_check}
use Rattle.table.specs.Contents.{Contents, program}
use Rattle.judging.specs.declared.Buffer.TheVariants.{Plan}
use Rattle.judging.specs.Refusals.{AcceptedBy, RefusedBy}
use Rattle.promises.specs.Plans.{plan_atoms}

-- a byte of a plan that is 0 or 1
pub data Bit (b : ℕ) : Type 0 where
  is_zero : b ≡ 0 → Bit b
  is_one : b ≡ 1 → Bit b

abbrev pub Bits : ℕ → List ℕ → Type 0
Bits n plan = (i : ℕ) → i < n → Bit (get_or plan i 0)

pub record BadByte (n : ℕ) (plan : List ℕ) (i : ℕ) : Type 0 where
  pub inside : i < n
  pub bad : Bit (get_or plan i 0) → ⊥
  pub before : (j : ℕ) → j < i → Bit (get_or plan j 0)

pub data CheckRefusedBy (cycles : Bool) (t : List ℤ) (plan : List ℕ) (number place : ℕ) : Type 0 where
  before : RefusedBy cycles t (Plan (length plan)) number place → CheckRefusedBy cycles t plan number place
  -- 11: "check only: a byte of the first N is neither 0 nor 1", "its index"; it comes last
  byte : (c : Contents) → AcceptedBy cycles t (Plan (length plan)) c → BadByte c.atoms plan place → number ≡ 11 → CheckRefusedBy cycles t plan number place

pub record ApprovingBy (cycles : Bool) (t : List ℤ) (plan : List ℕ) (r : Result Bool Refusal) : Type 0 where
  -- refused with number n and place i exactly where 01's table says so
  pub refused : (n i : ℕ) → (check_report_of r ≡ refusal_check n i) ↔ CheckRefusedBy cycles t plan n i
  -- yes exactly of an answer set, no exactly of what is none
  pub yes : (c : Contents) → AcceptedBy cycles t (Plan (length plan)) c → Bits c.atoms plan → (r ≡ Ok true) ↔ AnswerSet (program c) (plan_atoms c.atoms plan)
  pub no : (c : Contents) → AcceptedBy cycles t (Plan (length plan)) c → Bits c.atoms plan → (r ≡ Ok false) ↔ (AnswerSet (program c) (plan_atoms c.atoms plan) → ⊥)

-- ---- in 01's mode

abbrev pub CheckRefused : List ℤ → List ℕ → ℕ → ℕ → Type 0
CheckRefused t plan number place = CheckRefusedBy false t plan number place

abbrev pub Approving : List ℤ → List ℕ → Result Bool Refusal → Type 0
Approving t plan r = ApprovingBy false t plan r
