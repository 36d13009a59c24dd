-- What an entry that searches promises of its result r and of the plan buffer, `old` before the call and `new` after it (the customer's demands 2 and 3), over any
-- set AS of answer sets and any problem P of the defined search (crate `search`). 01's base is one instance: `AnswerSet` of the table's program, and `base`.
-- Definitions only: to be believed.
--   FirstWritten, Empty   "an answer set, the first in 01's order", as the plan's bytes say it; there is none
--   reported, plan_after   the result that reports an outcome of the defined search, and the later buffer
--   Meaning               demand 2: answer, none and limit
--   Beside                against the plain search with a limit L
--   Searching             demand 3: result, plan, choices and skips of the defined jumping search, beside the plain one with every limit from the call's on; and
--                         request 11: the passes
-- Assumes nothing.
use Rattle.std.specs.Prelude.{◌≡◌, ◌≢◌, List, ℕ, suc, ◌≤◌, length, Result, Ok}
use Rattle.std.proofs.Math.Option.{some}
use Rattle.meaning.specs.Lists.{◌∈◌}
use Rattle.meaning.specs.Aggregates.{Atoms}
use Rattle.meaning.specs.Answers.{First}
use Rattle.results.specs.declared.Refusal.{Refusal}
use Rattle.results.specs.declared.Counts.{Counts}
use Rattle.results.specs.declared.Solved.{Solved}
use Rattle.results.specs.declared.Solved.TheVariants as solved
use Rattle.results.specs.Results.{counts_of, report_of, refusal_report}
use Rattle.search.specs.Search as defined
use Rattle.search.specs.Search.{Problem, answer, no_answer, limit, Branch, Outcome, jump, plain, solve}
use Rattle.search.specs.Laws.{Dead}
use Rattle.promises.specs.Plans.{plan_with}

-- ---- demand 2

module _ (n : ℕ) (AS : Atoms → Type 0) where
  -- the first of AS in 01's order stands in the first n bytes, and the others are as they were
  pub record FirstWritten (old new : List ℕ) : Type 0 where
    pub atoms : Atoms
    pub is_answer : AS atoms
    pub first : First n AS atoms
    pub written : new ≡ plan_with n atoms old

  abbrev pub Empty : Type 0
  Empty = (X : Atoms) → AS X → ⊥

  pub record Meaning (lim : ℕ) (old new : List ℕ) (r : Result Solved Refusal) : Type 0 where
    -- an answer is an answer set, the first in 01's order, and it is what the plan bytes say
    pub answers : (k : Counts) → r ≡ Ok (solved.Answer k) → FirstWritten old new
    -- none: there is no answer set, and "every other result keeps the entire buffer"
    pub none : (k : Counts) → r ≡ Ok (solved.Nothing k) → Empty × (new ≡ old)
    -- limit: only with as many choices as the limit allows, and the whole buffer is as it was
    pub limited : (k : Counts) → r ≡ Ok (solved.Limit k) → (k.choices ≡ lim) × (new ≡ old)
    -- where there is an answer set and no limit is met, there is an answer
    pub found : (X : Atoms) → AS X → ((k : Counts) → r ≢ Ok (solved.Limit k)) → (k : Counts) × (r ≡ Ok (solved.Answer k))
    -- an accepted table is not refused
    pub taken : (m i : ℕ) → report_of r ≢ refusal_report m i

-- ---- how a result reports an outcome of the defined search

abbrev pub solved_by : defined.Result → Counts → Solved
solved_by (answer X) k = solved.Answer k
solved_by no_answer k = solved.Nothing k
solved_by limit k = solved.Limit k

-- the counts that are reported: a count added later is added here
abbrev pub counted : Outcome → Counts
counted o = record { choices = o.choices; skips = o.skips; passes = o.passes }

abbrev pub reported : Outcome → Solved
reported o = solved_by o.result (counted o)

-- "Every other result keeps the entire buffer"
abbrev pub plan_after : ℕ → defined.Result → List ℕ → List ℕ
plan_after n (answer X) old = plan_with n X old
plan_after n no_answer old = old
plan_after n limit old = old

-- ---- demand 3: o is what the defined jumping search ends with

module _ (AS : Atoms → Type 0) (P : Problem) (r : Result Solved Refusal) (o : Outcome) where
  -- beside the plain search with the limit L, which ends with `ends`
  pub record Beside (L : ℕ) : Type 0 where
    pub ends : Outcome
    pub plainly : solve P plain L ≡ some ends
    -- "the choices are no more than the plain search opens"
    pub fewer : (counts_of r).choices ≤ ends.choices
    -- "With no limit in the way both end alike", with the same plan
    pub alike : o.result ≢ limit → ends.result ≢ limit → o.result ≡ ends.result

  pub record Searching (lim : ℕ) (old new : List ℕ) : Type 0 where
    pub jumping : solve P jump lim ≡ some o
    -- "Choices and skips are those of the defined jumping search", and so are the kind of the result, the plan and the passes
    pub result : r ≡ Ok (reported o)
    pub plan : new ≡ plan_after P.atoms o.result old
    -- the plain search with the call's limit or any larger one
    pub beside : (L : ℕ) → lim ≤ L → Beside L
    -- with the call's own limit the plain search meets it wherever ours does
    pub sooner : o.result ≡ limit → (p : Outcome) → solve P plain lim ≡ some p → p.result ≡ limit
    -- "no branch that was jumped over holds an answer set", and there are as many as skips are reported
    pub skipped : length o.skipped ≡ (counts_of r).skips
    pub dead : (b : Branch) → b ∈ o.skipped → Dead AS b
    -- "Report the greatest number of passes that any one propagation took, equal to the definition's, and show that it is at most N + 1" (request 11); one is always taken
    pub passes : (1 ≤ (counts_of r).passes) × ((counts_of r).passes ≤ suc P.atoms)
    -- the counts fit 32 bits
    pub bounded : ((counts_of r).choices ≤ lim) × ((counts_of r).skips ≤ (counts_of r).choices)
