-- What `plain::solve` promises (02, "A plain engine beside it"): "With no limit in the way its result and plan equal the jumping solver's on every table, refusals included,
-- and its choices are the plain search's count in demand 3." Definitions only: to be believed.
--   plain_counts  so many choices, no skips, and no count of passes
--   Searched     demand 3 of the plain engine: result, choices and plan of the defined plain search, against the jumping one
--   Plainly      the whole promise, for every input
-- Assumes nothing.
use Rattle.std.specs.Prelude.{◌≡◌, ◌≢◌, ◌↔◌, Bool, List, ℕ, ◌≤◌, ℤ, length, Result, Ok}
use Rattle.std.proofs.Math.Option.{some}
use Rattle.meaning.specs.Answers.{AnswerSet}
use Rattle.results.specs.declared.Ask.{Ask}
use Rattle.results.specs.declared.Counts.{Counts}
use Rattle.results.specs.declared.Refusal.{Refusal}
use Rattle.results.specs.declared.Solved.{Solved}
use Rattle.results.specs.Results.{counts_of, report_of, refusal_report}
use Rattle.search.specs.Search.{limit, Outcome, jump, plain, solve}
use Rattle.smaller.specs.Cyclic.{base_by}
use Rattle.table.specs.Contents.{Contents, program}
use Rattle.judging.specs.declared.Buffer.TheVariants.{Plan}
use Rattle.judging.specs.Refusals.{AcceptedBy, RefusedBy}
use Rattle.promises.specs.Promises.{solved_by, plan_after, Meaning}

-- "It never jumps": the skips are 0; passes are not counted
abbrev pub plain_counts : ℕ → Counts
plain_counts k = record { choices = k; skips = 0; passes = 0 }

-- p is what the defined plain search ends with, in the mode `cycles` (request 14: "the plain search of demand 3 makes the same tests")
pub record Searched (cycles : Bool) (c : Contents) (lim : ℕ) (old new : List ℕ) (r : Result Solved Refusal) (p : Outcome) : Type 0 where
  pub plainly : solve (base_by cycles (program c) c.atoms) plain lim ≡ some p
  -- "its choices are the plain search's count", its result and plan are the plain search's, and it never jumps: the skips are 0
  pub result : r ≡ Ok (solved_by p.result (plain_counts p.choices))
  pub plan : new ≡ plan_after c.atoms p.result old
  -- "With no limit in the way its result and plan equal the jumping solver's": whatever the limit of that one is; and that one opens no more choices
  pub alike : p.result ≢ limit → (other : ℕ) (o : Outcome) → solve (base_by cycles (program c) c.atoms) jump other ≡ some o → o.result ≢ limit
      → (o.result ≡ p.result) × (o.choices ≤ p.choices)
  -- the count fits 32 bits
  pub bounded : (counts_of r).choices ≤ lim

pub record Plainly (t : List ℤ) (ask : Ask) (old new : List ℕ) (r : Result Solved Refusal) : Type 0 where
  -- demand 1, "refusals included": refused with number n and place i, and counts 0, exactly where 01's table says so; then the whole buffer is as it was
  pub refused : (n i : ℕ) → (report_of r ≡ refusal_report n i) ↔ RefusedBy ask.cycles t (Plan (length old)) n i
  pub untouched : (n i : ℕ) → report_of r ≡ refusal_report n i → new ≡ old
  -- demand 2 of every accepted table: an answer is an answer set and the first, none means none, only an answer writes
  pub meaning : (c : Contents) → AcceptedBy ask.cycles t (Plan (length old)) c → Meaning c.atoms (AnswerSet (program c)) ask.limit old new r
  -- demand 3
  pub searching : (c : Contents) → AcceptedBy ask.cycles t (Plan (length old)) c → (p : Outcome) × Searched ask.cycles c ask.limit old new r p
