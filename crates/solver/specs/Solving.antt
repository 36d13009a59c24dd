-- What `solve` promises (01, "What comes back", "Meaning", "Reasons and jumps"; the customer's three demands), for every input. Definitions only: to be believed.
-- The refusals are those of crate `judging`; demands 2 and 3 are `Meaning` and `Searching` of crate `promises`, here of the answer sets of the table's program and of
-- the defined search over it: 01's, or where the call takes head cycles request 14's (crate `smaller`).
-- Assumes nothing.
use Rattle.std.specs.Prelude.{◌≡◌, ◌↔◌, List, ℕ, ℤ, length, Result}
use Rattle.meaning.specs.Answers.{AnswerSet}
use Rattle.results.specs.declared.Ask.{Ask}
use Rattle.results.specs.declared.Refusal.{Refusal}
use Rattle.results.specs.declared.Solved.{Solved}
use Rattle.results.specs.Results.{report_of, refusal_report}
use Rattle.search.specs.Search.{Outcome}
use Rattle.smaller.specs.Cyclic.{base_by}
use Rattle.table.specs.Contents.{Contents, program}
use Rattle.judging.specs.declared.Buffer.TheVariants.{Plan}
use Rattle.judging.specs.Refusals.{AcceptedBy, RefusedBy}
use Rattle.promises.specs.Promises.{Meaning, Searching}

pub record Solving (t : List ℤ) (ask : Ask) (old new : List ℕ) (r : Result Solved Refusal) : Type 0 where
  -- demand 1: refused with number n and place i, and counts 0, exactly where 01's table says so; then the whole buffer is as it was
  pub refused : (n i : ℕ) → (report_of r ≡ refusal_report n i) ↔ RefusedBy ask.cycles t (Plan (length old)) n i
  pub untouched : (n i : ℕ) → report_of r ≡ refusal_report n i → new ≡ old
  -- demands 2 and 3 of every accepted table
  pub meaning : (c : Contents) → AcceptedBy ask.cycles t (Plan (length old)) c → Meaning c.atoms (AnswerSet (program c)) ask.limit old new r
  pub searching : (c : Contents) → AcceptedBy ask.cycles t (Plan (length old)) c
      → (o : Outcome) × Searching (AnswerSet (program c)) (base_by ask.cycles (program c) c.atoms) r o ask.limit old new
