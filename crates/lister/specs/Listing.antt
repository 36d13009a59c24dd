-- What `list` promises (02, request 7), for every input. Definitions only: to be believed.
-- The refusals are those of crate `judging`, 17 in the place of 10; which plans are listed, and by which search, are `AllPlans` and `ListSearching` of crate `promises`,
-- here of the answer sets of the table's program and of the defined search over it: 01's, or where the call takes head cycles request 14's.
-- Assumes nothing.
use Rattle.std.specs.Prelude.{◌≡◌, ◌↔◌, List, ℕ, ℤ, length, Result}
use Rattle.meaning.specs.Aggregates.{Atoms}
use Rattle.meaning.specs.Answers.{AnswerSet}
use Rattle.results.specs.declared.Refusal.{Refusal}
use Rattle.results.specs.declared.Ask.{Ask}
use Rattle.results.specs.declared.Listed.{Listed}
use Rattle.results.specs.Results.{list_report_of, refusal_listing}
use Rattle.search.specs.Listing as listing
use Rattle.smaller.specs.Cyclic.{base_by}
use Rattle.table.specs.Contents.{Contents, program}
use Rattle.judging.specs.declared.Buffer.TheVariants.{Rows}
use Rattle.judging.specs.Refusals.{AcceptedBy, RefusedBy}
use Rattle.promises.specs.Listings.{AllPlans, ListSearching}

pub record Listing (t : List ℤ) (ask : Ask) (old new : List ℕ) (r : Result Listed Refusal) : Type 0 where
  -- demand 1: refused with number n and place i, and counts 0, exactly where 01's table says so; then nothing is written
  pub refused : (n i : ℕ) → (list_report_of r ≡ refusal_listing n i) ↔ RefusedBy ask.cycles t (Rows (length old)) n i
  pub untouched : (n i : ℕ) → list_report_of r ≡ refusal_listing n i → new ≡ old
  -- demands 2 and 3 of every accepted table
  pub meaning : (c : Contents) → AcceptedBy ask.cycles t (Rows (length old)) c → (plans : List Atoms) × AllPlans c.atoms (AnswerSet (program c)) ask.limit old new r plans
  pub searching : (c : Contents) → AcceptedBy ask.cycles t (Rows (length old)) c
      → (o : listing.Listed) × ListSearching (AnswerSet (program c)) (base_by ask.cycles (program c) c.atoms) r o ask.limit old new
