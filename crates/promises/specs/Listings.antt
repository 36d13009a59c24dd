-- What an entry that lists every plan promises of its result r and of the lent rows, `old` before the call and `new` after it (02, request 7, with the customer's demands
-- 2 and 3 in that mode), over any set AS of answer sets and any problem P of the defined search (crate `search`). Definitions only: to be believed.
--   row_of, rows_of        "256-byte rows, rest bytes 0"; the rows of plans, one after the other
--   rows_with, rooms      the buffer with them: "Rows past the number listed keep their bytes"; how many rows a buffer has
--   listed_by, listed_as   the result that reports an outcome of the defined listing
--   AllPlans             demand 2: which plans are listed, in which order, and the three ends
--   ListBeside           against the plain listing with a limit L
--   ListSearching        demand 3: result, rows, choices, skips and passes of the defined jumping listing, beside the plain one with every limit from the call's on
-- Assumes nothing.
use Rattle.std.specs.Prelude.{◌≡◌, ◌≢◌, List, [], ◌∷◌, ◌++◌, ℕ, suc, ◌-◌, ◌*◌, ◌/◌, ◌≤◌, length, drop, replicate, Result, Ok}
use Rattle.std.proofs.Math.Option.{some}
use Rattle.meaning.specs.Lists.{◌∈◌}
use Rattle.meaning.specs.Aggregates.{Atoms}
use Rattle.meaning.specs.Answers.{Before}
use Rattle.results.specs.declared.Refusal.{Refusal}
use Rattle.results.specs.declared.Counts.{Counts}
use Rattle.results.specs.declared.Listed.{Listed}
use Rattle.results.specs.declared.Listed.TheVariants as listed
use Rattle.results.specs.Results.{list_report_of, refusal_listing, listed_of, list_counts}
use Rattle.search.specs.Search as defined
use Rattle.search.specs.Search.{Problem, answer, no_answer, limit, jump, plain}
use Rattle.search.specs.Laws.{Left, Dead}
use Rattle.search.specs.Listing as listing
use Rattle.search.specs.Listing.{Jumped, list_all, Rising, Once}
use Rattle.promises.specs.Plans.{bytes_from}

-- ---- rows

-- "256-byte rows, rest bytes 0": 1 or 0 for atoms 1 to n, and 0 above
abbrev pub row_of : ℕ → Atoms → List ℕ
row_of n X = bytes_from X 1 n ++ replicate (256 - n) 0

abbrev pub rows_of : ℕ → List Atoms → List ℕ
rows_of n [] = []
rows_of n (X ∷ plans) = row_of n X ++ rows_of n plans

-- "Rows past the number listed keep their bytes"
abbrev pub rows_with : ℕ → List Atoms → List ℕ → List ℕ
rows_with n plans old = rows_of n plans ++ drop (256 * length plans) old

abbrev pub rooms : List ℕ → ℕ
rooms old = length old / 256

-- ---- demand 2: `plans` are the plans that are listed, in order

pub record AllPlans (n : ℕ) (AS : Atoms → Type 0) (lim : ℕ) (old new : List ℕ) (r : Result Listed Refusal) (plans : List Atoms) : Type 0 where
  -- row i holds the i-th plan, "each listed row whole", and the number listed is their number
  pub rows : new ≡ rows_with n plans old
  pub number : listed_of r ≡ length plans
  pub fits : length plans ≤ rooms old
  -- "List all answer sets in 01's order, each once": each is an answer set, comes before all that follow it, and is listed once
  pub answers : (X : Atoms) → X ∈ plans → AS X
  pub order : Rising n plans
  pub once : Once plans
  -- "full or limit leaves the first plans, in order": an answer set that is not listed comes after each of them
  pub firsts : (X : Atoms) → X ∈ plans → (Z : Atoms) → AS Z → (Z ∈ plans → ⊥) → Before n X Z
  -- complete: every answer set is listed
  pub complete : (m : ℕ) (k : Counts) → r ≡ Ok (listed.Complete m k) → (X : Atoms) → AS X → X ∈ plans
  -- "Full means that the search found one more than there are rows"
  pub full : (m : ℕ) (k : Counts) → r ≡ Ok (listed.Full m k) → (m ≡ rooms old) × ((X : Atoms) × AS X × (X ∈ plans → ⊥))
  -- limit: only with as many choices as the limit allows
  pub limited : (m : ℕ) (k : Counts) → r ≡ Ok (listed.Limit m k) → k.choices ≡ lim
  -- an accepted table is not refused
  pub taken : (m i : ℕ) → list_report_of r ≢ refusal_listing m i

-- ---- how a result reports an outcome of the defined listing: its result is that of the search for one plan more than those listed

abbrev pub listed_by : defined.Result → ℕ → Counts → Listed
listed_by (answer X) m k = listed.Full m k
listed_by no_answer m k = listed.Complete m k
listed_by limit m k = listed.Limit m k

abbrev pub listed_as : listing.Listed → Listed
listed_as o = listed_by o.result (length o.plans) (record { choices = o.choices; skips = o.skips; passes = o.passes })

-- ---- demand 3: o is what the defined jumping listing ends with

module _ (AS : Atoms → Type 0) (P : Problem) (r : Result Listed Refusal) (o : listing.Listed) where
  -- beside the plain listing with the limit L into as many rows, which ends with `ends`
  pub record ListBeside (room L : ℕ) : Type 0 where
    pub ends : listing.Listed
    pub plainly : list_all P plain L room ≡ some ends
    -- no more choices than the plain listing opens
    pub fewer : (list_counts r).choices ≤ ends.choices
    -- with no limit in the way both end alike, with the same rows
    pub alike : o.result ≢ limit → ends.result ≢ limit → (o.result ≡ ends.result) × (o.plans ≡ ends.plans)

  pub record ListSearching (lim : ℕ) (old new : List ℕ) : Type 0 where
    pub jumping : list_all P jump lim (rooms old) ≡ some o
    -- the number listed, the kind, the choices, the skips, the passes and the rows are those of the defined listing
    pub result : r ≡ Ok (listed_as o)
    pub rows : new ≡ rows_with P.atoms o.plans old
    -- the plain listing with the call's limit or any larger one
    pub beside : (L : ℕ) → lim ≤ L → ListBeside (rooms old) L
    -- with the call's own limit the plain listing meets it wherever ours does
    pub sooner : o.result ≡ limit → (p : listing.Listed) → list_all P plain lim (rooms old) ≡ some p → p.result ≡ limit
    -- there are as many branches jumped over as skips are reported; "In this mode the claim about jumped-over branches reads: none that hasn't already been listed": what was
    -- listed by then is the first part of the plans
    pub skipped : length o.skipped ≡ (list_counts r).skips
    pub dead : (j : Jumped) → j ∈ o.skipped → Dead (Left AS j.listed) j.branch × ((rest : List Atoms) × (o.plans ≡ j.listed ++ rest))
    -- "at most N + 1" (request 11)
    pub passes : (list_counts r).passes ≤ suc P.atoms
    -- the counts fit 32 bits
    pub bounded : ((list_counts r).choices ≤ lim) × ((list_counts r).skips ≤ (list_counts r).choices)
