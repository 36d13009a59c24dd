-- The rows of a listing (02, request 7): "a lent buffer of 256-byte rows, rest bytes 0", and what the code of the listing hands back, in the terms of crate `search`. Definitions only.
--   row_byte X i        byte i of a plan's row: 1 if atom i + 1 is true, else 0; X has only the table's atoms
--   row_from, row_of     the bytes from index i on, and the whole row
--   row_put             a buffer with the first k bytes of a row written at an index
--   rows_of, rows_with   the rows of the plans, one after the other; the buffer with them, "rows past the number listed keep their bytes"
--   ListsBy            the number listed, the kind, the counts and the rows are those of the defined listing
-- Assumes nothing.
use Rattle.std.specs.Prelude.{◌≡◌, Bool, true, false, List, [], ◌∷◌, ◌++◌, ℕ, zero, suc, ◌+◌, ◌*◌, length, take, drop}
use Rattle.std.proofs.Math.Option.{some}
use Rattle.meaning.specs.Aggregates.{Atoms}
use Rattle.search.specs.Search.{Problem, Result, answer, no_answer, limit, jump}
use Rattle.search.specs.Listing.{Listed, list_all}
use Rattle.listing.specs.declared.Kind.{Kind}
use Rattle.listing.specs.declared.Kind.TheVariants.{Complete, Full, Limit}
use Rattle.listing.specs.declared.Told.{Told}

abbrev pub bit_by : Bool → ℕ
bit_by true = 1
bit_by false = 0

-- "byte i-1 of the plan buffer is 1 if atom i is true, else 0"
abbrev pub row_byte : Atoms → ℕ → ℕ
row_byte X i = bit_by (X (suc i))

-- the k bytes from index i on
unfoldable pub row_from : Atoms → ℕ → ℕ → List ℕ
row_from X i zero = []
row_from X i (suc k) = row_byte X i ∷ row_from X (suc i) k

abbrev pub row_of : Atoms → List ℕ
row_of X = row_from X 0 256

abbrev pub row_put : Atoms → ℕ → ℕ → List ℕ → List ℕ
row_put X at k old = take at old ++ (row_from X 0 k ++ drop (at + k) old)

unfoldable pub rows_of : List Atoms → List ℕ
rows_of [] = []
rows_of (X ∷ plans) = row_of X ++ rows_of plans

abbrev pub rows_with : List Atoms → List ℕ → List ℕ
rows_with plans old = rows_of plans ++ drop (256 * length plans) old

-- the result of the search for one plan more than those listed, as the end of the listing
abbrev pub kind_by : Result → Kind
kind_by (answer X) = Full
kind_by no_answer = Complete
kind_by limit = Limit

abbrev pub told_by : Listed → Told
told_by o = record { kind = kind_by o.result; number = length o.plans; choices = o.choices; skips = o.skips; passes = o.passes }

pub record ListsBy (P : Problem) (lim room : ℕ) (old new : List ℕ) (r : Told) : Type 0 where
  pub outcome : Listed
  pub listed : list_all P jump lim room ≡ some outcome
  pub result : r ≡ told_by outcome
  pub rows : new ≡ rows_with outcome.plans old
