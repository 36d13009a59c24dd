-- The marks and weights of a statement's atoms, as the code holds them. Definitions only, for the contracts of inner functions; `proofs/` ties
-- them to `Reading`.
--   mark_of     what one field more of a statement adds
--   marks_by    the marks after all fields
--   row_from    the atoms of a row that are marked, ascending
--   weights_from   the atoms of the fourth row that are marked, each with its number in the fifth
-- Assumes nothing.
use Rattle.std.specs.Prelude.{Bool, true, ◌&&◌, List, [], ◌∷◌, ℕ, zero, suc, ◌+◌, ◌*◌, ◌-◌, min, eqb, leb, ltb, get_or, set, Option, Some, None}
use Rattle.meaning.specs.Lists.{cons_if}
use Rattle.meaning.specs.Program.{Element}
use Rattle.text.specs.Text.{pick}
use Rattle.aspif_scan.specs.declared.number.Number.{Number}
use Rattle.aspif_scan.specs.Number.{nought}
use Rattle.aspif_scan.specs.declared.machine.Stage.{Stage}
use Rattle.aspif_scan.specs.declared.machine.Stage.TheVariants.{Rule, Disjunction, HeadCount, Head, Body, LiteralCount, Literal, Bound, PairCount, Pair, Weight, NormalEnd, WeightEnd, Outside}
use Rattle.aspif_scan.specs.declared.machine.State.{State}
use Rattle.aspif_scan.specs.Machine.{step_of}

-- the index of the atom p in a row
unfoldable pub slot_of : ℕ → ℕ → Option ℕ
slot_of row p = pick (eqb p 0) None (pick (ltb 256 p) None (Some (row * 256 + (p - 1))))

abbrev pub literal_row : Bool → ℕ
literal_row minus = pick minus 2 1

unfoldable pub add_of : List ℕ → Option ℕ → ℕ → List ℕ
add_of m None more = m
add_of m (Some i) more = set m i (min (get_or m i 0 + more) 65536)

abbrev pub mark_at : Stage → ℕ → Number → List ℕ → List ℕ
mark_at Rule p n m = m
mark_at Disjunction p n m = m
mark_at HeadCount p n m = m
mark_at Head p n m = add_of m (slot_of 0 n.size) 1
mark_at Body p n m = m
mark_at LiteralCount p n m = m
mark_at Literal p n m = add_of m (slot_of (literal_row n.minus) n.size) 1
mark_at Bound p n m = m
mark_at PairCount p n m = m
mark_at Pair p n m = add_of m (slot_of 3 n.size) 1
mark_at Weight p n m = add_of m (slot_of 4 p) n.size
mark_at NormalEnd p n m = m
mark_at WeightEnd p n m = m
mark_at Outside p n m = m

unfoldable pub mark_of : State → Option Number → List ℕ → List ℕ
mark_of s None m = mark_at s.stage s.atom nought m
mark_of s (Some n) m = mark_at s.stage s.atom n m

-- the marks after all fields
unfoldable pub marks_by : State → List (Option Number) → List ℕ → List ℕ
marks_by s [] m = m
marks_by s (n ∷ ns) m = marks_by (step_of s n) ns (mark_of s n m)

-- n atoms from p on, whose marks lie from index i on
unfoldable pub row_from : List ℕ → ℕ → ℕ → ℕ → List ℕ
row_from m i p zero = []
row_from m i p (suc n) = cons_if (ltb 0 (get_or m i 0)) p (row_from m (suc i) (suc p) n)

-- the same, each with the number that lies 256 further on
unfoldable pub weights_from : List ℕ → ℕ → ℕ → ℕ → List Element
weights_from m i p zero = []
weights_from m i p (suc n) = cons_if (ltb 0 (get_or m i 0)) (record { value = get_or m (i + 256) 0; atom = p }) (weights_from m (suc i) (suc p) n)

-- n numbers from index i on are at most 65,535
unfoldable pub light_from : List ℕ → ℕ → ℕ → Bool
light_from m i zero = true
light_from m i (suc n) = leb (get_or m i 0) 65535 && light_from m (suc i) n
