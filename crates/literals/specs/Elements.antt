-- How the code finds the value of an aggregate from its pairs of value and atom in one walk. Definitions only; they need not be believed: `proofs/Amounts.antt` shows that
-- they give crate `valuing`'s `aggregate_value`.
--   limit_of z        the threshold plus 1 as a natural number, 0 for -1;  passes_by: one value against it
--   totals_of         count or sum over the true elements, and over those that could be true
--   marks_of          min and max: whether some true element passes, some fails, and the same of those that could be true
--   Paired w         the words of the pairs lie within 01's ranges
-- Assumes nothing.
use Rattle.std.specs.Prelude.{Bool, true, false, not, ◌&&◌, ◌||◌, List, ℕ, ◌+◌, ◌*◌, ◌≤◌, ◌<◌, ltb, leb, ℤ, pos, negsuc, nat_abs, length, get_or}
use Rattle.layout.specs.Layout.{Plain}
use Rattle.meaning.specs.Aggregates.{values, total}
use Rattle.meaning.specs.Lists.{any}
use Rattle.meaning.specs.Program.{Element}
use Rattle.meaning.specs.declared.Comparison.{Comparison}
use Rattle.meaning.specs.declared.Comparison.TheVariants.{Less, Greater}
use Rattle.interpretation.specs.State.{Cell}
use Rattle.interpretation.specs.declared.Value.{Value}
use Rattle.interpretation.specs.declared.Value.TheVariants.{True, False, Undefined}
use Rattle.valuing.specs.Values.{lowest_of, highest_of, between, decide}
use Rattle.literals.specs.declared.aggregates.Totals.{Totals}

-- ---- one value

abbrev pub limit_of : ℤ → ℕ
limit_of (ℤ.pos n) = n + 1
limit_of (negsuc n) = 0

abbrev pub passes_by : Comparison → ℕ → ℕ → Bool
passes_by Less k v = ltb (v + 1) k
passes_by Greater k v = leb k v

-- ---- count and sum

abbrev pub weight_of : Bool → ℕ → ℕ
weight_of true v = 1
weight_of false v = v

-- count's function, or sum's
abbrev pub sum_of : Bool → List ℕ → ℕ
sum_of true vs = length vs
sum_of false vs = total vs

-- x or nothing
abbrev pub part_of : Bool → ℕ → ℕ
part_of true x = x
part_of false x = 0

abbrev pub added_by : Value → ℕ → Totals → Totals
added_by True x t = record { low = t.low + x; high = t.high + x }
added_by False x t = t
added_by Undefined x t = record { low = t.low; high = t.high + x }

unfoldable pub totals_of : Bool → (ℕ → Cell) → List Element → Totals
totals_of count a es = record { low = sum_of count (values (lowest_of a) es); high = sum_of count (values (highest_of a) es) }

abbrev pub totals_value : Comparison → ℕ → Totals → Value
totals_value c k t = between (passes_by c k t.low) (passes_by c k t.high)

-- ---- min and max

-- whether the value of some true element passes the comparison, and of some it fails; the same of the elements that could be true
pub record Marks : Type 0 where
  pub passed : Bool
  pub failed : Bool
  pub passable : Bool
  pub failable : Bool

abbrev pub marked_by : Value → Bool → Marks → Marks
marked_by True ok m = record { passed = ok || m.passed; failed = not ok || m.failed; passable = ok || m.passable; failable = not ok || m.failable }
marked_by False ok m = m
marked_by Undefined ok m = record { passed = m.passed; failed = m.failed; passable = ok || m.passable; failable = not ok || m.failable }

unfoldable pub marks_of : Comparison → ℕ → (ℕ → Cell) → List Element → Marks
marks_of c k a es = record {
  passed = any (passes_by c k) (values (lowest_of a) es);
  failed = any (λ v. not (passes_by c k v)) (values (lowest_of a) es);
  passable = any (passes_by c k) (values (highest_of a) es);
  failable = any (λ v. not (passes_by c k v)) (values (highest_of a) es);
}

-- each value is asked to pass, and that there be one; or one that passes is enough
abbrev pub marks_value : Bool → Marks → Value
marks_value true m = decide ((m.passed && not m.failed) && (m.passable && not m.failable)) (m.failed || not m.passable)
marks_value false m = between m.passed m.passable

-- ---- the words of the pairs: "value (0 to 65,535) and atom"

pub record Paired (w : List ℤ) : Type 0 where
  pub short : length w ≤ 128
  pub values : (k : ℕ) → 2 * k + 1 < length w → nat_abs (get_or w (2 * k) (pos 0)) ≤ 65535
  pub atoms : (k : ℕ) → 2 * k + 1 < length w → (1 ≤ nat_abs (get_or w (2 * k + 1) (pos 0))) × (nat_abs (get_or w (2 * k + 1) (pos 0)) ≤ 256)
  pub plain : Plain w
