-- What is promised of the refusals 1 to 7 (`proofs/Theorem.antt` shows it): "A solver that refuses all tables falls to the table of
-- refusals" (01). Definitions only.
--   Encoding t c     the words t are at most 16,384, and the encoding of the contents c, which are within 01's ranges
--   FirstFault t r   the place of the refusal r is the first fault of t from the left
--   rule_from t i k   where the k-th rule from i on begins
-- Assumes nothing.
use Rattle.std.specs.Prelude.{◌≡◌, List, ℕ, zero, suc, ◌≤◌, ◌<◌, ℤ, length, take}
use Rattle.results.specs.declared.Refusal.{Refusal}
use Rattle.results.specs.declared.Refusal.TheVariants.{Absent}
use Rattle.results.specs.Results.{place_of}
use Rattle.layout.specs.Layout.{past_rule}
use Rattle.table.specs.Contents.{Contents, InRange, encode}
use Rattle.table.specs.Grammar.{refused_for, contents_of}

pub record Encoding (t : List ℤ) (c : Contents) : Type 0 where
  pub short : length t ≤ 16384
  pub words : t ≡ encode c
  pub range : InRange c

pub record FirstFault (t : List ℤ) (r : Refusal) : Type 0 where
  -- the place is that of a word of the table, or of the first absent one
  pub inside : place_of r ≤ length t
  -- no word before it is at fault: the words before any earlier index are refused only because the next one is absent
  pub before : (k : ℕ) → k < place_of r → contents_of (take k t) ≡ refused_for (Absent k)
  -- and the fault is there: every table that is the same up to the place is refused alike, whatever comes after it
  pub there : (u : List ℤ) → length u ≤ 16384 → take (suc (place_of r)) u ≡ take (suc (place_of r)) t → contents_of u ≡ refused_for r

unfoldable pub rule_from : List ℤ → ℕ → ℕ → ℕ
rule_from t i zero = i
rule_from t i (suc k) = rule_from t (past_rule t i) k
