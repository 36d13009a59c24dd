-- The rules and the aggregates of a table read in place, one by one. Assumes nothing.
use mathlib.Core.Path.{◌≡◌, refl, ap, ◌∙◌}
use mathlib.Core.List.{List, [], ◌∷◌}
use Prim.Native.Nat.{ℕ, zero, suc, ◌-◌, ◌≤◌, ◌<◌}
use native.Mathlib.Nat.{le_of_suc-le-suc, not-suc-le-zero}
use native.Mathlib.Omega.{arith}
use lib.IntN.{ℤ}
use lib.ListN.{length, get_or}
use Rattle.meaning.specs.Program.{Aggregate}
use Rattle.layout.specs.Layout.{part_at, aggs_at, past_rule, aggregate_at, past_aggregate, start_from}
use Rattle.layout.specs.declared.Table.{Table}
use Rattle.aspif_parts.specs.Held.{numbered_at, numbered_from, aggregates_from, held_by}

-- ---- the rules from index i on

module _ (t : List ℤ) (i : ℕ) where
  numbered_suc : (n : ℕ) → numbered_from t i (suc n) ≡ numbered_at t i ∷ numbered_from t (past_rule t i) n
  unfolding numbered_from
  numbered_suc n = refl

  pub numbered_on : (n : ℕ) → 0 < n → numbered_from t i n ≡ numbered_at t i ∷ numbered_from t (past_rule t i) (n - 1)
  numbered_on n h = let e : n ≡ suc (n - 1) = omega arith in ap (numbered_from t i) e ∙ numbered_suc (n - 1)

  numbered_zero : numbered_from t i 0 ≡ []
  unfolding numbered_from
  numbered_zero = refl

  pub numbered_none : (n : ℕ) → n ≤ 0 → numbered_from t i n ≡ []
  numbered_none n h = let e : n ≡ 0 = omega arith in ap (numbered_from t i) e ∙ numbered_zero

-- ---- the aggregates

pub aggregates_long : (t : List ℤ) (i n : ℕ) → length (aggregates_from t i n) ≡ n
unfolding aggregates_from
aggregates_long t i zero = refl
aggregates_long t i (suc n) = ap suc (aggregates_long t (past_aggregate t i) n)

pub aggregate_at_lem : (t : List ℤ) (d : Aggregate) (i n k : ℕ) → k < n → get_or (aggregates_from t i n) k d ≡ aggregate_at t (start_from t i k)
unfolding aggregates_from start_from
aggregate_at_lem t d i zero k h = absurd (not-suc-le-zero h)
aggregate_at_lem t d i (suc n) zero h = refl
aggregate_at_lem t d i (suc n) (suc k) h = aggregate_at_lem t d (past_aggregate t i) n k (le_of_suc-le-suc h)

module _ (t : List ℤ) (tb : Table) where
  pub held_atoms : (held_by t tb).atoms ≡ tb.atoms
  unfolding held_by
  held_atoms = refl

  pub held_rules : (held_by t tb).rules ≡ numbered_from t tb.first tb.rules
  unfolding held_by
  held_rules = refl

  pub held_long : length (held_by t tb).aggregates ≡ tb.aggregates
  unfolding held_by
  held_long = aggregates_long t 2 tb.aggregates

  pub held_aggregate : (d : Aggregate) (k : ℕ) → k < tb.aggregates → get_or (held_by t tb).aggregates k d ≡ aggregate_at t (start_from t 2 k)
  unfolding held_by
  held_aggregate d k h = aggregate_at_lem t d 2 tb.aggregates k h

pub numbered_aggs : (t : List ℤ) (i : ℕ) → (numbered_at t i).aggs ≡ part_at t (aggs_at t i)
unfolding numbered_at
numbered_aggs t i = refl
