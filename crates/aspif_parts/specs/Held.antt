-- What a table holds, read in place: the contents of crate `table` by the places of crate `layout`. `proofs/Held.antt` shows that they are the
-- contents of the accepted words. Definitions only.
-- Assumes nothing.
use Rattle.std.specs.Prelude.{List, [], ◌∷◌, ℕ, zero, suc, ℤ}
use Rattle.meaning.specs.Program.{Aggregate}
use Rattle.layout.specs.Layout.{atoms, part_at, pos_at, neg_at, aggs_at, past_rule, aggregate_at, past_aggregate}
use Rattle.layout.specs.declared.Table.{Table}
use Rattle.table.specs.Contents.{NumberedRule, Contents}

-- the rule that begins at i, with its aggregate literals by number
unfoldable pub numbered_at : List ℤ → ℕ → NumberedRule
numbered_at t i = record {
  head = atoms (part_at t i);
  pos = atoms (part_at t (pos_at t i));
  neg = atoms (part_at t (neg_at t i));
  aggs = part_at t (aggs_at t i);
}

unfoldable pub numbered_from : List ℤ → ℕ → ℕ → List NumberedRule
numbered_from t i zero = []
numbered_from t i (suc n) = numbered_at t i ∷ numbered_from t (past_rule t i) n

unfoldable pub aggregates_from : List ℤ → ℕ → ℕ → List Aggregate
aggregates_from t i zero = []
aggregates_from t i (suc n) = aggregate_at t i ∷ aggregates_from t (past_aggregate t i) n

-- the aggregates begin at index 2
unfoldable pub held_by : List ℤ → Table → Contents
held_by t tb = record { atoms = tb.atoms; aggregates = aggregates_from t 2 tb.aggregates; rules = numbered_from t tb.first tb.rules }
