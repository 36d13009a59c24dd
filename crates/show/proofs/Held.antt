-- What an accepted table holds, read in place, is what its words hold; and what reading a table says of its words. Assumes nothing.
use mathlib.Core.Path.{◌≡◌, refl, sym, ap, ◌∙◌, subst}
use mathlib.Core.List.{List, [], ◌∷◌, ◌++◌, map, append_assoc, append-nil}
use Prim.Native.Nat.{ℕ, suc, ◌+◌, ◌<◌}
use native.Mathlib.Omega.{arith}
use lib.IntN.{ℤ, pos, nat_abs}
use lib.ListN.{length, get_or, drop}
use lib.Seq.{ext_get_or}
use Rattle.std.specs.Prelude.{Ok}
use Rattle.layout.specs.Layout as layout
use Rattle.layout.specs.Layout.{part_at, pos_at, neg_at, aggs_at, past_rule, aggregate_at, start_from, Laid}
use Rattle.layout.specs.declared.Table.{Table}
use Rattle.table.specs.Contents.{NumberedRule, Contents, encode_list, encode_atoms, encode_aggregate, encode_rule, encode_all, encode, no_aggregate}
use Rattle.table.specs.Grammar.{accepted, contents_of}
use Rattle.table.specs.Places.{table_of, reading_of}
use Rattle.table.proofs.Drops.{at_next, at_skip}
use Rattle.table.proofs.LaidRules.{atoms_back, list_part, list_next_lem}
use Rattle.table.proofs.Accepted.{accepted_encoding, accepted_laid, accepted_aggregate, fault_nothing}
use Rattle.aspif_parts.specs.Held.{numbered_at, numbered_from, aggregates_from, held_by}
use Rattle.aspif_parts.proofs.Held.{aggregates_long, aggregate_at_lem}

-- ---- a rule

module _ (t : List ℤ) (i : ℕ) (r : NumberedRule) (rest : List ℤ) (d : drop i t ≡ encode_rule r ++ rest) where
  d0 : drop i t ≡ encode_atoms r.head ++ (encode_atoms r.pos ++ (encode_atoms r.neg ++ (encode_list r.aggs ++ rest)))
  unfolding encode_rule
  d0 =
      d
      ∙ append_assoc (encode_atoms r.head) (encode_atoms r.pos ++ (encode_atoms r.neg ++ encode_list r.aggs)) rest
      ∙ ap (λ (m : List ℤ). encode_atoms r.head ++ m)
      (append_assoc (encode_atoms r.pos) (encode_atoms r.neg ++ encode_list r.aggs) rest
      ∙ ap (λ (m : List ℤ). encode_atoms r.pos ++ m) (append_assoc (encode_atoms r.neg) (encode_list r.aggs) rest))

  d1 : drop (pos_at t i) t ≡ encode_atoms r.pos ++ (encode_atoms r.neg ++ (encode_list r.aggs ++ rest))
  d1 = list_next_lem t i (map pos r.head) _ d0

  d2 : drop (neg_at t i) t ≡ encode_atoms r.neg ++ (encode_list r.aggs ++ rest)
  d2 = list_next_lem t (pos_at t i) (map pos r.pos) _ d1

  d3 : drop (aggs_at t i) t ≡ encode_list r.aggs ++ rest
  d3 = list_next_lem t (neg_at t i) (map pos r.neg) _ d2

  past_rule_lem : drop (past_rule t i) t ≡ rest
  past_rule_lem = list_next_lem t (aggs_at t i) r.aggs rest d3

  atoms_part : (j : ℕ) (l : List ℕ) (after : List ℤ) → drop j t ≡ encode_atoms l ++ after → layout.atoms (part_at t j) ≡ l
  atoms_part j l after e = ap (map nat_abs) (list_part t j (map pos l) after e) ∙ atoms_back l

  rule_is : numbered_at t i ≡ r
  unfolding numbered_at
  rule_is = λ s. record {
    head = atoms_part i r.head _ d0 s;
    pos = atoms_part (pos_at t i) r.pos _ d1 s;
    neg = atoms_part (neg_at t i) r.neg _ d2 s;
    aggs = list_part t (aggs_at t i) r.aggs rest d3 s;
  }

rules_are : (t : List ℤ) (rs : List NumberedRule) (i : ℕ) (rest : List ℤ) → drop i t ≡ encode_all encode_rule rs ++ rest → numbered_from t i (length rs) ≡ rs
unfolding numbered_from
rules_are t [] i rest d = refl
rules_are t (r ∷ rs) i rest d =
    let e = d ∙ append_assoc (encode_rule r) (encode_all encode_rule rs) rest in
    ap (λ (x : NumberedRule). x ∷ numbered_from t (past_rule t i) (length rs)) (rule_is t i r (encode_all encode_rule rs ++ rest) e)
    ∙ ap (λ (l : List NumberedRule). r ∷ l) (rules_are t rs (past_rule t i) rest (past_rule_lem t i r (encode_all encode_rule rs ++ rest) e))

-- ---- the whole

module _ (t : List ℤ) (c : Contents) (e : contents_of t ≡ accepted c) where
  at_rules : drop (3 + length (encode_all encode_aggregate c.aggregates)) t ≡ encode_all encode_rule c.rules ++ []
  unfolding encode
  at_rules =
      let n = length (encode_all encode_aggregate c.aggregates) in
      let z : 3 + n ≡ suc (2 + n) = omega arith in
      let d : drop 2 t ≡ encode_all encode_aggregate c.aggregates ++ (pos (length c.rules) ∷ encode_all encode_rule c.rules) = ap (drop 2) (accepted_encoding t c e).words in
      ap (λ (k : ℕ). drop k t) z ∙ at_next t (2 + n) _ _ (at_skip t 2 (encode_all encode_aggregate c.aggregates) (pos (length c.rules) ∷ encode_all encode_rule c.rules) d)
      ∙ sym (append-nil (encode_all encode_rule c.rules))

  held_aggregates : aggregates_from t 2 (length c.aggregates) ≡ c.aggregates
  unfolding table_of
  held_aggregates = ext_get_or no_aggregate (aggregates_from t 2 (length c.aggregates)) c.aggregates (aggregates_long t 2 (length c.aggregates)) at
    where
      at : (j : ℕ) → j < length (aggregates_from t 2 (length c.aggregates)) → get_or (aggregates_from t 2 (length c.aggregates)) j no_aggregate ≡ get_or c.aggregates j no_aggregate
      at j h =
          let l = aggregates_long t 2 (length c.aggregates) in
          let k : j < length c.aggregates = omega arith in
          aggregate_at_lem t no_aggregate 2 (length c.aggregates) j k ∙ sym (ap (aggregate_at t) ((accepted_laid t c e).starts j k)) ∙ accepted_aggregate t c e j k

  pub held_is : held_by t (table_of c) ≡ c
  unfolding held_by table_of
  held_is = λ s. record {
    atoms = c.atoms;
    aggregates = held_aggregates s;
    rules = rules_are t c.rules (3 + length (encode_all encode_aggregate c.aggregates)) [] at_rules s;
  }

-- ---- what reading has accepted

pub record Taken (t : List ℤ) (tb : Table) : Type 0 where
  pub contents : Contents
  pub accepted : contents_of t ≡ accepted contents
  pub laid : Laid t tb
  pub held : held_by t tb ≡ contents

pub reading_taken : (t : List ℤ) (tb : Table) → reading_of t ≡ Ok tb → Taken t tb
reading_taken t tb e =
    let k = fault_nothing t tb e in
    record {
      contents = k.0;
      accepted = k.1;
      laid = subst (Laid t) (sym k.2) (accepted_laid t k.0 k.1);
      held = ap (held_by t) k.2 ∙ held_is t k.0 k.1;
    }
