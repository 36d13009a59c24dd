-- How many aggregates need a name, step by step as the code finds it. Assumes nothing.
use mathlib.Core.Path.{◌≡◌, refl, sym, ap, ◌∙◌}
use mathlib.Core.Bool.{Bool, true, false, cond}
use mathlib.Core.List.{List, ◌∷◌}
use Prim.Native.Nat.{ℕ, suc, ◌+◌, ◌-◌, ◌≤◌, ◌<◌}
use native.Mathlib.Numerals.{add-one}
use native.Mathlib.Omega.{arith}
use lib.Dec.{eqb}
use lib.IntN.{ℤ, pos}
use lib.ListN.{length, get_or, drop, drop_of_length-le}
use lib.Seq.{drop-cons}
use Rattle.layout.specs.Layout.{part_at, aggs_at, past_rule}
use Rattle.layout.specs.declared.Table.{Table}
use Rattle.table.specs.Contents.{NumberedRule, Contents}
use Rattle.aspif_parts.specs.Held.{numbered_at, numbered_from, held_by}
use Rattle.aspif_parts.proofs.Held.{numbered_on, numbered_none, numbered_aggs, held_rules, held_long}
use Rattle.notation.specs.Notation.{turn, turns, turns_all, in_turn, named_from, named}

-- ---- a list, and the rules

module _ (d e : ℕ) (l : List ℤ) (i : ℕ) where
  pub turns_on : i < length l → turns d e (drop i l) ≡ turns d (turn d e (get_or l i (pos 0))) (drop (i + 1) l)
  unfolding turns
  turns_on h = rw (drop-cons l i (pos 0) h, add-one)

  pub turns_none : length l ≤ i → turns d e (drop i l) ≡ e
  unfolding turns
  turns_none h = rw (drop_of_length-le l h)

module _ (d e : ℕ) (t : List ℤ) (i n : ℕ) where
  cons : (r : NumberedRule) (rs : List NumberedRule) → turns_all d e (r ∷ rs) ≡ turns_all d (turns d e r.aggs) rs
  unfolding turns_all
  cons r rs = refl

  pub all_on : 0 < n → turns_all d e (numbered_from t i n) ≡ turns_all d (turns d e (part_at t (aggs_at t i))) (numbered_from t (past_rule t i) (n - 1))
  all_on h =
      ap (turns_all d e) (numbered_on t i n h) ∙ cons (numbered_at t i) (numbered_from t (past_rule t i) (n - 1))
      ∙ ap (λ (l : List ℤ). turns_all d (turns d e l) (numbered_from t (past_rule t i) (n - 1))) (numbered_aggs t i)

  pub all_none : n ≤ 0 → turns_all d e (numbered_from t i n) ≡ e
  unfolding turns_all
  all_none h = ap (turns_all d e) (numbered_none t i n h)

module _ (t : List ℤ) (tb : Table) (d : ℕ) where
  pub in_turn_lem : (e : ℕ) → e ≡ turns_all d (d + 1) (numbered_from t tb.first tb.rules) → eqb e (tb.aggregates + 1) ≡ in_turn (held_by t tb) d
  unfolding in_turn
  in_turn_lem e h =
      ap (λ (k : ℕ). eqb k (tb.aggregates + 1)) (h ∙ ap (λ (k : ℕ). turns_all d k (numbered_from t tb.first tb.rules)) (add-one d) ∙ ap (turns_all d (suc d)) (sym (held_rules t tb)))
      ∙ ap (eqb (turns_all d (suc d) (held_by t tb).rules)) (add-one tb.aggregates ∙ ap suc (sym (held_long t tb)))

-- ---- the least number

module _ (c : Contents) (d n : ℕ) where
  from_suc : (m : ℕ) → named_from c d (suc m) ≡ cond (in_turn c d) d (named_from c (suc d) m)
  unfolding named_from
  from_suc m = refl

  from_less : 0 < n → named_from c d n ≡ cond (in_turn c d) d (named_from c (suc d) (n - 1))
  from_less h = let e : n ≡ suc (n - 1) = omega arith in ap (named_from c d) e ∙ from_suc (n - 1)

  pub named_here : 0 < n → in_turn c d ≡ true → named_from c d n ≡ d
  named_here h e = from_less h ∙ ap (λ (b : Bool). cond b d (named_from c (suc d) (n - 1))) e

  pub named_later : 0 < n → in_turn c d ≡ false → named_from c d n ≡ named_from c (d + 1) (n - 1)
  named_later h e = from_less h ∙ ap (λ (b : Bool). cond b d (named_from c (suc d) (n - 1))) e ∙ ap (λ (k : ℕ). named_from c k (n - 1)) (sym (add-one d))

  none_zero : named_from c d 0 ≡ d
  unfolding named_from
  none_zero = refl

  pub named_last : n ≤ 0 → named_from c d n ≡ d
  named_last h = let e : n ≡ 0 = omega arith in ap (named_from c d) e ∙ none_zero

pub named_is : (t : List ℤ) (tb : Table) → named_from (held_by t tb) 0 tb.aggregates ≡ named (held_by t tb)
unfolding named
named_is t tb = ap (named_from (held_by t tb) 0) (sym (held_long t tb))
