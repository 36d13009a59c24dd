-- The texts of aggregates, literals, names and rules by their parts, read in place. Assumes nothing.
use mathlib.Core.Path.{◌≡◌, refl, sym, ap, ◌∙◌, subst}
use mathlib.Core.Bool.{Bool, true, false, not, cond}
use mathlib.Core.List.{List, [], ◌∷◌, ◌++◌, map, append_assoc}
use Prim.Native.Nat.{ℕ, zero, suc, ◌+◌, ◌-◌, ◌≤◌, ◌<◌}
use native.Mathlib.Numerals.{add-one}
use native.Mathlib.Omega.{arith}
use lib.Dec.{leb}
use lib.IntN.{ℤ, pos, nat_abs}
use lib.ListN.{length, get_or, take, drop, drop_of_length-le}
use lib.Seq.{drop-cons, length-take-le, get_or-take}
use lib.Signed.{non_neg}
use Rattle.meaning.specs.Program.{Aggregate}
use Rattle.layout.specs.Layout.{nat_at, atoms, part_at, pos_at, neg_at, aggs_at, past_rule, function_by, comparison_by, pairs, pairs_at, past_aggregate, aggregate_at, Laid}
use Rattle.layout.specs.declared.Table.{Table}
use Rattle.table.specs.Contents.{NumberedRule, Contents, no_aggregate}
use Rattle.text.specs.Line.{decimal}
use Rattle.aspif_parts.specs.Held.{numbered_at, numbered_from, held_by}
use Rattle.aspif_parts.proofs.Held.{numbered_on, numbered_none, held_aggregate, held_long}
use Rattle.notation.specs.Notation.{before, joined, comma, not_word, function_text, comparison_text, element_text, threshold_text, aggregate_text, name_text, literal_text, lists_text, rule_text, named_from, named, name_line, names_text, rule_line, rules_text, text_by, text_of, in_turn}

-- ---- an aggregate

pub aggregate_parts : (t : List ℤ) (i : ℕ)
    → function_text (function_by (nat_at t i)) ++ (joined comma (map element_text (pairs (pairs_at t i))) ++ (comparison_text (comparison_by (nat_at t (i + 1))) ++ threshold_text (get_or t (i + 2) (pos 0))))
    ≡ aggregate_text (aggregate_at t i)
unfolding aggregate_text aggregate_at
aggregate_parts t i = refl

module _ (t : List ℤ) (tb : Table) (laid : Laid t tb) (k begin : ℕ) (h : k < tb.aggregates) (e : begin ≡ get_or tb.starts k 0) where
  pub aggregate_is : aggregate_at t begin ≡ get_or (held_by t tb).aggregates k no_aggregate
  aggregate_is = ap (aggregate_at t) (e ∙ laid.starts k h) ∙ sym (held_aggregate t tb no_aggregate k h)

  pub aggregate_fits : past_aggregate t begin ≤ length t
  aggregate_fits = subst (λ (i : ℕ). past_aggregate t i ≤ length t) (sym (e ∙ laid.starts k h)) (laid.aggregates k h).fits

-- ---- a literal

pub literal_parts : (d : ℕ) (gs : List Aggregate) (w : ℤ)
    → before not_word (not (non_neg w)) ++ cond (leb (nat_abs w) d) (name_text (nat_abs w)) (aggregate_text (get_or gs (nat_abs w - 1) no_aggregate)) ≡ literal_text d gs w
unfolding literal_text
literal_parts d gs w = refl

-- ---- the names

module _ (j : ℕ) where
  names_cons : (a : Aggregate) (l : List Aggregate) → names_text j (a ∷ l) ≡ name_line j a ++ names_text (suc j) l
  unfolding names_text
  names_cons a l = refl

pub names_nil : (j : ℕ) → names_text j [] ≡ []
unfolding names_text
names_nil j = refl

module _ (gs : List Aggregate) (d j : ℕ) (most : d ≤ length gs) where
  pub names_on : j < d → names_text (j + 1) (drop j (take d gs)) ≡ name_line (j + 1) (get_or gs j no_aggregate) ++ names_text (j + 1 + 1) (drop (j + 1) (take d gs))
  names_on h =
      let l = length-take-le d gs most in
      let k : j < length (take d gs) = omega arith in
      ap (names_text (j + 1)) (drop-cons (take d gs) j no_aggregate k)
      ∙ names_cons (j + 1) (get_or (take d gs) j no_aggregate) (drop (suc j) (take d gs))
      ∙ ap (λ (a : Aggregate). name_line (j + 1) a ++ names_text (suc (j + 1)) (drop (suc j) (take d gs))) (get_or-take d gs j no_aggregate h)
      ∙ ap (λ (i : ℕ). name_line (j + 1) (get_or gs j no_aggregate) ++ names_text i (drop (suc j) (take d gs))) (sym (add-one (j + 1)))
      ∙ ap (λ (i : ℕ). name_line (j + 1) (get_or gs j no_aggregate) ++ names_text (j + 1 + 1) (drop i (take d gs))) (sym (add-one j))

  pub names_none : d ≤ j → names_text (j + 1) (drop j (take d gs)) ≡ []
  names_none h =
      let l = length-take-le d gs most in
      ap (names_text (j + 1)) (drop_of_length-le (take d gs) {i = j} (omega arith)) ∙ names_nil (j + 1)

-- ---- a rule

pub rule_parts : (d : ℕ) (gs : List Aggregate) (t : List ℤ) (i : ℕ)
    → lists_text d gs (atoms (part_at t i)) (atoms (part_at t (pos_at t i))) (atoms (part_at t (neg_at t i))) (part_at t (aggs_at t i)) ≡ rule_text d gs (numbered_at t i)
unfolding rule_text numbered_at
rule_parts d gs t i = refl

module _ (d : ℕ) (gs : List Aggregate) (t : List ℤ) (k i n : ℕ) where
  rules_cons : (r : NumberedRule) (rs : List NumberedRule) → rules_text d gs k (r ∷ rs) ≡ rule_line d gs k r ++ rules_text d gs (suc k) rs
  unfolding rules_text
  rules_cons r rs = refl

  rules_nil : rules_text d gs k [] ≡ []
  unfolding rules_text
  rules_nil = refl

  pub rules_on : 0 < n → rules_text d gs k (numbered_from t i n) ≡ rule_line d gs k (numbered_at t i) ++ rules_text d gs (k + 1) (numbered_from t (past_rule t i) (n - 1))
  rules_on h =
      ap (rules_text d gs k) (numbered_on t i n h)
      ∙ rules_cons (numbered_at t i) (numbered_from t (past_rule t i) (n - 1))
      ∙ ap (λ (j : ℕ). rule_line d gs k (numbered_at t i) ++ rules_text d gs j (numbered_from t (past_rule t i) (n - 1))) (sym (add-one k))

  pub rules_none : n ≤ 0 → rules_text d gs k (numbered_from t i n) ≡ []
  rules_none h = ap (rules_text d gs k) (numbered_none t i n h) ∙ rules_nil

-- ---- the table

pub text_parts : (d : ℕ) (t : List ℤ) (tb : Table)
    → (97 ∷ 116 ∷ 111 ∷ 109 ∷ 115 ∷ 32 ∷ []) ++ (decimal tb.atoms ++ ((46 ∷ 10 ∷ []) ++ (names_text 1 (take d (held_by t tb).aggregates) ++ rules_text d (held_by t tb).aggregates 1 (held_by t tb).rules)))
    ≡ text_by d (held_by t tb)
unfolding text_by held_by
text_parts d t tb = cut (97 ∷ 116 ∷ 111 ∷ 109 ∷ 115 ∷ 32 ∷ []) (decimal tb.atoms) (46 ∷ 10 ∷ []) (names_text 1 (take d (held_by t tb).aggregates) ++ rules_text d (held_by t tb).aggregates 1 (held_by t tb).rules)
  where
    cut : (a b c e : List ℕ) → a ++ (b ++ (c ++ e)) ≡ (a ++ (b ++ c)) ++ e
    cut a b c e = sym (append_assoc a (b ++ c) e ∙ ap (λ (x : List ℕ). a ++ x) (append_assoc b c e))

from_most : (c : Contents) (d n : ℕ) → named_from c d n ≤ d + n
unfolding named_from
from_most c d zero = omega arith
from_most c d (suc n) = at (in_turn c d) (from_most c (suc d) n)
  where
    at : (b : Bool) → named_from c (suc d) n ≤ suc d + n → cond b d (named_from c (suc d) n) ≤ d + suc n
    at true h = omega arith
    at false h = omega arith

pub named_most : (t : List ℤ) (tb : Table) → named (held_by t tb) ≤ tb.aggregates
unfolding named
named_most t tb = let l = held_long t tb in let m = from_most (held_by t tb) 0 (length (held_by t tb).aggregates) in omega arith

pub text_is : (t : List ℤ) (tb : Table) → text_by (named (held_by t tb)) (held_by t tb) ≡ text_of (held_by t tb)
unfolding text_of
text_is t tb = refl
