-- The rules of an encoding, found in place: where a rule's words stand at index i of the table, `layout` reads that rule there, and the
-- next one begins past its words. Assumes nothing.
use mathlib.Core.Path.{◌≡◌, refl, sym, ap, ◌∙◌, subst}
use mathlib.Core.List.{List, [], ◌∷◌, ◌++◌, map, append_assoc}
use Prim.Native.Nat.{ℕ, zero, suc, ◌+◌, ◌-◌, ◌≤◌, ◌<◌}
use native.Mathlib.Nat.{le_of_suc-le-suc, not-suc-le-zero}
use native.Mathlib.Omega.{arith}
use lib.Dec.{T}
use lib.IntN.{ℤ, pos, nat_abs}
use lib.Signed.{non_neg}
use lib.ListN.{length, get_or, take, drop}
use Rattle.meaning.specs.Program.{Aggregate, Rule}
use Rattle.layout.specs.Layout as layout
use Rattle.layout.specs.Layout.{nat_at, part_at, past_at, Members, Listed, Plain, PlainAt, literal_of, pos_at, neg_at, aggs_at, past_rule, rule_at, rules_from, RuleLies, RulesLie, aggregate_at, start_from}
use Rattle.table.specs.Contents.{NumberedRule, Each, Ascending, RuleInRange, encode_list, encode_atoms, encode_rule, encode_all, no_aggregate, literal_by, rule_by}
use Rattle.table.specs.Promises.{rule_from}
use Rattle.table.proofs.Drops.{at_next, at_head, at_skip, at_take, at_within}

-- ---- lists

-- every number of an ascending list is in range
ascending_in : (top previous : ℕ) (l : List ℤ) → Ascending top previous (map nat_abs l) → Members top l
ascending_in top previous [] a k h = absurd (not-suc-le-zero h)
ascending_in top previous (w ∷ l) a zero h = let p = a.0 in (omega arith, a.1)
ascending_in top previous (w ∷ l) a (suc k) h = ascending_in top (nat_abs w) l a.2 k (le_of_suc-le-suc h)

pub atoms_back : (l : List ℕ) → map nat_abs (map pos l) ≡ l
atoms_back [] = refl
atoms_back (x ∷ l) = ap {B = List ℕ} (λ r. x ∷ r) (atoms_back l)

plain_atoms : (l : List ℕ) → Plain (map pos l)
plain_atoms [] k h = absurd (not-suc-le-zero h)
plain_atoms (x ∷ l) zero h = tt
plain_atoms (x ∷ l) (suc k) h = plain_atoms l k (le_of_suc-le-suc h)

module _ (t : List ℤ) (i : ℕ) (l rest : List ℤ) (d : drop i t ≡ encode_list l ++ rest) where
  number : nat_at t i ≡ length l
  number = ap nat_abs (at_head t i _ _ (pos 0) d)

  after : drop (i + 1) t ≡ l ++ rest
  after =
      let z : i + 1 ≡ suc i = omega arith in
      ap (λ (n : ℕ). drop n t) z ∙ at_next t i _ _ d

  pub list_part : part_at t i ≡ l
  list_part = ap (λ (n : ℕ). take n (drop (i + 1) t)) number ∙ at_take t (i + 1) l rest after

  pub list_past : past_at t i ≡ i + length (encode_list l)
  list_past =
      let n = number in
      omega arith

  pub list_next_lem : drop (past_at t i) t ≡ rest
  list_next_lem = ap (λ (n : ℕ). drop n t) list_past ∙ at_skip t i (encode_list l) rest d

  pub list_fits : past_at t i ≤ length t
  list_fits = rw list_past (at_within t i (encode_list l) rest d (omega arith))

  pub list_lies : (top : ℕ) → Ascending top 0 (map nat_abs l) → Listed top t i
  list_lies top a = record {
    fits = list_fits;
    members = subst (Members top) (sym list_part) (ascending_in top 0 l a);
  }

-- the same for atoms
module _ (t : List ℤ) (i : ℕ) (l : List ℕ) (rest : List ℤ) (d : drop i t ≡ encode_atoms l ++ rest) where
  atoms_part : layout.atoms (part_at t i) ≡ l
  atoms_part = ap (map nat_abs) (list_part t i (map pos l) rest d) ∙ atoms_back l

  -- none of its words is negative, nor is its count
  atoms_plain : PlainAt t i
  atoms_plain = record {
    count = subst (λ (z : ℤ). T (non_neg z)) (sym (at_head t i _ _ (pos 0) d)) tt;
    words = subst Plain (sym (list_part t i (map pos l) rest d)) (plain_atoms l);
  }

  atoms_lie : (top : ℕ) → Ascending top 0 l → Listed top t i
  atoms_lie top a = list_lies t i (map pos l) rest d top (subst (Ascending top 0) (sym (atoms_back l)) a)

-- ---- aggregate literals

module _ (t : List ℤ) (gs : List Aggregate) (found : (j : ℕ) → j < length gs → aggregate_at t (start_from t 2 j) ≡ get_or gs j no_aggregate) where
  literals_are : (previous : ℕ) (l : List ℤ) → Ascending (length gs) previous (map nat_abs l) → map (literal_of t) l ≡ map (literal_by gs) l
  literals_are previous [] a = refl
  literals_are previous (w ∷ l) a =
      let p = a.0 in
      let q = a.1 in
      λ s. record { plain = non_neg w; aggregate = found (nat_abs w - 1) (omega arith) s } ∷ literals_are (nat_abs w) l a.2 s

  -- ---- a rule at i

  module _ (top i : ℕ) (r : NumberedRule) (rest : List ℤ) (d : drop i t ≡ encode_rule r ++ rest) where
    d0 : drop i t ≡ encode_atoms r.head ++ (encode_atoms r.pos ++ (encode_atoms r.neg ++ (encode_list r.aggs ++ rest)))
    unfolding encode_rule
    d0 =
        d
        ∙ append_assoc (encode_atoms r.head) (encode_atoms r.pos ++ (encode_atoms r.neg ++ encode_list r.aggs)) rest
        ∙ ap (λ (m : List ℤ). encode_atoms r.head ++ m)
        (append_assoc (encode_atoms r.pos) (encode_atoms r.neg ++ encode_list r.aggs) rest
        ∙ ap (λ (m : List ℤ). encode_atoms r.pos ++ m) (append_assoc (encode_atoms r.neg) (encode_list r.aggs) rest))

    d1 : drop (pos_at t i) t ≡ encode_atoms r.pos ++ (encode_atoms r.neg ++ (encode_list r.aggs ++ rest))
    d1 = list_next_lem t i (map pos r.head) _ d0

    d2 : drop (neg_at t i) t ≡ encode_atoms r.neg ++ (encode_list r.aggs ++ rest)
    d2 = list_next_lem t (pos_at t i) (map pos r.pos) _ d1

    d3 : drop (aggs_at t i) t ≡ encode_list r.aggs ++ rest
    d3 = list_next_lem t (neg_at t i) (map pos r.neg) _ d2

    pub rule_next_lem : drop (past_rule t i) t ≡ rest
    rule_next_lem = list_next_lem t (aggs_at t i) r.aggs rest d3

    pub rule_fits : past_rule t i ≤ length t
    rule_fits = list_fits t (aggs_at t i) r.aggs rest d3

    pub rule_is : RuleInRange top (length gs) r → rule_at t i ≡ rule_by gs r
    unfolding rule_at
    rule_is g = λ s. record {
      head = atoms_part t i r.head _ d0 s;
      pos = atoms_part t (pos_at t i) r.pos _ d1 s;
      neg = atoms_part t (neg_at t i) r.neg _ d2 s;
      aggs = (ap (map (literal_of t)) (list_part t (aggs_at t i) r.aggs rest d3) ∙ literals_are 0 r.aggs g.aggs) s;
    }

    pub rule_lies : RuleInRange top (length gs) r → RuleLies top (length gs) t i
    rule_lies g = record {
      heads = atoms_lie t i r.head _ d0 top g.head;
      poss = atoms_lie t (pos_at t i) r.pos _ d1 top g.pos;
      negs = atoms_lie t (neg_at t i) r.neg _ d2 top g.neg;
      aggs = list_lies t (aggs_at t i) r.aggs rest d3 (length gs) g.aggs;
      plain_head = atoms_plain t i r.head _ d0;
      plain_pos = atoms_plain t (pos_at t i) r.pos _ d1;
      plain_neg = atoms_plain t (neg_at t i) r.neg _ d2;
    }

  -- ---- the rules from i on

  pub rules_are : (top : ℕ) (rs : List NumberedRule) (i : ℕ) (rest : List ℤ) → drop i t ≡ encode_all encode_rule rs ++ rest
      → Each (RuleInRange top (length gs)) rs → rules_from t i (length rs) ≡ map (rule_by gs) rs
  unfolding rules_from
  rules_are top [] i rest d g = refl
  rules_are top (r ∷ rs) i rest d g =
      let e = d ∙ append_assoc (encode_rule r) (encode_all encode_rule rs) rest in
      λ s. rule_is top i r (encode_all encode_rule rs ++ rest) e g.0 s ∷ rules_are top rs (past_rule t i) rest (rule_next_lem top i r (encode_all encode_rule rs ++ rest) e) g.1 s

  pub rules_lie_lem : (top : ℕ) (rs : List NumberedRule) (i : ℕ) (rest : List ℤ) → drop i t ≡ encode_all encode_rule rs ++ rest
      → Each (RuleInRange top (length gs)) rs → RulesLie top (length gs) t i (length rs)
  unfolding RulesLie
  rules_lie_lem top [] i rest d g = tt
  rules_lie_lem top (r ∷ rs) i rest d g =
      let e = d ∙ append_assoc (encode_rule r) (encode_all encode_rule rs) rest in
      (rule_lies top i r (encode_all encode_rule rs ++ rest) e g.0, rules_lie_lem top rs (past_rule t i) rest (rule_next_lem top i r (encode_all encode_rule rs ++ rest) e) g.1)

  -- ---- walking them

  walk_zero : (i : ℕ) → rule_from t i 0 ≡ i
  unfolding rule_from
  walk_zero i = refl

  walk_suc : (i k : ℕ) → rule_from t i (suc k) ≡ rule_from t (past_rule t i) k
  unfolding rule_from
  walk_suc i k = refl

  -- past the last rule stands what follows the rules
  pub walk_end : (top : ℕ) (rs : List NumberedRule) (i : ℕ) (rest : List ℤ) → drop i t ≡ encode_all encode_rule rs ++ rest → i ≤ length t
      → (drop (rule_from t i (length rs)) t ≡ rest) × (rule_from t i (length rs) ≤ length t)
  walk_end top [] i rest d h = (ap (λ (k : ℕ). drop k t) (walk_zero i) ∙ d, rw (walk_zero i) h)
  walk_end top (r ∷ rs) i rest d h =
      let e = d ∙ append_assoc (encode_rule r) (encode_all encode_rule rs) rest in
      let q = encode_all encode_rule rs ++ rest in
      let w = walk_end top rs (past_rule t i) rest (rule_next_lem top i r q e) (rule_fits top i r q e) in
      (ap (λ (k : ℕ). drop k t) (walk_suc i (length rs)) ∙ w.0, rw (walk_suc i (length rs)) w.1)

-- the k-th rule read is the one that begins there
pub rule_at_lem : (t : List ℤ) (n i k : ℕ) (d : Rule) → k < n → get_or (rules_from t i n) k d ≡ rule_at t (rule_from t i k)
unfolding rules_from rule_from
rule_at_lem t zero i k d h = absurd (not-suc-le-zero h)
rule_at_lem t (suc n) i zero d h = refl
rule_at_lem t (suc n) i (suc k) d h = rule_at_lem t n (past_rule t i) k d (le_of_suc-le-suc h)
