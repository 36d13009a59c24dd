-- The aggregates of an encoding, found in place: where an aggregate's words stand at index i of the table, `layout` reads that aggregate
-- there, and the next one begins past its words. Assumes nothing.
use mathlib.Core.Path.{◌≡◌, refl, sym, ap, ◌∙◌, subst}
use mathlib.Core.Bool.{Bool, true, false}
use mathlib.Core.List.{List, [], ◌∷◌, ◌++◌, map, append_assoc}
use Prim.Native.Nat.{ℕ, zero, suc, ◌+◌, ◌*◌, ◌≤◌, ◌<◌}
use native.Mathlib.Nat.{le_of_suc-le-suc, not-suc-le-zero}
use native.Mathlib.Omega.{arith}
use lib.Dec.{T}
use lib.IntN.{ℤ, pos, negsuc, nat_abs}
use lib.Signed.{le_z}
use lib.ListN.{length, get_or, take, drop, set, length-set}
use lib.Seq.{get_or-set_same, get_or-set_other}
use borrow.Author.Tests.{leb-true}
use Rattle.meaning.specs.Program.{Element, Aggregate}
use Rattle.meaning.specs.declared.Function.{Function}
use Rattle.meaning.specs.declared.Function.TheVariants.{Count, Sum, Min, Max}
use Rattle.meaning.specs.declared.Comparison.{Comparison}
use Rattle.meaning.specs.declared.Comparison.TheVariants.{Less, Greater}
use Rattle.layout.specs.Layout.{nat_at, function_by, comparison_by, pairs, pairs_at, Plain, past_aggregate, aggregate_at, start_from, Rising, AggregateLies}
use Rattle.table.specs.Roles.{within}
use Rattle.table.specs.Contents.{Each, Ascending, AggregateInRange, function_code, comparison_code, encode_elements, encode_aggregate, encode_all, no_aggregate}
use Rattle.table.specs.Places.{placed}
use Rattle.table.proofs.Faults.{and_left}
use Rattle.table.proofs.Drops.{at_next, at_head, at_skip, at_take, at_within}

-- ---- codes

pub function_back : (f : Function) → function_by (function_code f) ≡ f
function_back Count = refl
function_back Sum = refl
function_back Min = refl
function_back Max = refl

pub function_most : (f : Function) → function_code f ≤ 3
function_most Count = omega arith
function_most Sum = omega arith
function_most Min = omega arith
function_most Max = omega arith

pub comparison_back : (c : Comparison) → comparison_by (comparison_code c) ≡ c
comparison_back Less = refl
comparison_back Greater = refl

pub comparison_most : (c : Comparison) → comparison_code c ≤ 1
comparison_most Less = omega arith
comparison_most Greater = omega arith

-- ---- elements

pub elements_length : (es : List Element) → length (encode_elements es) ≡ 2 * length es
elements_length [] = refl
elements_length (e ∷ es) = let h = elements_length es in omega arith

elements_back : (es : List Element) → pairs (encode_elements es) ≡ es
unfolding pairs
elements_back [] = refl
elements_back (e ∷ es) = ap {B = List Element} (λ l. e ∷ l) (elements_back es)

plain_elements : (es : List Element) → Plain (encode_elements es)
plain_elements [] k h = absurd (not-suc-le-zero h)
plain_elements (e ∷ es) zero h = tt
plain_elements (e ∷ es) (suc zero) h = tt
plain_elements (e ∷ es) (suc (suc k)) h = plain_elements es k (le_of_suc-le-suc (le_of_suc-le-suc h))

module _ (t : List ℤ) where
  element_value : (es : List Element) (j k : ℕ) (rest : List ℤ) → drop j t ≡ encode_elements es ++ rest → Each (λ e. e.value ≤ 65535) es
      → k < length es → nat_at t (j + 2 * k) ≤ 65535
  element_value [] j k rest d v h = absurd (not-suc-le-zero h)
  element_value (e ∷ es) j zero rest d v h =
      let z : j + 2 * 0 ≡ j = omega arith in
      subst (λ (n : ℕ). n ≤ 65535) (sym (ap (nat_at t) z ∙ ap nat_abs (at_head t j _ _ (pos 0) d))) v.0
  element_value (e ∷ es) j (suc k) rest d v h =
      let z : suc (suc j) + 2 * k ≡ j + 2 * suc k = omega arith in
      subst (λ (n : ℕ). nat_at t n ≤ 65535) z
      (element_value es (suc (suc j)) k rest (at_next t (suc j) _ _ (at_next t j _ _ d)) v.1 (le_of_suc-le-suc h))

  element_atom : (top : ℕ) (es : List Element) (previous j k : ℕ) (rest : List ℤ) → drop j t ≡ encode_elements es ++ rest
      → Ascending top previous (map (λ (e : Element). e.atom) es) → k < length es
      → (1 ≤ nat_at t (j + 2 * k + 1)) × (nat_at t (j + 2 * k + 1) ≤ top)
  element_atom top [] previous j k rest d v h = absurd (not-suc-le-zero h)
  element_atom top (e ∷ es) previous j zero rest d v h =
      let z : j + 2 * 0 + 1 ≡ suc j = omega arith in
      let g : nat_at t (j + 2 * 0 + 1) ≡ e.atom = ap (nat_at t) z ∙ ap nat_abs (at_head t (suc j) _ _ (pos 0) (at_next t j _ _ d)) in
      let p = v.0 in
      (rw g (omega arith), rw g v.1)
  element_atom top (e ∷ es) previous j (suc k) rest d v h =
      let z : suc (suc j) + 2 * k + 1 ≡ j + 2 * suc k + 1 = omega arith in
      subst (λ (n : ℕ). (1 ≤ nat_at t n) × (nat_at t n ≤ top)) z
      (element_atom top es e.atom (suc (suc j)) k rest (at_next t (suc j) _ _ (at_next t j _ _ d)) v.2 (le_of_suc-le-suc h))

-- the elements' atoms ascend
ascending_rises : (top b : ℕ) (es : List Element) → Ascending top b (map (λ (e : Element). e.atom) es) → Rising b es
ascending_rises top b [] h = tt
ascending_rises top b (e ∷ es) h = (h.0, ascending_rises top e.atom es h.2)

-- ---- thresholds

threshold_plain : (z : ℤ) (n : ℕ) → within (negsuc 0) (pos 4194304) z ≡ true → z ≡ pos n → n ≤ 4194304
threshold_plain (pos m) n h e = subst (λ (k : ℕ). k ≤ 4194304) (ap nat_abs e) (leb-true m 4194304 h)
threshold_plain (negsuc m) n h e = absurd (subst T (ap is_pos (sym e)) tt)
  where
    is_pos : ℤ → Bool
    is_pos (pos k) = true
    is_pos (negsuc k) = false

threshold_minus : (z : ℤ) (n : ℕ) → within (negsuc 0) (pos 4194304) z ≡ true → z ≡ negsuc n → n ≡ 0
threshold_minus (pos m) n h e = absurd (subst T (ap is_pos e) tt)
  where
    is_pos : ℤ → Bool
    is_pos (pos k) = true
    is_pos (negsuc k) = false
threshold_minus (negsuc m) n h e =
    let p : m ≤ 0 = leb-true m 0 (and_left (le_z (negsuc 0) (negsuc m)) (le_z (negsuc m) (pos 4194304)) h) in
    let q : suc m ≡ suc n = ap nat_abs e in
    omega arith

-- ---- an aggregate at i

module _ (t : List ℤ) (i : ℕ) (a : Aggregate) (rest : List ℤ) (d : drop i t ≡ encode_aggregate a ++ rest) where
  d1 : drop (suc i) t ≡ pos (comparison_code a.comparison) ∷ a.threshold ∷ pos (length a.elements) ∷ (encode_elements a.elements ++ rest)
  unfolding encode_aggregate
  d1 = at_next t i _ _ d

  d2 : drop (suc (suc i)) t ≡ a.threshold ∷ pos (length a.elements) ∷ (encode_elements a.elements ++ rest)
  d2 = at_next t (suc i) _ _ d1

  d3 : drop (suc (suc (suc i))) t ≡ pos (length a.elements) ∷ (encode_elements a.elements ++ rest)
  d3 = at_next t (suc (suc i)) _ _ d2

  d4 : drop (i + 4) t ≡ encode_elements a.elements ++ rest
  d4 =
      let z : i + 4 ≡ suc (suc (suc (suc i))) = omega arith in
      ap (λ (n : ℕ). drop n t) z ∙ at_next t (suc (suc (suc i))) _ _ d3

  word0 : nat_at t i ≡ function_code a.function
  unfolding encode_aggregate
  word0 = ap nat_abs (at_head t i _ _ (pos 0) d)

  word1 : nat_at t (i + 1) ≡ comparison_code a.comparison
  word1 =
      let z : i + 1 ≡ suc i = omega arith in
      ap (nat_at t) z ∙ ap nat_abs (at_head t (suc i) _ _ (pos 0) d1)

  word2 : get_or t (i + 2) (pos 0) ≡ a.threshold
  word2 =
      let z : i + 2 ≡ suc (suc i) = omega arith in
      ap (λ (n : ℕ). get_or t n (pos 0)) z ∙ at_head t (suc (suc i)) _ _ (pos 0) d2

  word3 : nat_at t (i + 3) ≡ length a.elements
  word3 =
      let z : i + 3 ≡ suc (suc (suc i)) = omega arith in
      ap (nat_at t) z ∙ ap nat_abs (at_head t (suc (suc (suc i))) _ _ (pos 0) d3)

  twice : 2 * nat_at t (i + 3) ≡ length (encode_elements a.elements)
  twice = ap (λ (n : ℕ). 2 * n) word3 ∙ sym (elements_length a.elements)

  pub aggregate_words_lem : length (encode_aggregate a) ≡ 4 + length (encode_elements a.elements)
  unfolding encode_aggregate
  aggregate_words_lem = omega arith

  pub aggregate_past : past_aggregate t i ≡ i + length (encode_aggregate a)
  aggregate_past =
      let w = aggregate_words_lem in
      let q = twice in
      omega arith

  words_are : pairs_at t i ≡ encode_elements a.elements
  words_are = ap (λ (n : ℕ). take n (drop (i + 4) t)) twice ∙ at_take t (i + 4) (encode_elements a.elements) rest d4

  elements_are : pairs (pairs_at t i) ≡ a.elements
  elements_are = ap pairs words_are ∙ elements_back a.elements

  pub aggregate_is : aggregate_at t i ≡ a
  unfolding aggregate_at
  aggregate_is = λ s. record {
    function = (ap function_by word0 ∙ function_back a.function) s;
    comparison = (ap comparison_by word1 ∙ comparison_back a.comparison) s;
    threshold = word2 s;
    elements = elements_are s;
  }

  pub aggregate_lies : (top : ℕ) → AggregateInRange top a → AggregateLies top t i
  aggregate_lies top r =
      let w = aggregate_words_lem in
      record {
        fits = rw aggregate_past (at_within t i (encode_aggregate a) rest d (omega arith));
        few = rw word3 r.few;
        functions = rw word0 (function_most a.function);
        comparisons = rw word1 (comparison_most a.comparison);
        threshold = λ n e. threshold_plain a.threshold n r.threshold (sym word2 ∙ e);
        lowest = λ n e. threshold_minus a.threshold n r.threshold (sym word2 ∙ e);
        values = λ k h. element_value t a.elements (i + 4) k rest d4 r.values (subst (λ (n : ℕ). k < n) word3 h);
        ascend = subst (Rising 0) (sym elements_are) (ascending_rises top 0 a.elements r.atoms);
        atoms = λ k h. element_atom t top a.elements 0 (i + 4) k rest d4 r.atoms (subst (λ (n : ℕ). k < n) word3 h);
        plain = subst Plain (sym words_are) (plain_elements a.elements);
      }

-- ---- the aggregates from i on

module _ (t : List ℤ) where
  start_zero : (i : ℕ) → start_from t i 0 ≡ i
  unfolding start_from
  start_zero i = refl

  start_suc : (i k : ℕ) → start_from t i (suc k) ≡ start_from t (past_aggregate t i) k
  unfolding start_from
  start_suc i k = refl

  -- the first of them, and those after it
  first : (i : ℕ) (a : Aggregate) (gs : List Aggregate) (rest : List ℤ) → drop i t ≡ encode_all encode_aggregate (a ∷ gs) ++ rest
      → drop i t ≡ encode_aggregate a ++ (encode_all encode_aggregate gs ++ rest)
  first i a gs rest d = d ∙ append_assoc (encode_aggregate a) (encode_all encode_aggregate gs) rest

  later : (i : ℕ) (a : Aggregate) (gs : List Aggregate) (rest : List ℤ) → drop i t ≡ encode_all encode_aggregate (a ∷ gs) ++ rest
      → drop (past_aggregate t i) t ≡ encode_all encode_aggregate gs ++ rest
  later i a gs rest d =
      let f = first i a gs rest d in
      ap (λ (n : ℕ). drop n t) (aggregate_past t i a (encode_all encode_aggregate gs ++ rest) f) ∙ at_skip t i (encode_aggregate a) (encode_all encode_aggregate gs ++ rest) f

  pub aggregates_are : (gs : List Aggregate) (i : ℕ) (rest : List ℤ) → drop i t ≡ encode_all encode_aggregate gs ++ rest
      → (j : ℕ) → j < length gs → aggregate_at t (start_from t i j) ≡ get_or gs j no_aggregate
  aggregates_are [] i rest d j h = absurd (not-suc-le-zero h)
  aggregates_are (a ∷ gs) i rest d zero h =
      ap (aggregate_at t) (start_zero i) ∙ aggregate_is t i a (encode_all encode_aggregate gs ++ rest) (first i a gs rest d)
  aggregates_are (a ∷ gs) i rest d (suc j) h =
      ap (aggregate_at t) (start_suc i j) ∙ aggregates_are gs (past_aggregate t i) rest (later i a gs rest d) j (le_of_suc-le-suc h)

  pub aggregates_lie : (top : ℕ) (gs : List Aggregate) (i : ℕ) (rest : List ℤ) → drop i t ≡ encode_all encode_aggregate gs ++ rest
      → Each (AggregateInRange top) gs → (j : ℕ) → j < length gs → AggregateLies top t (start_from t i j)
  aggregates_lie top [] i rest d r j h = absurd (not-suc-le-zero h)
  aggregates_lie top (a ∷ gs) i rest d r zero h =
      subst (AggregateLies top t) (sym (start_zero i)) (aggregate_lies t i a (encode_all encode_aggregate gs ++ rest) (first i a gs rest d) top r.0)
  aggregates_lie top (a ∷ gs) i rest d r (suc j) h =
      subst (AggregateLies top t) (sym (start_suc i j)) (aggregates_lie top gs (past_aggregate t i) rest (later i a gs rest d) r.1 j (le_of_suc-le-suc h))

  -- ---- where they begin

  -- places below k are left as they are
  placed_below : (gs : List Aggregate) (k i : ℕ) (starts : List ℕ) (j : ℕ) → j < k → get_or (placed k i gs starts) j 0 ≡ get_or starts j 0
  placed_below [] k i starts j h = refl
  placed_below (a ∷ gs) k i starts j h =
      placed_below gs (suc k) (i + length (encode_aggregate a)) (set starts k i) j (omega arith) ∙ get_or-set_other starts k j i 0 (λ e. absurd (omega (arith, e)))

  pub placed_starts : (gs : List Aggregate) (k i : ℕ) (starts : List ℕ) (rest : List ℤ) → drop i t ≡ encode_all encode_aggregate gs ++ rest
      → k + length gs ≤ length starts → (j : ℕ) → j < length gs → get_or (placed k i gs starts) (k + j) 0 ≡ start_from t i j
  placed_starts [] k i starts rest d l j h = absurd (not-suc-le-zero h)
  placed_starts (a ∷ gs) k i starts rest d l zero h =
      let z : k + 0 ≡ k = omega arith in
      ap (λ (n : ℕ). get_or (placed (suc k) (i + length (encode_aggregate a)) gs (set starts k i)) n 0) z
      ∙ placed_below gs (suc k) (i + length (encode_aggregate a)) (set starts k i) k (omega arith)
      ∙ get_or-set_same starts k i 0 (omega arith)
      ∙ sym (start_zero i)
  placed_starts (a ∷ gs) k i starts rest d l (suc j) h =
      let z : k + suc j ≡ suc k + j = omega arith in
      let p = aggregate_past t i a (encode_all encode_aggregate gs ++ rest) (first i a gs rest d) in
      let m : suc k + length gs ≤ length (set starts k i) = rw (length-set starts k i) (omega arith) in
      ap (λ (n : ℕ). get_or (placed (suc k) (i + length (encode_aggregate a)) gs (set starts k i)) n 0) z
      ∙ ap (λ (n : ℕ). get_or (placed (suc k) n gs (set starts k i)) (suc k + j) 0) (sym p)
      ∙ placed_starts gs (suc k) (past_aggregate t i) (set starts k i) rest (later i a gs rest d) m j (le_of_suc-le-suc h)
      ∙ sym (start_suc i j)
