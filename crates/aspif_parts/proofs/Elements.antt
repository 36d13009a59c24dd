-- Elements walked pair by pair, those that pass a test written, and the bodies of an aggregate by such tests. Assumes nothing.
use mathlib.Core.Path.{◌≡◌, refl, sym, ap, ◌∙◌, fun_ext}
use mathlib.Core.Logic.{◌⊎◌, inl, inr}
use mathlib.Core.Bool.{Bool, true, false, not, ◌&&◌}
use mathlib.Core.Option.{some}
use mathlib.Core.List.Memᴰ
use mathlib.Core.List.{List, [], ◌∷◌, ◌++◌, map, map-id}
use Prim.Native.Nat.{ℕ, zero, suc, ◌+◌, ◌≤◌, ◌<◌}
use native.Mathlib.Numerals.{add-one}
use native.Mathlib.Omega.{arith}
use borrow.Author.Tests.{ltb-true, ltb-false, lt-ltb, le-ltb, le-leb, lt-leb, leb-true, leb-false}
use lib.Dec.{ltb, leb}
use lib.IntN.{ℤ, pos, negsuc, nat_abs}
use lib.Signed.{non_neg}
use lib.ListN.{length, get_or, drop, drop_of_length-le}
use lib.Seq.{drop-cons}
use Rattle.meaning.specs.Lists.{Is, ◌∈◌, keep, cons_if}
use Rattle.meaning.proofs.Tools.{cases, clash}
use Rattle.meaning.proofs.Cond.{lt_case}
use Rattle.meaning.specs.Program.{Element, Aggregate}
use Rattle.meaning.specs.Aggregates.{compares}
use Rattle.meaning.specs.declared.Function.{Function}
use Rattle.meaning.specs.declared.Function.TheVariants.{Count, Sum, Min, Max}
use Rattle.meaning.specs.declared.Comparison.{Comparison}
use Rattle.meaning.specs.declared.Comparison.TheVariants.{Less, Greater}
use Rattle.layout.specs.Layout.{pairs, aggregate_at, AggregateLies}
use Rattle.layout.proofs.Inside.{elements_in}
use Rattle.table.specs.Contents.{Each}
use Rattle.aspif.specs.Statements.{Body, normal}
use Rattle.aspif.specs.Writing.{with, bound_of, bound_body, weights_of, good, alone, barred, good_body, bodies_of}
use Rattle.aspif_parts.specs.Parts.{bound_by, passes_by, pass_of, test_of, bad_for_least, bad_for_most, bit_of, weights_by, reached_body, barred_by, element_body, element_bodies, element_of}
use Rattle.aspif_parts.specs.declared.Test.{Test}

-- ---- one pair at a time

pairs_cons : (v p : ℤ) (l : List ℤ) → pairs (v ∷ p ∷ l) ≡ element_of (nat_abs v) (nat_abs p) ∷ pairs l
unfolding pairs
pairs_cons v p l = refl

module _ (l : List ℤ) (i : ℕ) where
  pub pair_on_lem : i + 1 < length l → pairs (drop i l) ≡ element_of (nat_abs (get_or l i (pos 0))) (nat_abs (get_or l (i + 1) (pos 0))) ∷ pairs (drop (i + 2) l)
  pair_on_lem h =
      let s : suc i ≡ i + 1 = omega arith in
      let e : suc (suc i) ≡ i + 2 = omega arith in
      ap pairs (drop-cons l i (pos 0) (omega arith) ∙ ap (λ (m : List ℤ). get_or l i (pos 0) ∷ m) (drop-cons l (suc i) (pos 0) (omega arith)))
      ∙ pairs_cons (get_or l i (pos 0)) (get_or l (suc i) (pos 0)) (drop (suc (suc i)) l)
      ∙ ap (λ (k : ℕ). element_of (nat_abs (get_or l i (pos 0))) (nat_abs (get_or l k (pos 0))) ∷ pairs (drop (suc (suc i)) l)) s
      ∙ ap (λ (k : ℕ). element_of (nat_abs (get_or l i (pos 0))) (nat_abs (get_or l (i + 1) (pos 0))) ∷ pairs (drop k l)) e

  pub pair_off : length l ≤ i + 1 → pairs (drop i l) ≡ []
  unfolding pairs
  pair_off h = at (lt_case i (length l))
    where
      at : (i < length l) ⊎ (length l ≤ i) → pairs (drop i l) ≡ []
      at (inl k) = ap pairs (drop-cons l i (pos 0) k ∙ ap (λ (m : List ℤ). get_or l i (pos 0) ∷ m) (drop_of_length-le l {i = suc i} (omega arith)))
      at (inr k) = ap pairs (drop_of_length-le l k)

-- ---- how many pass

keep_long : (b : Bool) (e : Element) (es : List Element) → length (cons_if b e es) ≡ bit_of b + length es
keep_long true e es = omega arith
keep_long false e es = omega arith

module _ (test : Test) (l : List ℤ) (i n : ℕ) where
  pub passing_on : (v : Bool) → i + 1 < length l → v ≡ passes_by test.comparison test.bound (nat_abs (get_or l i (pos 0)))
      → n + bit_of v + length (keep (pass_of test) (pairs (drop (i + 2) l))) ≡ n + length (keep (pass_of test) (pairs (drop i l)))
  passing_on v h e =
      let k = keep_long (passes_by test.comparison test.bound (nat_abs (get_or l i (pos 0)))) (element_of (nat_abs (get_or l i (pos 0))) (nat_abs (get_or l (i + 1) (pos 0)))) (keep (pass_of test) (pairs (drop (i + 2) l))) in
      rw (pair_on_lem l i h, e) (omega arith)

  pub passing_off : length l ≤ i + 1 → n + length (keep (pass_of test) (pairs (drop i l))) ≡ n
  passing_off h = rw (pair_off l i h) (omega arith)

-- ---- a text of those that pass, one element at a time

module _ {A : Type 0} (T : List A → List ℕ) (nil : T [] ≡ []) (cons : (x : A) (l : List A) → T (x ∷ l) ≡ T (x ∷ []) ++ T l) (f : Element → A) (g : Element → Bool) where
  kept : (e : Element) (es : List Element) (b : Bool) → T (map f (cons_if b e es)) ≡ T (map f (cons_if b e [])) ++ T (map f es)
  kept e es true = cons (f e) (map f es)
  kept e es false = ap (λ (m : List ℕ). m ++ T (map f es)) (sym nil)

  keep_on : (e : Element) (es : List Element) → T (map f (keep g (e ∷ es))) ≡ T (map f (keep g (e ∷ []))) ++ T (map f (keep g es))
  keep_on e es = kept e (keep g es) (g e)

  pub text_on : (l : List ℤ) (i : ℕ) → i + 1 < length l
      → T (map f (keep g (pairs (drop i l)))) ≡ T (map f (keep g (element_of (nat_abs (get_or l i (pos 0))) (nat_abs (get_or l (i + 1) (pos 0))) ∷ []))) ++ T (map f (keep g (pairs (drop (i + 2) l))))
  text_on l i h = ap (λ (es : List Element). T (map f (keep g es))) (pair_on_lem l i h) ∙ keep_on (element_of (nat_abs (get_or l i (pos 0))) (nat_abs (get_or l (i + 1) (pos 0)))) (pairs (drop (i + 2) l))

  pub text_off : (l : List ℤ) (i : ℕ) → length l ≤ i + 1 → T (map f (keep g (pairs (drop i l)))) ≡ []
  text_off l i h = ap (λ (es : List Element). T (map f (keep g es))) (pair_off l i h) ∙ nil

-- ---- all atoms are 1 or more

pub each_on : (l : List ℤ) (i : ℕ) → i + 1 < length l → Each (λ e. 1 ≤ e.atom) (pairs (drop i l)) → (1 ≤ nat_abs (get_or l (i + 1) (pos 0))) × Each (λ e. 1 ≤ e.atom) (pairs (drop (i + 2) l))
each_on l i h m = rw (pair_on_lem l i h) at m

each_of : (es : List Element) → ((e : Element) → e ∈ es → 1 ≤ e.atom) → Each (λ e. 1 ≤ e.atom) es
each_of [] f = tt
each_of (e ∷ es) f = (f e (Memᴰ.head refl), each_of es (λ d m. f d (Memᴰ.tail m)))

pub atoms_from_1 : (top : ℕ) (t : List ℤ) (i : ℕ) → AggregateLies top t i → Each (λ e. 1 ≤ e.atom) (aggregate_at t i).elements
atoms_from_1 top t i lies = each_of (aggregate_at t i).elements (λ e m. (elements_in top t i lies e m).0)

-- ---- the bodies of an aggregate

bound_is : (k : Comparison) (t : ℤ) (es : List Element) → bound_body (bound_of k t) es ≡ reached_body (bound_by k t) es
bound_is Less (ℤ.pos zero) es = refl
bound_is Less (ℤ.pos (suc n)) es = refl
bound_is Less (negsuc n) es = refl
bound_is Greater (ℤ.pos n) es = refl
bound_is Greater (negsuc zero) es = refl
bound_is Greater (negsuc (suc n)) es = refl

pub bound_low : (k : Comparison) (z : ℤ) → non_neg z ≡ false → bound_by k z ≡ 0
bound_low k (ℤ.pos n) h = absurd (clash refl h)
bound_low k (negsuc n) h = refl

pub bound_less : (k : Comparison) (z : ℤ) → k ≡ Less → non_neg z ≡ true → bound_by k z ≡ nat_abs z
bound_less k (ℤ.pos n) e h = ap (λ (x : Comparison). bound_by x (pos n)) e
bound_less k (negsuc n) e h = absurd (clash h refl)

pub bound_greater : (k : Comparison) (z : ℤ) → k ≡ Greater → non_neg z ≡ true → bound_by k z ≡ nat_abs z + 1
bound_greater k (ℤ.pos n) e h = ap (λ (x : Comparison). bound_by x (pos n)) e ∙ sym (add-one n)
bound_greater k (negsuc n) e h = absurd (clash h refl)

leb_zero : (v : ℕ) → leb 0 v ≡ true
leb_zero v = le-leb 0 v (omega arith)

count_weights : (es : List Element) → weights_of Count es ≡ weights_by (test_of Greater 0) true es
count_weights [] = refl
count_weights (e ∷ es) = rw (leb_zero e.value) (ap (λ (l : List Element). element_of 1 e.atom ∷ l) (count_weights es))

sum_weights : (es : List Element) → weights_of Sum es ≡ weights_by (test_of Greater 1) false es
sum_weights es = sym (map-id (keep (λ (e : Element). ltb 0 e.value) es))

good_is : (k : Comparison) (t : ℤ) (v : ℕ) → compares k t (some v) ≡ passes_by k (bound_by k t) v
good_is Less (ℤ.pos n) v = refl
good_is Less (negsuc n) v = sym (le-ltb v 0 (omega arith))
good_is Greater (ℤ.pos n) v = refl
good_is Greater (negsuc n) v = sym (leb_zero v)

keep_same : (f g : Element → Bool) → ((e : Element) → f e ≡ g e) → (es : List Element) → keep f es ≡ keep g es
keep_same f g h es = ap (λ (x : Element → Bool). keep x es) (fun_ext h)

not_below : (b v : ℕ) → not (leb b v) ≡ ltb v b
not_below b v = at (cases (leb b v))
  where
    at : Is (leb b v) ⊎ (leb b v ≡ false) → not (leb b v) ≡ ltb v b
    at (inl e) = rw (e, le-ltb v b (leb-true b v e)) refl
    at (inr e) = rw (e, lt-ltb v b (leb-false b v e)) refl

not_under : (b v : ℕ) → not (ltb v b) ≡ leb b v
not_under b v = at (cases (ltb v b))
  where
    at : Is (ltb v b) ⊎ (ltb v b ≡ false) → not (ltb v b) ≡ leb b v
    at (inl e) = rw (e, lt-leb b v (ltb-true v b e)) refl
    at (inr e) = rw (e, le-leb b v (ltb-false v b e)) refl

none_under : (v : ℕ) → false ≡ ltb v 0
none_under v = sym (le-ltb v 0 (omega arith))

least_bad : (k : Comparison) (b v : ℕ) → (not (alone Min k) && not (passes_by k b v)) ≡ passes_by (bad_for_least k b).comparison (bad_for_least k b).bound v
least_bad Less b v = none_under v
least_bad Greater b v = not_below b v

most_bad : (k : Comparison) (b v : ℕ) → (not (alone Max k) && not (passes_by k b v)) ≡ passes_by (bad_for_most k b).comparison (bad_for_most k b).bound v
most_bad Less b v = not_under b v
most_bad Greater b v = none_under v

module _ (f : Function) (bad : Comparison → ℕ → Test) (right : (k : Comparison) (b v : ℕ) → (not (alone f k) && not (passes_by k b v)) ≡ passes_by (bad k b).comparison (bad k b).bound v)
    (k : Comparison) (t : ℤ) (es : List Element) where
  abbrev a : Aggregate
  a = record { function = f; comparison = k; threshold = t; elements = es }

  element_body_lem : (e : Element) → good_body a e ≡ element_body (bad k (bound_by k t)) es e
  unfolding barred_by
  element_body_lem e =
      ap (λ (ds : List Element). normal (with true e.atom ∷ map barred ds))
      (keep_same (λ d. not (alone f k) && not (good a d)) (pass_of (bad k (bound_by k t))) (λ d. ap (λ (x : Bool). not (alone f k) && not x) (good_is k t d.value) ∙ right k (bound_by k t) d.value) es)

  pub element_bodies_lem : map (good_body a) (keep (good a) es) ≡ element_bodies (test_of k (bound_by k t)) (bad k (bound_by k t)) es es
  element_bodies_lem =
      ap (λ (g : Element → Body). map g (keep (good a) es)) (fun_ext element_body_lem)
      ∙ ap (map (element_body (bad k (bound_by k t)) es)) (keep_same (good a) (pass_of (test_of k (bound_by k t))) (λ d. good_is k t d.value) es)

-- count and sum: one body
pub bodies_count : (k : Comparison) (z : ℤ) (es : List Element) → bodies_of Count (record { function = Count; comparison = k; threshold = z; elements = es }) ≡ reached_body (bound_by k z) (weights_by (test_of Greater 0) true es) ∷ []
bodies_count k z es = ap (λ (b : Body). b ∷ []) (bound_is k z (weights_of Count es) ∙ ap (reached_body (bound_by k z)) (count_weights es))

pub bodies_sum : (k : Comparison) (z : ℤ) (es : List Element) → bodies_of Sum (record { function = Sum; comparison = k; threshold = z; elements = es }) ≡ reached_body (bound_by k z) (weights_by (test_of Greater 1) false es) ∷ []
bodies_sum k z es = ap (λ (b : Body). b ∷ []) (bound_is k z (weights_of Sum es) ∙ ap (reached_body (bound_by k z)) (sum_weights es))

pub bodies_min : (k : Comparison) (z : ℤ) (es : List Element) → bodies_of Min (record { function = Min; comparison = k; threshold = z; elements = es }) ≡ element_bodies (test_of k (bound_by k z)) (bad_for_least k (bound_by k z)) es es
bodies_min k z es = element_bodies_lem Min bad_for_least least_bad k z es

pub bodies_max : (k : Comparison) (z : ℤ) (es : List Element) → bodies_of Max (record { function = Max; comparison = k; threshold = z; elements = es }) ≡ element_bodies (test_of k (bound_by k z)) (bad_for_most k (bound_by k z)) es es
bodies_max k z es = element_bodies_lem Max bad_for_most most_bad k z es
