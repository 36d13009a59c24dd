-- The tests on one word: when a word has which fault, in the terms of the code (its sign, its size, signed comparisons), and what a word
-- without fault is. Assumes nothing.
use mathlib.Core.Path.{◌≡◌, refl, sym, ap, ◌∙◌, subst}
use mathlib.Core.Bool.{Bool, true, false, not, ◌&&◌, ◌||◌}
use mathlib.Core.Option.{Option, none, some}
use Prim.Native.Nat.{ℕ, ◌≤◌, ◌<◌}
use native.Mathlib.Omega.{arith}
use lib.Dec.{T, leb, ltb, leb-zero}
use lib.IntN.{ℤ, pos, negsuc, nat_abs}
use lib.Signed.{le_z, lt_z, non_neg}
use borrow.Author.Tests.{lt-ltb, le-ltb, le-leb, lt-leb, ltb-true, ltb-false, leb-true}
use Rattle.results.specs.declared.Refusal.{Refusal}
use Rattle.results.specs.declared.Refusal.TheVariants.{Count, Number, Descent, Quantity}
use Rattle.table.specs.Roles.{count, quantity, member, within, numbers, unless, fault}

-- ---- tests

no : {X : Type 0} → true ≡ false → X
no e = absurd (subst T e tt)

and_false : (a : Bool) → (a && false) ≡ false
and_false true = refl
and_false false = refl

pub and_left : (a b : Bool) → (a && b) ≡ true → a ≡ true
and_left true b e = refl
and_left false b e = e

pub and_right : (a b : Bool) → (a && b) ≡ true → b ≡ true
and_right true b e = e
and_right false b e = no (sym e)

-- a test passed, where nothing is refused
passed : (b : Bool) (r : Refusal) (o : Option Refusal) → unless b r o ≡ none → b ≡ true
passed true r o e = refl
passed false r o e = absurd (subst (λ (p : Option Refusal). T (is_none p)) (sym e) tt)
  where
    is_none : Option Refusal → Bool
    is_none none = true
    is_none (some s) = false

-- and so did the tests after it
later : (b : Bool) (r : Refusal) (o : Option Refusal) → unless b r o ≡ none → o ≡ none
later b r o e = ap (λ (c : Bool). unless c r o) (sym (passed b r o e)) ∙ e

-- ---- the sign, as the code tests it

pub below_zero : (w : ℤ) → lt_z w (pos 0) ≡ not (non_neg w)
below_zero (pos n) = le-ltb n 0 (omega arith)
below_zero (negsuc n) = refl

-- a word that may not be barred is below 0
module _ (signed : Bool) (w : ℤ) where
  pub barred_yes : lt_z w (pos 0) ≡ true → signed ≡ false → (not (non_neg w) && not signed) ≡ true
  barred_yes e f = rw (← below_zero w, e, f)

  pub barred_signed : signed ≡ true → (not (non_neg w) && not signed) ≡ false
  barred_signed f = rw f (and_false (not (non_neg w)))

  pub barred_plain : lt_z w (pos 0) ≡ false → (not (non_neg w) && not signed) ≡ false
  barred_plain e = rw (← below_zero w, e)

-- ---- counts

within_minus : (w : ℤ) (m : ℕ) → not (non_neg w) ≡ true → within (pos 0) (pos m) w ≡ false
within_minus (pos n) m h = no (sym h)
within_minus (negsuc n) m h = refl

within_over : (w : ℤ) (m : ℕ) → m < nat_abs w → within (pos 0) (pos m) w ≡ false
within_over (pos n) m h = rw (leb-zero n, lt-leb n m h)
within_over (negsuc n) m h = refl

pub within_plain : (n m : ℕ) → n ≤ m → within (pos 0) (pos m) (pos n) ≡ true
within_plain n m h = rw (leb-zero n, le-leb n m h)

within_in : (w : ℤ) (m : ℕ) → not (non_neg w) ≡ false → nat_abs w ≤ m → within (pos 0) (pos m) w ≡ true
within_in (pos n) m h k = within_plain n m k
within_in (negsuc n) m h k = no h

-- 0 to m: a number without sign
pub within_number : (w : ℤ) (m : ℕ) → within (pos 0) (pos m) w ≡ true → (pos (nat_abs w) ≡ w) × (nat_abs w ≤ m)
within_number (pos n) m h = (refl, leb-true n m (and_right (leb 0 n) (leb n m) h))
within_number (negsuc n) m h = no (sym h)

module _ (most i : ℕ) (w : ℤ) where
  pub count_minus : not (non_neg w) ≡ true → fault (count most) i w ≡ some (Count i)
  unfolding fault
  count_minus h = rw (within_minus w most h)

  pub count_over : most < nat_abs w → fault (count most) i w ≡ some (Count i)
  unfolding fault
  count_over h = rw (within_over w most h)

  pub count_in_lem : not (non_neg w) ≡ false → nat_abs w ≤ most → fault (count most) i w ≡ none
  unfolding fault
  count_in_lem h k = rw (within_in w most h k)

  pub count_good : fault (count most) i w ≡ none → (pos (nat_abs w) ≡ w) × (nat_abs w ≤ most)
  unfolding fault
  count_good e = within_number w most (passed (within (pos 0) (pos most) w) (Count i) none e)

-- ---- quantities

lt_z_le_z : (a b : ℤ) → lt_z a b ≡ true → le_z b a ≡ false
lt_z_le_z (pos a) (pos b) h = lt-leb b a (ltb-true a b h)
lt_z_le_z (pos a) (negsuc b) h = no (sym h)
lt_z_le_z (negsuc a) (pos b) h = refl
lt_z_le_z (negsuc a) (negsuc b) h = lt-leb a b (ltb-true b a h)

nlt_z_le_z : (a b : ℤ) → lt_z a b ≡ false → le_z b a ≡ true
nlt_z_le_z (pos a) (pos b) h = le-leb b a (ltb-false a b h)
nlt_z_le_z (pos a) (negsuc b) h = refl
nlt_z_le_z (negsuc a) (pos b) h = no h
nlt_z_le_z (negsuc a) (negsuc b) h = le-leb a b (ltb-false b a h)

module _ (low high : ℤ) (i : ℕ) (w : ℤ) where
  pub quantity_low : lt_z w low ≡ true → fault (quantity low high) i w ≡ some (Quantity i)
  unfolding fault
  quantity_low h = rw (lt_z_le_z w low h)

  pub quantity_high : lt_z high w ≡ true → fault (quantity low high) i w ≡ some (Quantity i)
  unfolding fault
  quantity_high h = rw (lt_z_le_z high w h, and_false (le_z low w))

  pub quantity_in : lt_z w low ≡ false → lt_z high w ≡ false → fault (quantity low high) i w ≡ none
  unfolding fault
  quantity_in h k = rw (nlt_z_le_z w low h, nlt_z_le_z high w k)

  pub quantity_within : within low high w ≡ true → fault (quantity low high) i w ≡ none
  unfolding fault
  quantity_within h = rw h

  pub quantity_good : fault (quantity low high) i w ≡ none → within low high w ≡ true
  unfolding fault
  quantity_good e = passed (within low high w) (Quantity i) none e

-- ---- members

bars : (a s : Bool) → (not a && not s) ≡ true → (a || s) ≡ false
bars true s h = no (sym h)
bars false true h = no (sym h)
bars false false h = refl

unbars : (a s : Bool) → (not a && not s) ≡ false → (a || s) ≡ true
unbars true s h = refl
unbars false true h = refl
unbars false false h = no h

module _ (signed : Bool) (top previous i : ℕ) (w : ℤ) where
  pub member_barred : (not (non_neg w) && not signed) ≡ true → fault (member signed top previous) i w ≡ some (Number i)
  unfolding fault
  member_barred h = rw (bars (non_neg w) signed h)

  pub member_zero : nat_abs w ≡ 0 → fault (member signed top previous) i w ≡ some (Number i)
  unfolding fault
  member_zero h = rw (le-ltb 0 (nat_abs w) (omega arith), and_false (non_neg w || signed))

  pub member_over : top < nat_abs w → fault (member signed top previous) i w ≡ some (Number i)
  unfolding fault
  member_over h = rw (lt-leb (nat_abs w) top h, and_false ((non_neg w || signed) && ltb 0 (nat_abs w)))

  numbers_in_lem : (non_neg w || signed) ≡ true → 0 < nat_abs w → nat_abs w ≤ top → numbers signed top w ≡ true
  numbers_in_lem h k l = rw (h, lt-ltb 0 (nat_abs w) k, le-leb (nat_abs w) top l)

  pub member_falls : (not (non_neg w) && not signed) ≡ false → 0 < nat_abs w → nat_abs w ≤ top → nat_abs w ≤ previous
      → fault (member signed top previous) i w ≡ some (Descent i)
  unfolding fault
  member_falls h k l m = rw (numbers_in_lem (unbars (non_neg w) signed h) k l, le-ltb previous (nat_abs w) m)

  pub member_in : (non_neg w || signed) ≡ true → nat_abs w ≤ top → previous < nat_abs w → fault (member signed top previous) i w ≡ none
  unfolding fault
  member_in h l m = rw (numbers_in_lem h (omega arith) l, lt-ltb previous (nat_abs w) m)

  pub member_passes : (not (non_neg w) && not signed) ≡ false → nat_abs w ≤ top → previous < nat_abs w → fault (member signed top previous) i w ≡ none
  member_passes h l m = member_in (unbars (non_neg w) signed h) l m

  -- what a member without fault is
  pub record Member : Type 0 where
    pub sign : (non_neg w || signed) ≡ true
    pub most : nat_abs w ≤ top
    pub above : previous < nat_abs w

  pub member_good : fault (member signed top previous) i w ≡ none → Member
  unfolding fault
  member_good e =
      let n = passed (numbers signed top w) (Number i) (unless (ltb previous (nat_abs w)) (Descent i) none) e in
      let d = later (numbers signed top w) (Number i) (unless (ltb previous (nat_abs w)) (Descent i) none) e in
      let p = and_left ((non_neg w || signed) && ltb 0 (nat_abs w)) (leb (nat_abs w) top) n in
      record {
        sign = and_left (non_neg w || signed) (ltb 0 (nat_abs w)) p;
        most = leb-true (nat_abs w) top (and_right ((non_neg w || signed) && ltb 0 (nat_abs w)) (leb (nat_abs w) top) n);
        above = ltb-true previous (nat_abs w) (passed (ltb previous (nat_abs w)) (Descent i) none d);
      }
