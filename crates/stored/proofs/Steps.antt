-- What reading one number gives, as the code finds it: for each role the refusal or the number, by tests of the number in the bytes. Assumes nothing.
use mathlib.Core.Path.{◌≡◌, refl, sym, ap, ◌∙◌}
use mathlib.Core.Bool.{Bool, true, false, not, ◌&&◌, ◌||◌}
use mathlib.Core.List.{List}
use mathlib.Core.Logic.{◌⊎◌, inl, inr}
use mathlib.Core.Option.{Option, none, some}
use Prim.Native.Nat.{ℕ, zero, suc, ◌+◌, ◌-◌, ◌*◌, ◌/◌, ◌%◌, ◌≤◌, ◌<◌}
use native.Mathlib.Omega.{arith}
use borrow.Author.Tests.{lt-ltb, le-ltb, eq-eqb, ne_eqb}
use lib.Dec.{eqb}
use lib.IntN.{ℤ, pos, negsuc, neg_ℤ}
use lib.ListN.{length, get_or, drop}
use lib.Signed.{non_neg}
use Rattle.std.specs.Prelude.{Ok, Err}
use Rattle.meaning.proofs.Cond.{if_lt_yes, if_lt_no, if_eq_yes, if_eq_no, eq_case, lt_case}
use Rattle.results.specs.declared.Refusal.{Refusal}
use Rattle.results.specs.declared.Refusal.TheVariants as refusal
use Rattle.table.specs.Roles.{Role, count, quantity, member, fault}
use Rattle.table.proofs.Faults.{count_over, count_in_lem, quantity_low, quantity_high, quantity_in, quantity_within, within_plain, member_zero, member_over, member_falls, member_in}
use Rattle.stored.specs.Bytes.{from_complement, from_twice, Number, whole, two_of, four_of, Step, stop, tested, step_by, step_of}
use Rattle.stored.specs.Machine.{got_of}
use Rattle.stored.proofs.Forms.{two_there, four_there, two_cut, four_cut, from_twice_size}

-- a number that is there, and its test
pub finish : (role : Role) (i width : ℕ) (value : ℕ → ℤ) (num : Number) (n : ℕ) (rest : List ℕ) (o : Option Refusal) (s : Step)
    → s ≡ step_by role i width value num → num ≡ whole n rest → fault role i (value n) ≡ o → s ≡ tested o (value n) (i + width) rest
finish role i width value num n rest o s e f g = e ∙ ap (step_by role i width value) f ∙ ap (λ o. tested o (value n) (i + width) rest) g

pub count_form : (most i : ℕ) (bs : List ℕ) → step_of (count most) i bs ≡ step_by (count most) i 2 pos (two_of bs)
unfolding step_of
count_form most i bs = refl

pub quantity_form : (high i : ℕ) (bs : List ℕ) → step_of (quantity (pos 0) (pos high)) i bs ≡ step_by (quantity (pos 0) (pos high)) i 2 pos (two_of bs)
unfolding step_of
quantity_form high i bs = refl

pub threshold_form : (i : ℕ) (bs : List ℕ) → step_of (quantity (negsuc 0) (pos 4194304)) i bs ≡ step_by (quantity (negsuc 0) (pos 4194304)) i 4 from_complement (four_of bs)
unfolding step_of
threshold_form i bs = refl

pub member_form : (top previous i : ℕ) (bs : List ℕ) → step_of (member false top previous) i bs ≡ step_by (member false top previous) i 2 pos (two_of bs)
unfolding step_of
member_form top previous i bs = refl

pub literal_form : (top previous i : ℕ) (bs : List ℕ) → step_of (member true top previous) i bs ≡ step_by (member true top previous) i 2 from_twice (two_of bs)
unfolding step_of
literal_form top previous i bs = refl

module _ (l : List ℕ) (i : ℕ) where
  abbrev bs : List ℕ
  bs = drop i l

  -- ---- not there whole

  module _ (h : length l - i < 2) where
    pub count_cut : (most : ℕ) → Err (refusal.Absent i) ≡ got_of (step_of (count most) i bs)
    count_cut most = sym (ap got_of (count_form most i bs ∙ ap (step_by (count most) i 2 pos) (two_cut l i h)))

    pub quantity_cut : (high : ℕ) → Err (refusal.Absent i) ≡ got_of (step_of (quantity (pos 0) (pos high)) i bs)
    quantity_cut high = sym (ap got_of (quantity_form high i bs ∙ ap (step_by (quantity (pos 0) (pos high)) i 2 pos) (two_cut l i h)))

    pub member_cut : (top previous : ℕ) → Err (refusal.Absent i) ≡ got_of (step_of (member false top previous) i bs)
    member_cut top previous = sym (ap got_of (member_form top previous i bs ∙ ap (step_by (member false top previous) i 2 pos) (two_cut l i h)))

    pub literal_cut : (top previous : ℕ) → Err (refusal.Absent i) ≡ got_of (step_of (member true top previous) i bs)
    literal_cut top previous = sym (ap got_of (literal_form top previous i bs ∙ ap (step_by (member true top previous) i 2 from_twice) (two_cut l i h)))

  pub threshold_cut : length l - i < 4 → Err (refusal.Absent i) ≡ got_of (step_of (quantity (negsuc 0) (pos 4194304)) i bs)
  threshold_cut h = sym (ap got_of (threshold_form i bs ∙ ap (step_by (quantity (negsuc 0) (pos 4194304)) i 4 from_complement) (four_cut l i h)))

  -- ---- two bytes that are there

  module _ (n : ℕ) (h : i + 2 ≤ length l) (e : n ≡ get_or l i 0 + 256 * get_or l (i + 1) 0) where
    read2 : two_of bs ≡ whole n (drop (i + 2) l)
    read2 = two_there l i h ∙ ap (λ (m : ℕ). whole m (drop (i + 2) l)) (sym e)

    module _ (most : ℕ) where
      pub count_beyond : most < n → Err (refusal.Count i) ≡ got_of (step_of (count most) i bs)
      count_beyond k = sym (ap got_of (finish (count most) i 2 pos _ n _ _ _ (count_form most i bs) read2 (count_over most i (pos n) k)))

      pub count_got : n ≤ most → Ok (n, false, i + 2) ≡ got_of (step_of (count most) i bs)
      count_got k = sym (ap got_of (finish (count most) i 2 pos _ n _ _ _ (count_form most i bs) read2 (count_in_lem most i (pos n) refl k)))

      pub quantity_beyond : most < n → Err (refusal.Quantity i) ≡ got_of (step_of (quantity (pos 0) (pos most)) i bs)
      quantity_beyond k = sym (ap got_of (finish (quantity (pos 0) (pos most)) i 2 pos _ n _ _ _ (quantity_form most i bs) read2 (quantity_high (pos 0) (pos most) i (pos n) (lt-ltb most n k))))

      pub quantity_got : n ≤ most → Ok (n, false, i + 2) ≡ got_of (step_of (quantity (pos 0) (pos most)) i bs)
      quantity_got k = sym (ap got_of (finish (quantity (pos 0) (pos most)) i 2 pos _ n _ _ _ (quantity_form most i bs) read2 (quantity_within (pos 0) (pos most) i (pos n) (within_plain n most k))))

    module _ (top previous : ℕ) where
      pub member_none : n ≡ 0 → Err (refusal.Number i) ≡ got_of (step_of (member false top previous) i bs)
      member_none k = sym (ap got_of (finish (member false top previous) i 2 pos _ n _ _ _ (member_form top previous i bs) read2 (member_zero false top previous i (pos n) k)))

      pub member_beyond : top < n → Err (refusal.Number i) ≡ got_of (step_of (member false top previous) i bs)
      member_beyond k = sym (ap got_of (finish (member false top previous) i 2 pos _ n _ _ _ (member_form top previous i bs) read2 (member_over false top previous i (pos n) k)))

      pub member_descent : 0 < n → n ≤ top → n ≤ previous → Err (refusal.Descent i) ≡ got_of (step_of (member false top previous) i bs)
      member_descent a b d = sym (ap got_of (finish (member false top previous) i 2 pos _ n _ _ _ (member_form top previous i bs) read2 (member_falls false top previous i (pos n) refl a b d)))

      pub member_got : n ≤ top → previous < n → Ok (n, false, i + 2) ≡ got_of (step_of (member false top previous) i bs)
      member_got a b = sym (ap got_of (finish (member false top previous) i 2 pos _ n _ _ _ (member_form top previous i bs) read2 (member_in false top previous i (pos n) refl a b)))

      -- the literal's number is n / 2
      pub literal_none : n / 2 ≡ 0 → Err (refusal.Number i) ≡ got_of (step_of (member true top previous) i bs)
      literal_none k = sym (ap got_of (finish (member true top previous) i 2 from_twice _ n _ _ _ (literal_form top previous i bs) read2 (member_zero true top previous i (from_twice n) (from_twice_size n ∙ k))))

      pub literal_beyond : top < n / 2 → Err (refusal.Number i) ≡ got_of (step_of (member true top previous) i bs)
      literal_beyond k = sym (ap got_of (finish (member true top previous) i 2 from_twice _ n _ _ _ (literal_form top previous i bs) read2 (member_over true top previous i (from_twice n) (rw (from_twice_size n) k))))

      pub literal_descent : 0 < n / 2 → n / 2 ≤ top → n / 2 ≤ previous → Err (refusal.Descent i) ≡ got_of (step_of (member true top previous) i bs)
      literal_descent a b d =
          sym (ap got_of (finish (member true top previous) i 2 from_twice _ n _ _ _ (literal_form top previous i bs) read2
          (member_falls true top previous i (from_twice n) (any_sign (non_neg (from_twice n))) (rw (from_twice_size n) a) (rw (from_twice_size n) b) (rw (from_twice_size n) d))))
        where
          any_sign : (b : Bool) → (not b && not true) ≡ false
          any_sign true = refl
          any_sign false = refl

      pub literal_got : n / 2 ≤ top → previous < n / 2 → Ok (n / 2, eqb (n % 2) 1, i + 2) ≡ got_of (step_of (member true top previous) i bs)
      literal_got a b =
          sym (ap got_of (finish (member true top previous) i 2 from_twice _ n _ _ _ (literal_form top previous i bs) read2
          (member_in true top previous i (from_twice n) (any_sign (non_neg (from_twice n))) (rw (from_twice_size n) a) (rw (from_twice_size n) b)))
          ∙ ap (λ (m : ℕ). Ok (m, not (non_neg (from_twice n)), i + 2)) (from_twice_size n)
          ∙ ap (λ (s : Bool). Ok (n / 2, s, i + 2)) (sign (eq_case (n % 2) 0)))
        where
          any_sign : (b : Bool) → (b || true) ≡ true
          any_sign true = refl
          any_sign false = refl

          below : (m : ℕ) → 0 < m → not (non_neg (neg_ℤ (pos m))) ≡ true
          below zero k = absurd (omega arith)
          below (suc m) k = refl

          sign : (n % 2 ≡ 0) ⊎ (n % 2 ≡ 0 → ⊥) → not (non_neg (from_twice n)) ≡ eqb (n % 2) 1
          sign (inl k) =
              ap (λ (w : ℤ). not (non_neg w)) (if_eq_yes (n % 2) 0 (pos (n / 2)) (neg_ℤ (pos (n / 2))) k) ∙ sym (ne_eqb (n % 2) 1 (λ z. absurd (omega (arith, k, z))))
          sign (inr k) =
              ap (λ (w : ℤ). not (non_neg w)) (if_eq_no (n % 2) 0 (pos (n / 2)) (neg_ℤ (pos (n / 2))) k) ∙ below (n / 2) (omega arith) ∙ sym (eq-eqb (n % 2) 1 (odd (eq_case (n % 2) 1)))
            where
              odd : (n % 2 ≡ 1) ⊎ (n % 2 ≡ 1 → ⊥) → n % 2 ≡ 1
              odd (inl o) = o
              odd (inr o) = absurd (omega (arith, k, o))

  -- ---- four bytes that are there

  module _ (n : ℕ) (h : i + 4 ≤ length l) (e : n ≡ get_or l i 0 + 256 * get_or l (i + 1) 0 + 65536 * get_or l (i + 2) 0 + 16777216 * get_or l (i + 3) 0) where
    abbrev threshold : Role
    threshold = quantity (negsuc 0) (pos 4194304)

    read4 : four_of bs ≡ whole n (drop (i + 4) l)
    read4 = four_there l i h ∙ ap (λ (m : ℕ). whole m (drop (i + 4) l)) (sym e)

    value_is : (w : ℤ) (o : Option Refusal) → from_complement n ≡ w → fault threshold i w ≡ o → step_of threshold i bs ≡ tested o w (i + 4) (drop (i + 4) l)
    value_is w o a b =
        finish threshold i 4 from_complement _ n _ _ _ (threshold_form i bs) read4 (ap (fault threshold i) a ∙ b) ∙ ap (λ (v : ℤ). tested o v (i + 4) (drop (i + 4) l)) a

    pub threshold_below : n ≡ 4294967295 → Ok (1, true, i + 4) ≡ got_of (step_of threshold i bs)
    threshold_below k =
        sym (ap got_of (value_is (negsuc 0) none
        (if_lt_no n 2147483648 (pos n) (negsuc (4294967295 - n)) (omega arith) ∙ ap negsuc (let z : 4294967295 - n ≡ 0 = omega arith in z))
        (quantity_within (negsuc 0) (pos 4194304) i (negsuc 0) refl)))

    pub threshold_beyond : n ≤ 4294967295 → (n ≡ 4294967295 → ⊥) → 4194304 < n → Err (refusal.Quantity i) ≡ got_of (step_of threshold i bs)
    threshold_beyond m ne k = sym (ap got_of (at (lt_case n 2147483648)))
      where
        at : (n < 2147483648) ⊎ (2147483648 ≤ n) → step_of (quantity (negsuc 0) (pos 4194304)) i (drop i l) ≡ stop (refusal.Quantity i)
        at (inl b) =
            value_is (pos n) (some (refusal.Quantity i)) (if_lt_yes n 2147483648 (pos n) (negsuc (4294967295 - n)) b) (quantity_high (negsuc 0) (pos 4194304) i (pos n) (lt-ltb 4194304 n k))
        at (inr b) =
            value_is (negsuc (4294967295 - n)) (some (refusal.Quantity i)) (if_lt_no n 2147483648 (pos n) (negsuc (4294967295 - n)) b)
            (quantity_low (negsuc 0) (pos 4194304) i (negsuc (4294967295 - n)) (lt-ltb 0 (4294967295 - n) (omega (arith, ne))))

    pub threshold_got : n ≤ 4194304 → Ok (n, false, i + 4) ≡ got_of (step_of threshold i bs)
    threshold_got k =
        sym (ap got_of (value_is (pos n) none (if_lt_yes n 2147483648 (pos n) (negsuc (4294967295 - n)) (omega arith))
        (quantity_in (negsuc 0) (pos 4194304) i (pos n) refl (le-ltb 4194304 n k))))
