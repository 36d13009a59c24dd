-- The number that a run writes, from digits whose value is held at 2 to the 64 less 1; and a signed word as the machine holds it. Assumes nothing.
use mathlib.Core.Path.{◌≡◌, refl, sym, ap, subst, ◌∙◌}
use mathlib.Core.Bool.{Bool, true, false, ◌&&◌}
use mathlib.Core.List.{List, [], ◌∷◌}
use mathlib.Core.Option.{Option, some, none}
use Prim.Native.Nat.{ℕ, zero, suc, ◌+◌, ◌*◌, ◌-◌, ◌<◌, ◌≤◌, min}
use native.Mathlib.Numerals.{add-one}
use native.Mathlib.Omega.{arith}
use borrow.Author.Tests.{le-leb, lt-leb, ne_eqb, leb-true, leb-false}
use lib.Dec.{eqb, leb}
use lib.IntN.{ℤ, pos, neg_ℤ, ◌-ℤ◌, +ℤ_idl}
use lib.ListN.{length, get_or, drop, take, drop_of_length-le}
use lib.Pointwise.{pointwise}
use lib.Seq.{drop-cons}
use mir.Syntax.{w32, w64}
use mir.Val.{SFits, to_z, of_z}
use mir.ValLaws.{to_z-of_z}
use Rattle.std.specs.Prelude.{⊤, Some, None, Result, Ok, Err, OkIff}
use Rattle.std.specs.Prelude as Prelude
use Rattle.std.specs.Bool.{then_some}
use Rattle.std.specs.Char.{is_ascii_digit}
use Rattle.std.specs.Result.{result_ok}
use Rattle.text.specs.Text.{digit, digits_from, digits, plain, negative, number, unsigned32, signed32, limit, word, pick}
use Rattle.text.specs.Scan.{held, limit_in, word_in}

-- ---- digits

pub digit_yes : (b : ℕ) → 48 ≤ b → b ≤ 57 → digit b ≡ true
unfolding digit
digit_yes b h k = rw (le-leb 48 b h, le-leb b 57 k)

pub digit_low : (b : ℕ) → b < 48 → digit b ≡ false
unfolding digit
digit_low b h = rw (lt-leb 48 b h)

pub digit_is : (b : ℕ) → is_ascii_digit b ≡ digit b
unfolding digit
digit_is b = refl

and_false : (a : Bool) → (a && false) ≡ false
and_false true = refl
and_false false = refl

pub digit_high : (b : ℕ) → 57 < b → digit b ≡ false
unfolding digit
digit_high b h = rw (lt-leb b 57 h) (and_false (leb 48 b))

pub digits_on : (v b : ℕ) (bs : List ℕ) → digit b ≡ true → digits_from v (b ∷ bs) ≡ digits_from (v * 10 + (b - 48)) bs
unfolding digits_from
digits_on v b bs e = rw (e, digits_from)

pub digits_off : (v b : ℕ) (bs : List ℕ) → digit b ≡ false → digits_from v (b ∷ bs) ≡ none
unfolding digits_from
digits_off v b bs e = rw (e, digits_from)

pub digits_end : (v : ℕ) → digits_from v [] ≡ some v
unfolding digits_from
digits_end v = refl

-- two values that are the same below 2 to the 64 less 1 stay so
pub held_same : (l : List ℕ) (v w : ℕ) → min v 18446744073709551615 ≡ min w 18446744073709551615 → held (digits_from v l) ≡ held (digits_from w l)
held_same [] v w e = rw (digits_end v, digits_end w) (ap Some e)
held_same (b ∷ bs) v w e =
    at
    (digit b)
    refl
    (λ x y f. held_same bs x y f)
  where
    at : (t : Bool) → digit b ≡ t → ((x y : ℕ) → min x 18446744073709551615 ≡ min y 18446744073709551615 → held (digits_from x bs) ≡ held (digits_from y bs)) → held (digits_from v (b ∷ bs)) ≡ held (digits_from w (b ∷ bs))
    at true d f = rw (digits_on v b bs d, digits_on w b bs d) (f (v * 10 + (b - 48)) (w * 10 + (b - 48)) (omega arith))
    at false d f = rw (digits_off v b bs d, digits_off w b bs d)

module _ (run : List ℕ) (i : ℕ) (h : i < length run) where
  pub held_on : (v : ℕ) → digit (get_or run i 0) ≡ true
      → held (digits_from (min (v * 10 + (get_or run i 0 - 48)) 18446744073709551615) (drop (i + 1) run)) ≡ held (digits_from v (drop i run))
  held_on v d =
      let b = get_or run i 0 in
      rw (drop-cons run i 0 h, digits_on v b (drop (suc i) run) d, add-one)
      (held_same (drop (suc i) run) (min (v * 10 + (b - 48)) 18446744073709551615) (v * 10 + (b - 48)) (omega arith))

  pub held_off : (v : ℕ) → digit (get_or run i 0) ≡ false → None ≡ held (digits_from v (drop i run))
  held_off v e = rw (drop-cons run i 0 h, digits_off v (get_or run i 0) (drop (suc i) run) e)

  pub digits_some : digits_from 0 (drop i run) ≡ digits (drop i run)
  digits_some = rw (drop-cons run i 0 h)

pub held_end : (run : List ℕ) (i v : ℕ) → length run ≤ i → v ≤ 18446744073709551615 → Some v ≡ held (digits_from v (drop i run))
held_end run i v h k = rw (drop_of_length-le run h, digits_end v) (ap Some (omega arith))

pub digits_no : (run : List ℕ) (i : ℕ) → length run ≤ i → None ≡ held (digits (drop i run))
digits_no run i h = rw (drop_of_length-le run h)

-- ---- a run

first_minus : (run : List ℕ) (t : Bool) → eqb (get_or run 0 0) 45 ≡ t → number run ≡ pick t (negative (digits (drop 1 run))) (plain (digits run))
unfolding number
first_minus [] true e = cc
first_minus [] false e = refl
first_minus (b ∷ bs) t e = rw e

pub limit_minus : (run : List ℕ) → eqb (get_or run 0 0) 45 ≡ true → limit run ≡ unsigned32 (negative (digits (drop 1 run)))
unfolding limit
limit_minus run e = ap unsigned32 (first_minus run true e)

pub limit_plain : (run : List ℕ) → eqb (get_or run 0 0) 45 ≡ false → limit run ≡ unsigned32 (plain (digits run))
unfolding limit
limit_plain run e = ap unsigned32 (first_minus run false e)

pub word_minus : (run : List ℕ) → eqb (get_or run 0 0) 45 ≡ true → word run ≡ signed32 (negative (digits (drop 1 run)))
unfolding word
word_minus run e = ap signed32 (first_minus run true e)

pub word_plain : (run : List ℕ) → eqb (get_or run 0 0) 45 ≡ false → word run ≡ signed32 (plain (digits run))
unfolding word
word_plain run e = ap signed32 (first_minus run false e)

-- ---- signed numbers in the machine

pub pos_fits : (n : ℕ) → n ≤ 2147483648 → SFits w64 (pos n)
pos_fits n h = record { sfits = omega arith }

pub pos_fits32 : (n : ℕ) → n ≤ 2147483647 → SFits w32 (pos n)
pos_fits32 n h = record { sfits = omega arith }

pos_small : (n : ℕ) → SFits w32 (pos n) → n ≤ 2147483647
pos_small n s = let k = s.sfits in omega arith

pub neg_fits32 : (n : ℕ) → n ≤ 2147483648 → SFits w32 (neg_ℤ (pos n))
neg_fits32 zero h = record { sfits = omega arith }
neg_fits32 (suc n) h = record { sfits = omega arith }

neg_small : (n : ℕ) → SFits w32 (neg_ℤ (pos n)) → n ≤ 2147483648
neg_small zero s = omega arith
neg_small (suc n) s = let k = s.sfits in omega arith

neg_sfits : (n : ℕ) → SFits w64 (pos n) → SFits w64 (neg_ℤ (pos n))
neg_sfits zero s = record { sfits = omega arith }
neg_sfits (suc n) s = let k = s.sfits in record { sfits = omega arith }

-- a number turned round, as the machine holds it
abbrev turned : ℤ → ℤ
turned z = to_z w64 (of_z w64 (pos 0 -ℤ to_z w64 (of_z w64 z)))

turned_is : (z : ℤ) (n : ℕ) → z ≡ pos n → SFits w64 (pos n) → turned z ≡ neg_ℤ (pos n)
turned_is z n e s =
    let f : SFits w64 z = subst (λ (i : ℤ). SFits w64 i) (sym e) s in
    let g : pos 0 -ℤ to_z w64 (of_z w64 z) ≡ neg_ℤ (pos n) = rw (to_z-of_z w64 z f, e) (+ℤ_idl (neg_ℤ (pos n))) in
    rw g (to_z-of_z w64 (neg_ℤ (pos n)) (neg_sfits n s))

-- the test of the run's first byte
and_true : (a : Bool) → (a && true) ≡ a
and_true true = refl
and_true false = refl

pub starts_minus : (run : List ℕ) (t : Bool) → pointwise eqb (take 1 run) (45 ∷ []) ≡ t → eqb (get_or run 0 0) 45 ≡ t
starts_minus [] t e = e
starts_minus (b ∷ bs) t e = sym (and_true (eqb b 45)) ∙ e

-- ---- what the held value says, and a conversion of it

held_none : (o : Option ℕ) → held o ≡ None → o ≡ none
held_none none e = refl
held_none (some n) e = cc

limit_negative : (o : Option ℕ) (n : ℕ) → held o ≡ Some n → limit_in (unsigned32 (negative o)) ≡ then_some (eqb n 0) 0
limit_negative none n e = cc
limit_negative (some zero) n e =
    let m : min 0 18446744073709551615 ≡ n = cc in
    let k : n ≡ 0 = omega arith in
    rw k
limit_negative (some (suc j)) n e =
    let m : min (suc j) 18446744073709551615 ≡ n = cc in
    let k : n ≡ 0 → ⊥ = omega arith in
    rw (ne_eqb n 0 k)

limit_positive : {E : Type 0} (o : Option ℕ) (n : ℕ) → held o ≡ Some n → (r : Result ℕ E) → OkIff r (n < 4294967296) n → result_ok r ≡ limit_in (unsigned32 (plain o))
limit_positive none n e r f = cc
limit_positive (some j) n e (Ok x) f =
    let m : min j 18446744073709551615 ≡ n = cc in
    let k : j ≡ x = let q = f.1 in omega arith in
    let l : j ≤ 4294967295 = omega arith in
    rw (le-leb j 4294967295 l) (ap Some (sym k))
limit_positive (some j) n e (Err x) f =
    let m : min j 18446744073709551615 ≡ n = cc in
    let l : 4294967295 < j = omega arith in
    rw (lt-leb j 4294967295 l)

word_negative : {E : Type 0} (o : Option ℕ) (n : ℕ) → held o ≡ Some n → (z : ℤ) → z ≡ neg_ℤ (pos n) → (r : Result ℤ E) → OkIff r (SFits w32 z) z → result_ok r ≡ word_in (signed32 (negative o))
word_negative none n e z g r f = cc
word_negative (some zero) n e z g (Ok x) f =
    let m : min 0 18446744073709551615 ≡ n = cc in
    let k : n ≡ 0 = omega arith in
    ap Some (f.1 ∙ g ∙ ap (λ (i : ℕ). neg_ℤ (pos i)) k)
word_negative (some zero) n e z g (Err x) f =
    let m : min 0 18446744073709551615 ≡ n = cc in
    let k : n ≡ 0 = omega arith in
    let h : z ≡ pos 0 = g ∙ ap (λ (i : ℕ). neg_ℤ (pos i)) k in
    absurd (f (rw h (record { sfits = omega arith })))
word_negative (some (suc j)) n e z g (Ok x) f =
    let m : min (suc j) 18446744073709551615 ≡ n = cc in
    let s : SFits w32 (neg_ℤ (pos n)) = subst (λ (i : ℤ). SFits w32 i) g f.0 in
    let l = neg_small n s in
    let k : n ≡ suc j = omega arith in
    let h : j ≤ 2147483647 = omega arith in
    rw (le-leb j 2147483647 h) (ap Some (f.1 ∙ g ∙ ap (λ (i : ℕ). neg_ℤ (pos i)) k))
word_negative (some (suc j)) n e z g (Err x) f =
    let m : min (suc j) 18446744073709551615 ≡ n = cc in
    let l : 2147483647 < j = by (leb j 2147483647) refl in
    rw (lt-leb j 2147483647 l)
  where
    by : (t : Bool) → leb j 2147483647 ≡ t → 2147483647 < j
    by true q =
        let h = leb-true j 2147483647 q in
        let m : min (suc j) 18446744073709551615 ≡ n = cc in
        let k : n ≤ 2147483648 = omega arith in
        absurd (f (subst (λ (i : ℤ). SFits w32 i) (sym g) (neg_fits32 n k)))
    by false q = leb-false j 2147483647 q

word_positive : {E : Type 0} (o : Option ℕ) (n : ℕ) → held o ≡ Some n → (r : Result ℤ E) → OkIff r (SFits w32 (pos n)) (pos n) → result_ok r ≡ word_in (signed32 (plain o))
word_positive none n e r f = cc
word_positive (some j) n e (Ok x) f =
    let m : min j 18446744073709551615 ≡ n = cc in
    let l = pos_small n f.0 in
    let k : n ≡ j = omega arith in
    let h : j ≤ 2147483647 = omega arith in
    rw (le-leb j 2147483647 h) (ap Some (f.1 ∙ ap pos k))
word_positive (some j) n e (Err x) f =
    let m : min j 18446744073709551615 ≡ n = cc in
    let l : 2147483647 < j = by (leb j 2147483647) refl in
    rw (lt-leb j 2147483647 l)
  where
    by : (t : Bool) → leb j 2147483647 ≡ t → 2147483647 < j
    by true q =
        let h = leb-true j 2147483647 q in
        let m : min j 18446744073709551615 ≡ n = cc in
        let k : n ≤ 2147483647 = omega arith in
        absurd (f (pos_fits32 n k))
    by false q = leb-false j 2147483647 q

-- a size that has no place in 64 signed bits is above any word's
word_long : (o : Option ℕ) (n : ℕ) → held o ≡ Some n → (SFits w64 (pos n) → ⊥) → word_in (signed32 (negative o)) ≡ None
word_long none n e f = refl
word_long (some zero) n e f =
    let m : min 0 18446744073709551615 ≡ n = cc in
    let k : n ≤ 2147483648 = omega arith in
    absurd (f (pos_fits n k))
word_long (some (suc j)) n e f =
    let l : 2147483647 < j = by (leb j 2147483647) refl in
    rw (lt-leb j 2147483647 l)
  where
    by : (t : Bool) → leb j 2147483647 ≡ t → 2147483647 < j
    by true q =
        let h = leb-true j 2147483647 q in
        let m : min (suc j) 18446744073709551615 ≡ n = cc in
        let k : n ≤ 2147483648 = omega arith in
        absurd (f (pos_fits n k))
    by false q = leb-false j 2147483647 q

none_some_lem : {A : Type 0} {y : A} → Some y ≡ None → ⊥
none_some_lem q = cc

err_not : {T E : Type 0} {P : Type 0} (v : T) (r : Result T E) → OkIff r P v → result_ok r ≡ None → P → ⊥
err_not v (Ok x) f e p = none_some_lem e
err_not v (Err x) f e p = f p

ok_is : {T E : Type 0} {P : Type 0} (v : T) (r : Result T E) (x : T) → OkIff r P v → result_ok r ≡ Some x → P × (x ≡ v)
ok_is v (Ok y) x f e = let q : y ≡ x = cc in (f.0, sym q ∙ f.1)
ok_is v (Err y) x f e = cc

-- ---- the run of a limit or a word, by its first byte

module _ (run ds : List ℕ) (m : pointwise eqb (take 1 run) (45 ∷ []) ≡ true) (d : ds ≡ drop 1 run) (o : Prelude.Option ℕ) (g : o ≡ held (digits ds)) where
  here : o ≡ held (digits (drop 1 run))
  here = g ∙ ap (λ (l : List ℕ). held (digits l)) d

  pub limit_bad_minus : o ≡ None → None ≡ limit_in (limit run)
  limit_bad_minus e = rw (limit_minus run (starts_minus run true m), held_none (digits (drop 1 run)) (sym here ∙ e))

  pub limit_is_minus : (n : ℕ) → o ≡ Some n → then_some (eqb n 0) 0 ≡ limit_in (limit run)
  limit_is_minus n e = rw (limit_minus run (starts_minus run true m)) (sym (limit_negative (digits (drop 1 run)) n (sym here ∙ e)))

  pub word_bad_minus : o ≡ None → None ≡ word_in (word run)
  word_bad_minus e = rw (word_minus run (starts_minus run true m), held_none (digits (drop 1 run)) (sym here ∙ e))

  pub word_long_minus : {E : Type 0} (n : ℕ) → o ≡ Some n → (r : Result ℤ E) → OkIff r (SFits w64 (pos n)) (pos n) → result_ok r ≡ None → None ≡ word_in (word run)
  word_long_minus n e r f h =
      rw (word_minus run (starts_minus run true m)) (sym (word_long (digits (drop 1 run)) n (sym here ∙ e) (err_not (pos n) r f h)))

  pub word_is_minus : {E F : Type 0} (n : ℕ) → o ≡ Some n → (r : Result ℤ E) → OkIff r (SFits w64 (pos n)) (pos n) → (z : ℤ) → result_ok r ≡ Some z
      → (q : Result ℤ F) → OkIff q (SFits w32 (turned z)) (turned z) → result_ok q ≡ word_in (word run)
  word_is_minus n e r f z h q k =
      let w = ok_is (pos n) r z f h in
      rw (word_minus run (starts_minus run true m)) (word_negative (digits (drop 1 run)) n (sym here ∙ e) (turned z) (turned_is z n w.1 w.0) q k)

module _ (run : List ℕ) (m : pointwise eqb (take 1 run) (45 ∷ []) ≡ false) (o : Prelude.Option ℕ) (g : o ≡ held (digits run)) where
  pub limit_bad_plain : o ≡ None → None ≡ limit_in (limit run)
  limit_bad_plain e = rw (limit_plain run (starts_minus run false m), held_none (digits run) (sym g ∙ e))

  pub limit_is_plain : {E : Type 0} (n : ℕ) → o ≡ Some n → (r : Result ℕ E) → OkIff r (n < 4294967296) n → result_ok r ≡ limit_in (limit run)
  limit_is_plain n e r f = rw (limit_plain run (starts_minus run false m)) (limit_positive (digits run) n (sym g ∙ e) r f)

  pub word_bad_plain : o ≡ None → None ≡ word_in (word run)
  word_bad_plain e = rw (word_plain run (starts_minus run false m), held_none (digits run) (sym g ∙ e))

  pub word_is_plain : {E : Type 0} (n : ℕ) → o ≡ Some n → (r : Result ℤ E) → OkIff r (SFits w32 (pos n)) (pos n) → result_ok r ≡ word_in (word run)
  word_is_plain n e r f = rw (word_plain run (starts_minus run false m)) (word_positive (digits run) n (sym g ∙ e) r f)

  pub word_past_plain : (n : ℕ) → o ≡ Some n → 2147483647 < n → None ≡ word_in (word run)
  word_past_plain n e h = word_is_plain {E = ⊤} n e (Err tt) (λ s. let k = pos_small n s in omega (arith, h, k))

  pub word_low_plain : (n : ℕ) → o ≡ Some n → n ≤ 2147483647 → Some (pos n) ≡ word_in (word run)
  word_low_plain n e h = word_is_plain {E = ⊤} n e (Ok (pos n)) (pos_fits32 n h, refl)
