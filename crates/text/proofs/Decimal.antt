-- The decimal digits of a number: one law for each branch of `put_number`, how many there are, and that they are read back as the number.
-- Assumes nothing.
use mathlib.Core.Path.{◌≡◌, refl, sym, ap, ◌∙◌}
use mathlib.Core.Bool.{Bool, true, false}
use mathlib.Core.List.{List, [], ◌∷◌, ◌++◌}
use mathlib.Core.Option.{some}
use Prim.Native.Nat.{ℕ, zero, suc, ◌+◌, ◌*◌, ◌-◌, ◌/◌, ◌%◌, ◌^◌, ◌<◌, ◌≤◌}
use native.Mathlib.Nat.{pow-succ'}
use native.Mathlib.Omega.{arith}
use borrow.Author.Tests.{lt-ltb, le-ltb, ltb-true, ltb-false}
use lib.Dec.{ltb}
use lib.ListN.{length, length-append}
use Rattle.text.specs.Text.{digit, digits_from, digits}
use Rattle.text.specs.Line.{decimal_by, decimal}
use Rattle.text.proofs.Numbers.{digit_yes, digits_on, digits_off, digits_end}

by_low : (k n : ℕ) → n < 10 → decimal_by (suc k) n ≡ (48 + n) ∷ []
unfolding decimal_by
by_low k n h = rw (lt-ltb n 10 h, decimal_by)

by_high : (k n : ℕ) → 10 ≤ n → decimal_by (suc k) n ≡ decimal_by k (n / 10) ++ ((48 + n % 10) ∷ [])
unfolding decimal_by
by_high k n h = rw (le-ltb n 10 h, decimal_by)

-- any bound above the number gives the same digits
by_same : (k j n : ℕ) → n < k → n < j → decimal_by k n ≡ decimal_by j n
by_same zero j n h g = absurd (omega arith)
by_same (suc k) zero n h g = absurd (omega arith)
by_same (suc k) (suc j) n h g = at (ltb n 10) refl (λ m a b. by_same k j m a b)
  where
    at : (t : Bool) → ltb n 10 ≡ t → ((m : ℕ) → m < k → m < j → decimal_by k m ≡ decimal_by j m) → decimal_by (suc k) n ≡ decimal_by (suc j) n
    at true e f = let l = ltb-true n 10 e in by_low k n l ∙ sym (by_low j n l)
    at false e f =
        let l = ltb-false n 10 e in
        by_high k n l ∙ ap (λ (x : List ℕ). x ++ ((48 + n % 10) ∷ [])) (f (n / 10) (omega arith) (omega arith)) ∙ sym (by_high j n l)

pub decimal_low : (n : ℕ) → n < 10 → decimal n ≡ (48 + n % 10) ∷ []
unfolding decimal
decimal_low n h = by_low n n h ∙ ap (λ (d : ℕ). (48 + d) ∷ []) (omega arith)

pub decimal_high : (n : ℕ) → 10 ≤ n → decimal n ≡ decimal (n / 10) ++ ((48 + n % 10) ∷ [])
unfolding decimal
decimal_high n h = by_high n n h ∙ ap (λ (x : List ℕ). x ++ ((48 + n % 10) ∷ [])) (by_same n (suc (n / 10)) (n / 10) (omega arith) (omega arith))

-- ---- how many digits

pub decimal_length : (k n : ℕ) → n < 10 ^ suc k → length (decimal n) ≤ suc k
decimal_length zero n h = rw (decimal_low n h) (omega arith)
decimal_length (suc k) n h = at (ltb n 10) refl (λ m g. decimal_length k m g)
  where
    at : (t : Bool) → ltb n 10 ≡ t → ((m : ℕ) → m < 10 ^ suc k → length (decimal m) ≤ suc k) → length (decimal n) ≤ suc (suc k)
    at true e f = rw (decimal_low n (ltb-true n 10 e)) (omega arith)
    at false e f =
        let l = ltb-false n 10 e in
        let p = pow-succ' 10 (suc k) in
        let s = f (n / 10) (omega arith) in
        let t = length-append (decimal (n / 10)) ((48 + n % 10) ∷ []) in
        rw (decimal_high n l) (omega arith)

-- ---- read back

digits_more : (l : List ℕ) (v m b : ℕ) → digits_from v l ≡ some m → digit b ≡ true → digits_from v (l ++ (b ∷ [])) ≡ some (m * 10 + (b - 48))
digits_more [] v m b e d =
    let w = digits_end v in
    let q : v ≡ m = cc in
    digits_on v b [] d ∙ digits_end (v * 10 + (b - 48)) ∙ ap (λ (x : ℕ). some (x * 10 + (b - 48))) q
digits_more (x ∷ l) v m b e d = at (digit x) refl (λ w f. digits_more l w m b f d)
  where
    at : (t : Bool) → digit x ≡ t → ((w : ℕ) → digits_from w l ≡ some m → digits_from w (l ++ (b ∷ [])) ≡ some (m * 10 + (b - 48))) → digits_from v (x ∷ (l ++ (b ∷ []))) ≡ some (m * 10 + (b - 48))
    at true f g = digits_on v x (l ++ (b ∷ [])) f ∙ g (v * 10 + (x - 48)) (sym (digits_on v x l f) ∙ e)
    at false f g = let w = digits_off v x l f in cc

read_by : (k n : ℕ) → n < k → digits_from 0 (decimal_by k n) ≡ some n
read_by zero n h = absurd (omega arith)
read_by (suc k) n h = at (ltb n 10) refl (λ m g. read_by k m g)
  where
    at : (t : Bool) → ltb n 10 ≡ t → ((m : ℕ) → m < k → digits_from 0 (decimal_by k m) ≡ some m) → digits_from 0 (decimal_by (suc k) n) ≡ some n
    at true e f =
        let l = ltb-true n 10 e in
        ap (digits_from 0) (by_low k n l) ∙ digits_on 0 (48 + n) [] (digit_yes (48 + n) (omega arith) (omega arith)) ∙ digits_end (0 * 10 + (48 + n - 48)) ∙ ap some (omega arith)
    at false e f =
        let l = ltb-false n 10 e in
        ap (digits_from 0) (by_high k n l)
        ∙ digits_more (decimal_by k (n / 10)) 0 (n / 10) (48 + n % 10) (f (n / 10) (omega arith)) (digit_yes (48 + n % 10) (omega arith) (omega arith))
        ∙ ap some (omega arith)

digits_of : (l : List ℕ) (n : ℕ) → 0 < length l → digits_from 0 l ≡ some n → digits l ≡ some n
digits_of [] n h e = absurd (omega arith)
digits_of (b ∷ l) n h e = e

pub decimal_some : (n : ℕ) → 0 < length (decimal n)
decimal_some n = at (ltb n 10) refl
  where
    at : (t : Bool) → ltb n 10 ≡ t → 0 < length (decimal n)
    at true e = rw (decimal_low n (ltb-true n 10 e)) (omega arith)
    at false e =
        let t = length-append (decimal (n / 10)) ((48 + n % 10) ∷ []) in
        rw (decimal_high n (ltb-false n 10 e)) (omega arith)

-- what is printed for a number is read as that number
pub decimal_read : (n : ℕ) → digits (decimal n) ≡ some n
unfolding decimal
decimal_read n = digits_of (decimal n) n (decimal_some n) (read_by (suc n) n (omega arith))
