-- Single bits of an or, of an exclusive or and of a power of two. Assumes nothing.
use mathlib.Core.Path.{◌≡◌, sym, ap, ◌∙◌}
use mathlib.Core.Logic.{◌≢◌, ◌⊎◌, inl, inr}
use Prim.Native.Nat.{ℕ, zero, suc, ◌+◌, ◌-◌, ◌*◌, ◌/◌, ◌%◌, ◌^◌, ◌<◌, ◌≤◌, max}
use native.Mathlib.Nat.{one-mul, mod-eq_of_lt, pow-suc, div-eq_of_lt}
use native.Mathlib.Omega.{arith}
use lib.Bits.{bit_or, bit_xor, differ, or_shr, or_step, xor_shr, xor_step}
use lib.Pow.{pow-lt, pow-add, shl-shr}
use Rattle.meaning.proofs.Cond.{lt_case}

-- a bit of a word shifted into place does not wrap
pub one_bit : (l : ℕ) → 1 * 2 ^ (l % 64) % 18446744073709551616 ≡ 2 ^ (l % 64)
one_bit l = rw one-mul (mod-eq_of_lt (pow-lt {i = l % 64} {j = 64} (omega arith)))

pub or_bit : (a b k : ℕ) → bit_or a b / 2 ^ k % 2 ≡ max (a / 2 ^ k % 2) (b / 2 ^ k % 2)
or_bit a b k = rw (or_shr a b k) (omega (arith, or_step (a / 2 ^ k) (b / 2 ^ k)))

digit : (q x : ℕ) → x < 2 → (q * 2 + x) % 2 ≡ x
digit q x h = omega arith

differ_lt : (x y : ℕ) → x < 2 → y < 2 → differ x y < 2
differ_lt zero y h k = k
differ_lt (suc x) zero h k = h
differ_lt (suc zero) (suc y) h k = omega arith
differ_lt (suc (suc x)) (suc y) h k = absurd (omega arith)

pub xor_bit : (a b k : ℕ) → bit_xor a b / 2 ^ k % 2 ≡ differ (a / 2 ^ k % 2) (b / 2 ^ k % 2)
xor_bit a b k =
    ap (λ (x : ℕ). x % 2) (xor_shr a b k ∙ xor_step (a / 2 ^ k) (b / 2 ^ k))
    ∙ digit _ _ (differ_lt (a / 2 ^ k % 2) (b / 2 ^ k % 2) (omega arith) (omega arith))

-- 2 ^ m has bit m, and no other
pub pow_same : (m : ℕ) → 2 ^ m / 2 ^ m % 2 ≡ 1
pow_same m = ap (λ (x : ℕ). x / 2 ^ m % 2) (sym (one-mul (2 ^ m))) ∙ ap (λ (x : ℕ). x % 2) (shl-shr 1 m)

pow_above : (m d : ℕ) → 2 ^ (suc d + m) / 2 ^ m % 2 ≡ 0
pow_above m d =
    ap (λ (x : ℕ). x / 2 ^ m % 2) (pow-add 2 (suc d) m) ∙ ap (λ (x : ℕ). x % 2) (shl-shr (2 ^ suc d) m)
    ∙ omega (arith, pow-suc 2 d)

pow_below : (m k : ℕ) → m < k → 2 ^ m / 2 ^ k % 2 ≡ 0
pow_below m k h = ap (λ (x : ℕ). x % 2) (div-eq_of_lt (pow-lt h))

pub pow_other : (m k : ℕ) → k ≢ m → 2 ^ m / 2 ^ k % 2 ≡ 0
pow_other m k n = at (lt_case m k)
  where
    at : (m < k) ⊎ (k ≤ m) → 2 ^ m / 2 ^ k % 2 ≡ 0
    at (inl h) = pow_below m k h
    at (inr h) =
        let e : m ≡ suc (m - suc k) + k = omega (arith, n) in
        ap (λ (x : ℕ). 2 ^ x / 2 ^ k % 2) e ∙ pow_above k (m - suc k)
