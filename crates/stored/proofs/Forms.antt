-- Numbers in bytes: what is written is read back, what is read is written alike, for each of the two widths and each of the three forms. Assumes nothing.
use mathlib.Core.Path.{◌≡◌, refl, sym, ap, ◌∙◌, subst}
use mathlib.Core.Bool.{Bool, true, false}
use mathlib.Core.List.{List, [], ◌∷◌, ◌++◌}
use mathlib.Core.Logic.{◌⊎◌, inl, inr}
use Prim.Native.Nat.{ℕ, zero, suc, ◌+◌, ◌-◌, ◌*◌, ◌/◌, ◌%◌, ◌≤◌, ◌<◌}
use native.Mathlib.Omega.{arith}
use lib.IntN.{ℤ, pos, negsuc, neg_ℤ, nat_abs}
use lib.ListN.{length, get_or, drop, length-drop}
use lib.Seq.{drop-cons}
use lib.Dec.{T}
use Rattle.meaning.proofs.Cond.{if_lt_yes, if_lt_no, if_eq_yes, if_eq_no, eq_case, lt_case}
use Rattle.stored.specs.Bytes.{two, four, complement, from_complement, twice, from_twice, Number, cut, whole, two_of, four_of, Bytes}

-- ---- at an index of the bytes

module _ (l : List ℕ) (i : ℕ) where
  next_cons : (j k : ℕ) → j < length l → k ≡ suc j → drop j l ≡ get_or l j 0 ∷ drop k l
  next_cons j k h e = drop-cons l j 0 h ∙ ap (λ (m : ℕ). get_or l j 0 ∷ drop m l) (sym e)

  pub two_there : i + 2 ≤ length l → two_of (drop i l) ≡ whole (get_or l i 0 + 256 * get_or l (i + 1) 0) (drop (i + 2) l)
  two_there h = rw (next_cons i (i + 1) (omega arith) (omega arith), next_cons (i + 1) (i + 2) (omega arith) (omega arith)) refl

  pub four_there : i + 4 ≤ length l
      → four_of (drop i l) ≡ whole (get_or l i 0 + 256 * get_or l (i + 1) 0 + 65536 * get_or l (i + 2) 0 + 16777216 * get_or l (i + 3) 0) (drop (i + 4) l)
  four_there h =
      rw (next_cons i (i + 1) (omega arith) (omega arith), next_cons (i + 1) (i + 2) (omega arith) (omega arith), next_cons (i + 2) (i + 3) (omega arith) (omega arith), next_cons (i + 3) (i + 4) (omega arith) (omega arith)) refl

few_two : (bs : List ℕ) → length bs < 2 → two_of bs ≡ cut
few_two [] h = refl
few_two (a ∷ []) h = refl
few_two (a ∷ b ∷ bs) h = absurd (omega arith)

few_four : (bs : List ℕ) → length bs < 4 → four_of bs ≡ cut
few_four [] h = refl
few_four (a ∷ []) h = refl
few_four (a ∷ b ∷ []) h = refl
few_four (a ∷ b ∷ c ∷ []) h = refl
few_four (a ∷ b ∷ c ∷ d ∷ bs) h = absurd (omega arith)

pub two_cut : (l : List ℕ) (i : ℕ) → length l - i < 2 → two_of (drop i l) ≡ cut
two_cut l i h = few_two (drop i l) (rw (length-drop i l) h)

pub four_cut : (l : List ℕ) (i : ℕ) → length l - i < 4 → four_of (drop i l) ≡ cut
four_cut l i h = few_four (drop i l) (rw (length-drop i l) h)

-- ---- written and read back

pub two_read : (n : ℕ) (bs : List ℕ) → n ≤ 65535 → two_of (two n ++ bs) ≡ whole n bs
two_read n bs h =
    let e : n % 256 + 256 * (n / 256 % 256) ≡ n = omega arith in
    ap (λ (m : ℕ). whole m bs) e

pub four_read : (n : ℕ) (bs : List ℕ) → n ≤ 4294967295 → four_of (four n ++ bs) ≡ whole n bs
four_read n bs h =
    let p : n ≡ 256 * (n / 256) + n % 256 = omega arith in
    let q : n / 256 ≡ 256 * (n / 256 / 256) + n / 256 % 256 = omega arith in
    let r : n / 256 / 256 ≡ 256 * (n / 256 / 256 / 256) + n / 256 / 256 % 256 = omega arith in
    let s : n / 256 / 256 / 256 % 256 ≡ n / 256 / 256 / 256 = omega arith in
    let e : n % 256 + 256 * (n / 256 % 256) + 65536 * (n / 256 / 256 % 256) + 16777216 * (n / 256 / 256 / 256 % 256) ≡ n = omega (arith, p, q, r, s) in
    ap (λ (m : ℕ). whole m bs) e

-- ---- read and written alike

abbrev is_whole : Number → Bool
is_whole cut = false
is_whole (whole n bs) = true

pub cut≢whole {ℓ} : {X : Type ℓ} {n : ℕ} {bs : List ℕ} → cut ≡ whole n bs → X
cut≢whole e = absurd (subst T (ap is_whole (sym e)) tt)

abbrev value_in : Number → ℕ
value_in cut = 0
value_in (whole n bs) = n

abbrev pub rest_in : Number → List ℕ
rest_in cut = []
rest_in (whole n bs) = bs

-- a byte and the rest of a number
parts : (n x y : ℕ) → x + 256 * y ≡ n → x < 256 → (n / 256 ≡ y) × (x ≡ n % 256)
parts n x y e h =
    let q : n / 256 ≡ y = omega arith in
    (q, omega (arith, q))

pub two_written : (bs : List ℕ) (n : ℕ) (rest : List ℕ) → Bytes bs → two_of bs ≡ whole n rest → (bs ≡ two n ++ rest) × (n ≤ 65535) × Bytes rest
two_written [] n rest b e = cut≢whole e
two_written (x ∷ []) n rest b e = cut≢whole e
two_written (x ∷ y ∷ bs) n rest b e =
    let p : x + 256 * y ≡ n = ap value_in e in
    let q : bs ≡ rest = ap rest_in e in
    let u = b.0 in
    let v = b.1.0 in
    let d = parts n x y p u in
    let f = d.1 in
    let g : y ≡ n / 256 % 256 = (parts (n / 256) y 0 (let z = d.0 in omega arith) v).1 in
    (ap (λ (m : ℕ). m ∷ y ∷ bs) f ∙ ap (λ (m : ℕ). n % 256 ∷ m ∷ bs) g ∙ ap (λ (l : List ℕ). two n ++ l) q, omega arith, subst Bytes q b.1.1)

pub four_written_lem : (bs : List ℕ) (n : ℕ) (rest : List ℕ) → Bytes bs → four_of bs ≡ whole n rest → (bs ≡ four n ++ rest) × (n ≤ 4294967295) × Bytes rest
four_written_lem [] n rest b e = cut≢whole e
four_written_lem (x ∷ []) n rest b e = cut≢whole e
four_written_lem (x ∷ y ∷ []) n rest b e = cut≢whole e
four_written_lem (x ∷ y ∷ z ∷ []) n rest b e = cut≢whole e
four_written_lem (x ∷ y ∷ z ∷ w ∷ bs) n rest b e =
    let p : x + 256 * y + 65536 * z + 16777216 * w ≡ n = ap value_in e in
    let q : bs ≡ rest = ap rest_in e in
    let u = b.0 in
    let v = b.1.0 in
    let u' = b.1.1.0 in
    let v' = b.1.1.1.0 in
    let d = parts n x (y + 256 * z + 65536 * w) (omega arith) u in
    let d' = parts (n / 256) y (z + 256 * w) (let k = d.0 in omega arith) v in
    let d'' = parts (n / 256 / 256) z w (let k = d'.0 in omega arith) u' in
    let f = d.1 in
    let g = d'.1 in
    let h = d''.1 in
    let k : w ≡ n / 256 / 256 / 256 % 256 = (parts (n / 256 / 256 / 256) w 0 (let z = d''.0 in omega arith) v').1 in (
      ap (λ (m : ℕ). m ∷ y ∷ z ∷ w ∷ bs) f
          ∙ ap (λ (m : ℕ). n % 256 ∷ m ∷ z ∷ w ∷ bs) g
          ∙ ap (λ (m : ℕ). n % 256 ∷ n / 256 % 256 ∷ m ∷ w ∷ bs) h
          ∙ ap (λ (m : ℕ). n % 256 ∷ n / 256 % 256 ∷ n / 256 / 256 % 256 ∷ m ∷ bs) k
          ∙ ap (λ (l : List ℕ). four n ++ l) q,
      omega arith,
      subst Bytes q b.1.1.1.1,
    )

-- ---- the forms

pub complement_back : (w : ℤ) → complement w ≤ 4294967295 → nat_abs w ≤ 4194304 → from_complement (complement w) ≡ w
complement_back (pos n) h k = if_lt_yes n 2147483648 (pos n) (negsuc (4294967295 - n)) (omega arith)
complement_back (negsuc n) h k =
    let e : 4294967295 - (4294967295 - n) ≡ n = omega arith in
    if_lt_no (4294967295 - n) 2147483648 (pos (4294967295 - n)) (negsuc (4294967295 - (4294967295 - n))) (omega arith) ∙ ap negsuc e

pub complement_again : (n : ℕ) → n ≤ 4294967295 → complement (from_complement n) ≡ n
complement_again n h = at (lt_case n 2147483648)
  where
    at : (n < 2147483648) ⊎ (2147483648 ≤ n) → complement (from_complement n) ≡ n
    at (inl k) = ap complement (if_lt_yes n 2147483648 (pos n) (negsuc (4294967295 - n)) k)
    at (inr k) = ap complement (if_lt_no n 2147483648 (pos n) (negsuc (4294967295 - n)) k) ∙ omega arith

pub twice_back : (w : ℤ) → from_twice (twice w) ≡ w
twice_back (pos n) =
    let e : 2 * n % 2 ≡ 0 = omega arith in
    let f : 2 * n / 2 ≡ n = omega arith in
    if_eq_yes (2 * n % 2) 0 (pos (2 * n / 2)) (neg_ℤ (pos (2 * n / 2))) e ∙ ap pos f
twice_back (negsuc n) =
    let e : (2 * suc n + 1) % 2 ≡ 1 = omega arith in
    let f : (2 * suc n + 1) / 2 ≡ suc n = omega arith in
    if_eq_no ((2 * suc n + 1) % 2) 0 (pos ((2 * suc n + 1) / 2)) (neg_ℤ (pos ((2 * suc n + 1) / 2))) (λ z. absurd (omega arith)) ∙ ap (λ (m : ℕ). neg_ℤ (pos m)) f

-- of a literal that is not 0
pub twice_again : (n : ℕ) → 0 < n / 2 → twice (from_twice n) ≡ n
twice_again n h = at (eq_case (n % 2) 0)
  where
    minus : (m : ℕ) → 0 < m → twice (neg_ℤ (pos m)) ≡ 2 * m + 1
    minus zero k = absurd (omega arith)
    minus (suc m) k = refl

    at : (n % 2 ≡ 0) ⊎ (n % 2 ≡ 0 → ⊥) → twice (from_twice n) ≡ n
    at (inl k) = ap twice (if_eq_yes (n % 2) 0 (pos (n / 2)) (neg_ℤ (pos (n / 2))) k) ∙ omega arith
    at (inr k) =
        let z : n % 2 ≡ 1 = odd (eq_case (n % 2) 1) in
        ap twice (if_eq_no (n % 2) 0 (pos (n / 2)) (neg_ℤ (pos (n / 2))) k) ∙ minus (n / 2) h ∙ omega arith
      where
        odd : (n % 2 ≡ 1) ⊎ (n % 2 ≡ 1 → ⊥) → n % 2 ≡ 1
        odd (inl o) = o
        odd (inr o) = absurd (omega (arith, k, o))

pub from_twice_size : (n : ℕ) → nat_abs (from_twice n) ≡ n / 2
from_twice_size n = at (eq_case (n % 2) 0)
  where
    size : (m : ℕ) → nat_abs (neg_ℤ (pos m)) ≡ m
    size zero = refl
    size (suc m) = refl

    at : (n % 2 ≡ 0) ⊎ (n % 2 ≡ 0 → ⊥) → nat_abs (from_twice n) ≡ n / 2
    at (inl k) = ap nat_abs (if_eq_yes (n % 2) 0 (pos (n / 2)) (neg_ℤ (pos (n / 2))) k)
    at (inr k) = ap nat_abs (if_eq_no (n % 2) 0 (pos (n / 2)) (neg_ℤ (pos (n / 2))) k) ∙ size (n / 2)
