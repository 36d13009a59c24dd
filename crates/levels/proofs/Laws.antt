-- What a row's operations on words make of the set of levels. Assumes nothing.
use mathlib.Core.Path.{◌≡◌, refl, sym, ap, ◌∙◌, fun_ext}
use mathlib.Core.Logic.{◌≢◌, ◌⊎◌, inl, inr}
use mathlib.Core.Bool.{Bool, true, false, cond, ◌||◌}
use mathlib.Core.List.{List, [], ◌∷◌}
use Prim.Native.Nat.{ℕ, zero, suc, ◌+◌, ◌-◌, ◌/◌, ◌%◌, ◌^◌, ◌<◌, ◌≤◌, max}
use native.Mathlib.Nat.{zero-div}
use native.Mathlib.Omega.{arith}
use lib.Bits.{bit_or, bit_xor, differ}
use lib.Dec.{eqb}
use lib.ListN.{length, get_or, set, replicate, get_or-replicate, length-replicate, get_or-eq_default}
use lib.Seq.{get_or-set_same, get_or-set_other}
use Rattle.meaning.specs.Cond.{if_lt, if_eq}
use Rattle.meaning.proofs.Cond.{if_lt_yes, if_lt_no, if_eq_yes, if_eq_no, eq_case, lt_case}
use Rattle.levels.specs.Levels.{Levels, no_levels, union, only, without, up_to, highest}
use Rattle.levels.specs.View.{bit, row, rows}
use Rattle.levels.proofs.Bits.{or_bit, xor_bit, pow_same, pow_other}

pub row_zero : (ws : List ℕ) → row ws 0 ≡ false
unfolding row
row_zero ws = refl

pub row_suc : (ws : List ℕ) (j : ℕ) → row ws (suc j) ≡ eqb (bit ws j) 1
unfolding row
row_suc ws j = refl

bit_is : (ws : List ℕ) (j : ℕ) → bit ws j ≡ get_or ws (j / 64) 0 / 2 ^ (j % 64) % 2
unfolding bit
bit_is ws j = refl

bit_lt : (ws : List ℕ) (j : ℕ) → bit ws j < 2
bit_lt ws j = let e = bit_is ws j in omega arith

pub row_at : (ws : List ℕ) (l : ℕ) → 1 ≤ l → row ws l ≡ eqb (get_or ws ((l - 1) / 64) 0 / 2 ^ ((l - 1) % 64) % 2) 1
row_at ws l h =
    let e : l ≡ suc (l - 1) = omega arith in
    ap (row ws) e ∙ row_suc ws (l - 1) ∙ ap (λ (x : ℕ). eqb x 1) (bit_is ws (l - 1))

-- ---- words that are all 0

bit_none : (ws : List ℕ) (j : ℕ) → get_or ws (j / 64) 0 ≡ 0 → bit ws j ≡ 0
bit_none ws j e = bit_is ws j ∙ ap (λ (w : ℕ). w / 2 ^ (j % 64) % 2) e ∙ ap (λ (w : ℕ). w % 2) (zero-div (2 ^ (j % 64)))

row_none : (ws : List ℕ) → ((k : ℕ) → get_or ws k 0 ≡ 0) → row ws ≡ no_levels
row_none ws z = fun_ext at
  where
    at : (l : ℕ) → row ws l ≡ false
    at zero = row_zero ws
    at (suc j) = row_suc ws j ∙ ap (λ (x : ℕ). eqb x 1) (bit_none ws j (z (j / 64)))

zeros : (n k : ℕ) → ◌≡◌ {A = ℕ} (get_or (replicate n 0) k 0) 0
zeros n k = at (lt_case k n)
  where
    at : (k < n) ⊎ (n ≤ k) → ◌≡◌ {A = ℕ} (get_or (replicate n 0) k 0) 0
    at (inl h) = get_or-replicate n k 0 0 h
    at (inr h) = get_or-eq_default (replicate n 0) 0 (rw (length-replicate {A = ℕ} n 0) h)

abbrev blank : List ℕ
blank = replicate 4 0

pub row_zeros : row blank ≡ no_levels
row_zeros = row_none blank (zeros 4)

row_nil : row [] ≡ no_levels
row_nil = row_none [] (λ k. refl)

-- ---- rows

pub rows_zero : (xs : List (List ℕ)) → rows xs 0 ≡ row []
unfolding rows
rows_zero xs = refl

pub rows_suc : (xs : List (List ℕ)) (i : ℕ) → rows xs (suc i) ≡ row (get_or xs i [])
unfolding rows
rows_suc xs i = refl

pub rows_at : (xs : List (List ℕ)) (p : ℕ) → 1 ≤ p → rows xs p ≡ row (get_or xs (p - 1) [])
rows_at xs p h =
    let e : p ≡ suc (p - 1) = omega arith in
    ap (rows xs) e ∙ rows_suc xs (p - 1)

pub rows_zeros : (n : ℕ) → rows (replicate n blank) ≡ (λ (p : ℕ). no_levels)
rows_zeros n = fun_ext at
  where
    one : (j : ℕ) → (j < n) ⊎ (n ≤ j) → row (get_or (replicate n blank) j []) ≡ no_levels
    one j (inl h) = ap row (get_or-replicate n j blank [] h) ∙ row_zeros
    one j (inr h) = ap row (get_or-eq_default (replicate n blank) [] (rw (length-replicate n blank) h)) ∙ row_nil

    at : (p : ℕ) → rows (replicate n blank) p ≡ no_levels
    at zero = rows_zero (replicate n blank) ∙ row_nil
    at (suc j) = rows_suc (replicate n blank) j ∙ one j (lt_case j n)

-- one row replaced
pub rows_set : (xs : List (List ℕ)) (p : ℕ) (ws : List ℕ) → 1 ≤ p → p - 1 < length xs → rows (set xs (p - 1) ws) ≡ (λ (q : ℕ). if_eq q p (row ws) (rows xs q))
rows_set xs p ws h k = fun_ext at
  where
    at_suc : (j : ℕ) → (j ≡ p - 1) ⊎ (j ≢ p - 1) → rows (set xs (p - 1) ws) (suc j) ≡ if_eq (suc j) p (row ws) (rows xs (suc j))
    at_suc j (inl e) =
        rows_suc (set xs (p - 1) ws) j ∙ ap (λ (i : ℕ). row (get_or (set xs (p - 1) ws) i [])) e ∙ ap row (get_or-set_same xs (p - 1) ws [] k)
        ∙ sym (if_eq_yes (suc j) p (row ws) (rows xs (suc j)) (omega arith))
    at_suc j (inr n) =
        rows_suc (set xs (p - 1) ws) j ∙ ap row (get_or-set_other xs (p - 1) j ws [] n) ∙ sym (rows_suc xs j)
        ∙ sym (if_eq_no (suc j) p (row ws) (rows xs (suc j)) (λ e. n (omega arith)))

    at : (q : ℕ) → rows (set xs (p - 1) ws) q ≡ if_eq q p (row ws) (rows xs q)
    at zero = rows_zero (set xs (p - 1) ws) ∙ sym (rows_zero xs) ∙ sym (if_eq_no 0 p (row ws) (rows xs 0) (λ e. omega arith))
    at (suc j) = at_suc j (eq_case j (p - 1))

-- ---- union

max_eqb : (x y : ℕ) → x < 2 → y < 2 → eqb (max x y) 1 ≡ eqb x 1 || eqb y 1
max_eqb zero zero h k = refl
max_eqb zero (suc zero) h k = refl
max_eqb (suc zero) zero h k = refl
max_eqb (suc zero) (suc zero) h k = refl
max_eqb zero (suc (suc y)) h k = absurd (omega arith)
max_eqb (suc zero) (suc (suc y)) h k = absurd (omega arith)
max_eqb (suc (suc x)) y h k = absurd (omega arith)

abbrev pub united : List ℕ → List ℕ → List ℕ
united a b =
    bit_or (get_or a 0 0) (get_or b 0 0) ∷ bit_or (get_or a 1 0) (get_or b 1 0) ∷ bit_or (get_or a 2 0) (get_or b 2 0) ∷ bit_or (get_or a 3 0) (get_or b 3 0) ∷ []

word_united : (a b : List ℕ) → length a ≡ 4 → length b ≡ 4 → (k : ℕ) → get_or (united a b) k 0 ≡ bit_or (get_or a k 0) (get_or b k 0)
word_united a b m n zero = refl
word_united a b m n (suc zero) = refl
word_united a b m n (suc (suc zero)) = refl
word_united a b m n (suc (suc (suc zero))) = refl
word_united a b m n (suc (suc (suc (suc k)))) =
    sym (ap (λ (x : ℕ). bit_or x (get_or b (suc (suc (suc (suc k)))) 0)) (get_or-eq_default a 0 (omega arith)) ∙ ap (bit_or 0) (get_or-eq_default b 0 (omega arith)))

pub row_united : (a b : List ℕ) → length a ≡ 4 → length b ≡ 4 → row (united a b) ≡ union (row a) (row b)
row_united a b m n = fun_ext at
  where
    at : (l : ℕ) → row (united a b) l ≡ row a l || row b l
    at zero = row_zero (united a b) ∙ sym (ap (λ (x : Bool). x || row b 0) (row_zero a) ∙ row_zero b)
    at (suc j) =
        row_suc (united a b) j
        ∙ ap (λ (x : ℕ). eqb x 1) (bit_is (united a b) j ∙ ap (λ (w : ℕ). w / 2 ^ (j % 64) % 2) (word_united a b m n (j / 64))
        ∙ or_bit (get_or a (j / 64) 0) (get_or b (j / 64) 0) (j % 64))
        ∙ max_eqb (get_or a (j / 64) 0 / 2 ^ (j % 64) % 2) (get_or b (j / 64) 0 / 2 ^ (j % 64) % 2) (omega arith) (omega arith)
        ∙ sym (ap (λ (x : Bool). x || row b (suc j)) (row_suc a j ∙ ap (λ (x : ℕ). eqb x 1) (bit_is a j))
        ∙ ap (λ (x : Bool). eqb (get_or a (j / 64) 0 / 2 ^ (j % 64) % 2) 1 || x) (row_suc b j ∙ ap (λ (x : ℕ). eqb x 1) (bit_is b j)))

-- ---- one bit changed to c

module _ (ws : List ℕ) (l x c : ℕ) (h : 1 ≤ l) (k : (l - 1) / 64 < length ws)
    (here : x / 2 ^ ((l - 1) % 64) % 2 ≡ c) (other : (r : ℕ) → r ≢ (l - 1) % 64 → x / 2 ^ r % 2 ≡ get_or ws ((l - 1) / 64) 0 / 2 ^ r % 2) where
  changed : (j : ℕ) → bit (set ws ((l - 1) / 64) x) j ≡ if_eq (suc j) l c (bit ws j)
  changed j = at (eq_case j (l - 1))
    where
      word : (j / 64 ≡ (l - 1) / 64) ⊎ (j / 64 ≢ (l - 1) / 64) → j ≢ l - 1 → bit (set ws ((l - 1) / 64) x) j ≡ bit ws j
      word (inl e) n =
          let r : j % 64 ≢ (l - 1) % 64 = λ q. n (omega arith) in
          bit_is (set ws ((l - 1) / 64) x) j ∙ ap (λ (i : ℕ). get_or (set ws ((l - 1) / 64) x) i 0 / 2 ^ (j % 64) % 2) e
          ∙ ap (λ (w : ℕ). w / 2 ^ (j % 64) % 2) (get_or-set_same ws ((l - 1) / 64) x 0 k) ∙ other (j % 64) r
          ∙ ap (λ (i : ℕ). get_or ws i 0 / 2 ^ (j % 64) % 2) (sym e) ∙ sym (bit_is ws j)
      word (inr e) n =
          bit_is (set ws ((l - 1) / 64) x) j ∙ ap (λ (w : ℕ). w / 2 ^ (j % 64) % 2) (get_or-set_other ws ((l - 1) / 64) (j / 64) x 0 e) ∙ sym (bit_is ws j)

      at : (j ≡ l - 1) ⊎ (j ≢ l - 1) → bit (set ws ((l - 1) / 64) x) j ≡ if_eq (suc j) l c (bit ws j)
      at (inl e) =
          ap (bit (set ws ((l - 1) / 64) x)) e ∙ bit_is (set ws ((l - 1) / 64) x) (l - 1)
          ∙ ap (λ (w : ℕ). w / 2 ^ ((l - 1) % 64) % 2) (get_or-set_same ws ((l - 1) / 64) x 0 k) ∙ here ∙ sym (if_eq_yes (suc j) l c (bit ws j) (omega arith))
      at (inr n) = word (eq_case (j / 64) ((l - 1) / 64)) n ∙ sym (if_eq_no (suc j) l c (bit ws j) (λ e. n (omega arith)))

  pub row_changed : (q : ℕ) → row (set ws ((l - 1) / 64) x) q ≡ if_eq q l (eqb c 1) (row ws q)
  row_changed zero = row_zero (set ws ((l - 1) / 64) x) ∙ sym (if_eq_no 0 l (eqb c 1) (row ws 0) (λ e. omega arith) ∙ row_zero ws)
  row_changed (suc j) = row_suc (set ws ((l - 1) / 64) x) j ∙ ap (λ (b : ℕ). eqb b 1) (changed j) ∙ at (eq_case (suc j) l)
    where
      at : (suc j ≡ l) ⊎ (suc j ≢ l) → eqb (if_eq (suc j) l c (bit ws j)) 1 ≡ if_eq (suc j) l (eqb c 1) (row ws (suc j))
      at (inl e) = ap (λ (b : ℕ). eqb b 1) (if_eq_yes (suc j) l c (bit ws j) e) ∙ sym (if_eq_yes (suc j) l (eqb c 1) (row ws (suc j)) e)
      at (inr n) = ap (λ (b : ℕ). eqb b 1) (if_eq_no (suc j) l c (bit ws j) n) ∙ sym (if_eq_no (suc j) l (eqb c 1) (row ws (suc j)) n ∙ row_suc ws j)

module _ (ws : List ℕ) (l : ℕ) (h : 1 ≤ l) (k : (l - 1) / 64 < length ws) where
  abbrev w : ℕ
  w = get_or ws ((l - 1) / 64) 0

  abbrev b : ℕ
  b = 2 ^ ((l - 1) % 64)

  or_here : bit_or w b / 2 ^ ((l - 1) % 64) % 2 ≡ 1
  or_here = let e = pow_same ((l - 1) % 64) in let f = or_bit w b ((l - 1) % 64) in omega arith

  or_other_lem : (r : ℕ) → r ≢ (l - 1) % 64 → bit_or w b / 2 ^ r % 2 ≡ w / 2 ^ r % 2
  or_other_lem r n = let e = pow_other ((l - 1) % 64) r n in let f = or_bit w b r in omega arith

  pub row_with : row (set ws ((l - 1) / 64) (bit_or w b)) ≡ union (only l) (row ws)
  row_with = fun_ext (λ q. row_changed ws l (bit_or w b) 1 h k or_here or_other_lem q ∙ at q (eq_case q l))
    where
      at : (q : ℕ) → (q ≡ l) ⊎ (q ≢ l) → if_eq q l true (row ws q) ≡ if_eq q l true false || row ws q
      at q (inl e) = if_eq_yes q l true (row ws q) e ∙ sym (ap (λ (x : Bool). x || row ws q) (if_eq_yes q l true false e))
      at q (inr n) = if_eq_no q l true (row ws q) n ∙ sym (ap (λ (x : Bool). x || row ws q) (if_eq_no q l true false n))

  differ_same : (x : ℕ) → differ x x ≡ 0
  differ_same zero = refl
  differ_same (suc x) = differ_same x

  differ_none : (x : ℕ) → differ x 0 ≡ x
  differ_none zero = refl
  differ_none (suc x) = refl

  pub row_without : row (set ws ((l - 1) / 64) (bit_xor (bit_or w b) b)) ≡ without l (row ws)
  row_without = fun_ext (row_changed ws l (bit_xor (bit_or w b) b) 0 h k here other)
    where
      here : bit_xor (bit_or w b) b / 2 ^ ((l - 1) % 64) % 2 ≡ 0
      here = xor_bit (bit_or w b) b ((l - 1) % 64) ∙ ap (λ (x : ℕ). differ x (b / 2 ^ ((l - 1) % 64) % 2)) (or_here ∙ sym (pow_same ((l - 1) % 64)))
          ∙ differ_same (b / 2 ^ ((l - 1) % 64) % 2)

      other : (r : ℕ) → r ≢ (l - 1) % 64 → bit_xor (bit_or w b) b / 2 ^ r % 2 ≡ w / 2 ^ r % 2
      other r n = xor_bit (bit_or w b) b r ∙ ap (differ (bit_or w b / 2 ^ r % 2)) (pow_other ((l - 1) % 64) r n) ∙ differ_none (bit_or w b / 2 ^ r % 2) ∙ or_other_lem r n

-- ---- all up to k, and the highest, one level at a time

pub upto_zero : no_levels ≡ up_to 0
upto_zero = fun_ext at
  where
    at : (l : ℕ) → false ≡ if_lt 0 l (if_lt 0 l false true) false
    at zero = sym (if_lt_no 0 0 _ _ (omega arith))
    at (suc j) = sym (if_lt_yes 0 (suc j) _ _ (omega arith) ∙ if_lt_yes 0 (suc j) _ _ (omega arith))

pub upto_more : (k : ℕ) → union (only (k + 1)) (up_to k) ≡ up_to (k + 1)
upto_more k = fun_ext at
  where
    case : (l : ℕ) → 0 < l → (k + 1 < l) ⊎ (l ≤ k + 1) → (l ≡ k + 1) ⊎ (l ≢ k + 1) → if_eq l (k + 1) true false || if_lt k l false true ≡ if_lt (k + 1) l false true
    case l h (inl g) (inl e) = absurd (omega arith)
    case l h (inl g) (inr n) =
        ap (λ (x : Bool). x || if_lt k l false true) (if_eq_no l (k + 1) true false n) ∙ if_lt_yes k l false true (omega arith) ∙ sym (if_lt_yes (k + 1) l false true g)
    case l h (inr g) (inl e) = ap (λ (x : Bool). x || if_lt k l false true) (if_eq_yes l (k + 1) true false e) ∙ sym (if_lt_no (k + 1) l false true g)
    case l h (inr g) (inr n) =
        let s : l ≤ k = omega (arith, n) in
        ap (λ (x : Bool). x || if_lt k l false true) (if_eq_no l (k + 1) true false n) ∙ if_lt_no k l false true s ∙ sym (if_lt_no (k + 1) l false true g)

    at : (l : ℕ) → if_eq l (k + 1) true false || if_lt 0 l (if_lt k l false true) false ≡ if_lt 0 l (if_lt (k + 1) l false true) false
    at zero =
        ap (λ (x : Bool). x || if_lt 0 0 (if_lt k 0 false true) false) (if_eq_no 0 (k + 1) true false (λ e. omega arith))
        ∙ if_lt_no 0 0 _ _ (omega arith) ∙ sym (if_lt_no 0 0 _ _ (omega arith))
    at (suc j) =
        ap (λ (x : Bool). if_eq (suc j) (k + 1) true false || x) (if_lt_yes 0 (suc j) (if_lt k (suc j) false true) false (omega arith))
        ∙ case (suc j) (omega arith) (lt_case (k + 1) (suc j)) (eq_case (suc j) (k + 1)) ∙ sym (if_lt_yes 0 (suc j) _ _ (omega arith))

highest_suc : (A : Levels) (k : ℕ) → highest A (suc k) ≡ cond (A (suc k)) (suc k) (highest A k)
unfolding highest
highest_suc A k = refl

pub highest_zero : (A : Levels) (k : ℕ) → k ≡ 0 → highest A k ≡ 0
unfolding highest
highest_zero A k e = ap (highest A) e

pub highest_stop : (A : Levels) (k : ℕ) → 0 < k → A k ≡ true → highest A k ≡ k
highest_stop A k h e =
    let s : k ≡ suc (k - 1) = omega arith in
    ap (highest A) s ∙ highest_suc A (k - 1) ∙ ap (λ (x : Bool). cond x (suc (k - 1)) (highest A (k - 1))) (ap A (sym s) ∙ e) ∙ sym s

pub highest_on : (A : Levels) (k : ℕ) → 0 < k → A k ≡ false → highest A k ≡ highest A (k - 1)
highest_on A k h e =
    let s : k ≡ suc (k - 1) = omega arith in
    ap (highest A) s ∙ highest_suc A (k - 1) ∙ ap (λ (x : Bool). cond x (suc (k - 1)) (highest A (k - 1))) (ap A (sym s) ∙ e)
