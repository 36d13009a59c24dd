-- The rows that the code writes are those of the promise: of plans that have only the table's atoms. Assumes nothing.
use mathlib.Core.Path.{◌≡◌, refl, ap, ap₂, ◌∙◌}
use mathlib.Core.Bool.{Bool, true, false}
use mathlib.Core.List.Memᴰ
use mathlib.Core.List.{List, [], ◌∷◌, ◌++◌}
use Prim.Native.Nat.{ℕ, zero, suc, ◌+◌, ◌-◌, ◌*◌, ◌≤◌}
use native.Mathlib.Omega.{arith}
use lib.ListN.{length, drop, replicate}
use Rattle.meaning.specs.Lists.{◌∈◌}
use Rattle.meaning.specs.Aggregates.{Atoms}
use Rattle.promises.specs.Plans.{bit_of, bytes_from}
use Rattle.promises.specs.Listings as promise
use Rattle.listing.specs.Rows.{bit_by, row_byte, row_from}
use Rattle.listing.specs.Rows as code

bits : (b : Bool) → bit_by b ≡ bit_of b
bits true = refl
bits false = refl

front : (X : Atoms) (i k : ℕ) → row_from X i k ≡ bytes_from X (suc i) k
unfolding row_from
front X i zero = refl
front X i (suc k) = ap₂ (λ (b : ℕ) (l : List ℕ). b ∷ l) (bits (X (suc i))) (front X (suc i) k)

parted : (X : Atoms) (i a b n : ℕ) → n ≡ a + b → row_from X i n ≡ row_from X i a ++ row_from X (i + a) b
unfolding row_from
parted X i zero b n e = let u : n ≡ b = omega arith in let v : i ≡ i + 0 = omega arith in ap (row_from X i) u ∙ ap (λ (q : ℕ). row_from X q b) v
parted X i (suc a) b zero e = absurd (omega arith)
parted X i (suc a) b (suc n) e =
    let u : n ≡ a + b = omega arith in
    let v : suc i + a ≡ i + suc a = omega arith in
    ap (λ (l : List ℕ). row_byte X i ∷ l) (parted X (suc i) a b n u ∙ ap (λ (q : ℕ). row_from X (suc i) a ++ row_from X q b) v)

false_bit : (b : Bool) → (b ≡ true → ⊥) → bit_by b ≡ 0
false_bit true h = absurd (h refl)
false_bit false h = refl

-- a plan has only the atoms 1 to n
abbrev pub Inside : ℕ → Atoms → Type 0
Inside n X = (p : ℕ) → X p ≡ true → (1 ≤ p) × (p ≤ n)

zeros : (n : ℕ) (X : Atoms) → Inside n X → (i k : ℕ) → n ≤ i → row_from X i k ≡ replicate k 0
unfolding row_from
zeros n X h i zero l = refl
zeros n X h i (suc k) l = ap₂ (λ (b : ℕ) (r : List ℕ). b ∷ r) (false_bit (X (suc i)) (λ e. let u = (h (suc i) e).1 in omega arith)) (zeros n X h (suc i) k (omega arith))

row_same : (n : ℕ) → n ≤ 256 → (X : Atoms) → Inside n X → code.row_of X ≡ promise.row_of n X
row_same n le X h =
    parted X 0 n (256 - n) 256 (omega arith)
    ∙ ap (λ (l : List ℕ). l ++ row_from X (0 + n) (256 - n)) (front X 0 n)
    ∙ ap (λ (l : List ℕ). bytes_from X 1 n ++ l) (zeros n X h (0 + n) (256 - n) (omega arith))

module _ (n : ℕ) (le : n ≤ 256) where
  rows_same : (plans : List Atoms) → ((X : Atoms) → X ∈ plans → Inside n X) → code.rows_of plans ≡ promise.rows_of n plans
  unfolding code.rows_of
  rows_same [] h = refl
  rows_same (X ∷ plans) h = ap₂ (λ (a b : List ℕ). a ++ b) (row_same n le X (h X (Memᴰ.head refl))) (rows_same plans (λ Y m. h Y (Memᴰ.tail m)))

  pub with_same : (plans : List Atoms) → ((X : Atoms) → X ∈ plans → Inside n X) → (old : List ℕ) → code.rows_with plans old ≡ promise.rows_with n plans old
  with_same plans h old = ap (λ (l : List ℕ). l ++ drop (256 * length plans) old) (rows_same plans h)
