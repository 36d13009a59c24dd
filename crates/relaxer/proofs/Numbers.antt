-- The numbers kept, as bits: none, and one more. Assumes nothing.
use mathlib.Core.Path.{◌≡◌, sym, ap, ◌∙◌, fun_ext}
use mathlib.Core.Logic.{◌⊎◌, inl, inr, ◌≢◌}
use mathlib.Core.Bool.{Bool, true, false, ◌||◌}
use mathlib.Core.List.{List}
use Prim.Native.Nat.{ℕ, zero, suc, ◌-◌, ◌/◌, ◌%◌, ◌^◌, ◌≤◌, ◌<◌}
use native.Mathlib.Nat.{zero-div}
use native.Mathlib.Omega.{arith}
use lib.Bits.{bit_or}
use lib.Dec.{eqb}
use lib.ListN.{length, get_or, set, replicate, get_or-replicate, length-replicate, get_or-eq_default}
use Rattle.meaning.specs.Cond.{if_eq}
use Rattle.meaning.proofs.Cond.{if_eq_yes, if_eq_no, eq_case, lt_case}
use Rattle.levels.specs.Levels.{union, only}
use Rattle.levels.specs.View.{row}
use Rattle.levels.proofs.Laws.{row_zero, row_at, row_with}
use Rattle.relaxing.specs.Relaxing.{none_kept, with_number}

zeros : (n k : ℕ) → ◌≡◌ {A = ℕ} (get_or (replicate n 0) k 0) 0
zeros n k = at (lt_case k n)
  where
    at : (k < n) ⊎ (n ≤ k) → ◌≡◌ {A = ℕ} (get_or (replicate n 0) k 0) 0
    at (inl h) = get_or-replicate n k 0 0 h
    at (inr h) = get_or-eq_default (replicate n 0) 0 (rw (length-replicate {A = ℕ} n 0) h)

pub none_kept_lem : (n : ℕ) → row (replicate n 0) ≡ none_kept
none_kept_lem n = fun_ext at
  where
    at : (i : ℕ) → row (replicate n 0) i ≡ false
    at zero = row_zero (replicate n 0)
    at (suc j) =
        row_at (replicate n 0) (suc j) (omega arith) ∙ ap (λ (w : ℕ). eqb (w / 2 ^ ((suc j - 1) % 64) % 2) 1) (zeros n ((suc j - 1) / 64))
        ∙ ap (λ (w : ℕ). eqb (w % 2) 1) (zero-div (2 ^ ((suc j - 1) % 64)))

one_more : (i : ℕ) (A : ℕ → Bool) → union (only i) A ≡ with_number i A
one_more i A = fun_ext (λ j. at j (eq_case j i))
  where
    at : (j : ℕ) → (j ≡ i) ⊎ (j ≢ i) → if_eq j i true false || A j ≡ if_eq j i true (A j)
    at j (inl e) = ap (λ (x : Bool). x || A j) (if_eq_yes j i true false e) ∙ sym (if_eq_yes j i true (A j) e)
    at j (inr n) = ap (λ (x : Bool). x || A j) (if_eq_no j i true false n) ∙ sym (if_eq_no j i true (A j) n)

pub with_number_lem : (ws : List ℕ) (i : ℕ) → 1 ≤ i → (i - 1) / 64 < length ws → row (set ws ((i - 1) / 64) (bit_or (get_or ws ((i - 1) / 64) 0) (2 ^ ((i - 1) % 64)))) ≡ with_number i (row ws)
with_number_lem ws i h k = row_with ws i h k ∙ one_more i (row ws)
