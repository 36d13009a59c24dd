-- Words of rows: two that have no bit in common, and one that is 0. Assumes nothing.
use mathlib.Core.Path.{◌≡◌, sym, ap, ◌∙◌, subst}
use mathlib.Core.Bool.{Bool, true, false}
use mathlib.Core.List.{List}
use Prim.Native.Nat.{ℕ, ◌-◌, ◌/◌, ◌%◌, ◌^◌, ◌≤◌, ◌<◌, min}
use native.Mathlib.Nat.{zero-div}
use native.Mathlib.Omega.{arith}
use lib.Bits.{bit_and, and_shr, and_step}
use lib.ListN.{length, get_or}
use borrow.Author.Tests.{eqb-true, ne_eqb}
use Rattle.std.specs.Bool.{MatchBool}
use Rattle.std.specs.List.{zip, HoldsAt, AllWithin}
use Rattle.std.proofs.lemmas.Bool.{false≢true}
use Rattle.std.proofs.lemmas.Slice.Zip.{length-zip, get_or-zip}
use Rattle.levels.specs.View.{row}
use Rattle.levels.proofs.Laws.{row_at}
use Rattle.reach.specs.Visits.{Apart}

and_bit : (a b k : ℕ) → bit_and a b / 2 ^ k % 2 ≡ min (a / 2 ^ k % 2) (b / 2 ^ k % 2)
and_bit a b k = rw (and_shr a b k) (omega (arith, and_step (a / 2 ^ k) (b / 2 ^ k)))

-- a word that is 0 has no bit
no_bit : (w k : ℕ) → w ≡ 0 → w / 2 ^ k % 2 ≡ 0
no_bit w k e = ap (λ (x : ℕ). x / 2 ^ k % 2) e ∙ ap (λ (x : ℕ). x % 2) (zero-div (2 ^ k))

pub row_off : (ws : List ℕ) (l : ℕ) → 1 ≤ l → get_or ws ((l - 1) / 64) 0 ≡ 0 → row ws l ≡ false
row_off ws l h e =
    let z = no_bit (get_or ws ((l - 1) / 64) 0) ((l - 1) % 64) e in
    row_at ws l h ∙ ne_eqb (get_or ws ((l - 1) / 64) 0 / 2 ^ ((l - 1) % 64) % 2) 1 (λ d. omega (arith, z))

-- ---- no bit in common

pub rows_apart : (a b : List ℕ) → ((k : ℕ) → k < 4 → bit_and (get_or a k 0) (get_or b k 0) ≡ 0) → Apart (row a) (row b)
rows_apart a b f l i x y =
    let k = (l - 1) / 64 in
    let m = (l - 1) % 64 in
    let z = f k (omega (arith, i.1)) in
    let u : get_or a k 0 / 2 ^ m % 2 ≡ 1 = eqb-true _ _ (sym (row_at a l i.0) ∙ x) in
    let v : get_or b k 0 / 2 ^ m % 2 ≡ 1 = eqb-true _ _ (sym (row_at b l i.0) ∙ y) in
    let w : min (get_or a k 0 / 2 ^ m % 2) (get_or b k 0 / 2 ^ m % 2) ≡ 0 = sym (and_bit (get_or a k 0) (get_or b k 0) m) ∙ no_bit (bit_and (get_or a k 0) (get_or b k 0)) m z in
    omega (arith, u, v, w)

-- from what the walk over pairs of words says
pub apart_from : (r : Bool) (a b : List ℕ) → length a ≡ 4 → length b ≡ 4
    → MatchBool r (AllWithin (λ (p : ℕ × ℕ). bit_and p.0 p.1 ≡ 0) (zip a b) 0 (length (zip a b))) ((k : ℕ) × (k < length (zip a b)) × HoldsAt (λ (p : ℕ × ℕ). Unit {0}) (zip a b) k)
    → r ≡ true → Apart (row a) (row b)
apart_from false a b m n h e = absurd (false≢true e)
apart_from true a b m n h e =
    rows_apart a b (λ k s. subst (λ (p : ℕ × ℕ). bit_and p.0 p.1 ≡ 0) (get_or-zip a b k (0, 0) (omega arith) (omega arith)) (h k (0, 0) (omega arith) (omega (arith, length-zip a b))))
