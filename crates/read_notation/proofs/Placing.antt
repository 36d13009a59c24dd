-- Line and column, a byte at a time. Assumes nothing.
use mathlib.Core.Path.{◌≡◌, refl, sym, ap, ◌∙◌}
use mathlib.Core.Bool.{Bool, true, false}
use mathlib.Core.List.{List, ◌∷◌}
use Prim.Native.Nat.{ℕ, suc, ◌+◌, ◌-◌, ◌<◌, ◌≤◌}
use native.Mathlib.Numerals.{add-one}
use native.Mathlib.Omega.{arith}
use lib.Dec.{eqb}
use lib.ListN.{length, get_or, take, drop}
use lib.Seq.{drop-cons}
use Rattle.notation.specs.Tokens.{Place, place_after, place_of}
use Rattle.read_notation.specs.Placing.{line_after, column_after}

abbrev pub placed : ℕ → ℕ → Place
placed l k = record { line = l; column = k }

place_step : (l k b : ℕ) (bs : List ℕ) → place_after (placed l k) (b ∷ bs) ≡ place_after (placed (line_after l b) (column_after k b)) bs
unfolding place_after
place_step l k b bs = at (eqb b 10) refl
  where
    at : (t : Bool) → eqb b 10 ≡ t → place_after (placed l k) (b ∷ bs) ≡ place_after (placed (line_after l b) (column_after k b)) bs
    at true e = rw (e, add-one)
    at false e = rw (e, add-one)

pub place_on : (bs : List ℕ) (i at l k : ℕ) → i < at → i < length bs
    → place_after (placed l k) (take (at - i) (drop i bs)) ≡ place_after (placed (line_after l (get_or bs i 0)) (column_after k (get_or bs i 0))) (take (at - (i + 1)) (drop (i + 1) bs))
place_on bs i at l k g h =
    let s : at - i ≡ suc (at - (i + 1)) = omega arith in
    rw (s, drop-cons bs i 0 h) (place_step l k (get_or bs i 0) (take (at - (i + 1)) (drop (suc i) bs)) ∙ ap (λ (n : ℕ). place_after (placed (line_after l (get_or bs i 0)) (column_after k (get_or bs i 0))) (take (at - (i + 1)) (drop n bs))) (sym (add-one i)))

pub place_end : (bs : List ℕ) (i at l k : ℕ) → at ≤ i → place_after (placed l k) (take (at - i) (drop i bs)) ≡ placed l k
unfolding place_after
place_end bs i at l k g = let s : at - i ≡ 0 = omega arith in rw s

pub place_start : (bs : List ℕ) (at : ℕ) → place_after (placed 1 1) (take (at - 0) (drop 0 bs)) ≡ place_of bs at
place_start bs at = let z : at - 0 ≡ at = omega arith in ap (λ (k : ℕ). place_after (placed 1 1) (take k bs)) z

pub line_le : (l b i : ℕ) → l ≤ i + 1 → line_after l b ≤ i + 1 + 1
line_le l b i h = at (eqb b 10) refl
  where
    at : (t : Bool) → eqb b 10 ≡ t → line_after l b ≤ i + 1 + 1
    at true e = rw e (omega arith)
    at false e = rw e (omega arith)

pub column_le : (k b i : ℕ) → k ≤ i + 1 → column_after k b ≤ i + 1 + 1
column_le k b i h = at (eqb b 10) refl
  where
    at : (t : Bool) → eqb b 10 ≡ t → column_after k b ≤ i + 1 + 1
    at true e = rw e (omega arith)
    at false e = rw e (omega arith)
