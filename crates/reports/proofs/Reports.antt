-- Two stores make the report, where there is room. Assumes nothing.
use mathlib.Core.Path.{◌≡◌, refl}
use mathlib.Core.List.{List, [], ◌∷◌}
use Prim.Native.Nat.{ℕ, ◌≤◌, ◌<◌}
use native.Mathlib.Omega.{arith}
use lib.ListN.{length, set}
use Rattle.reports.specs.Report.{reported, with_third}

pub short : (m n : ℕ) (l : List ℕ) → length l < 2 → l ≡ reported m n l
short m n [] h = refl
short m n (a ∷ []) h = refl
short m n (a ∷ b ∷ l) h = absurd (omega arith)

pub stored : (m n : ℕ) (l : List ℕ) → 2 ≤ length l → set (set l 0 m) 1 n ≡ reported m n l
stored m n [] h = absurd (omega arith)
stored m n (a ∷ []) h = absurd (omega arith)
stored m n (a ∷ b ∷ l) h = refl

pub no_third : (p : ℕ) (l : List ℕ) → length l < 3 → l ≡ with_third p l
no_third p [] h = refl
no_third p (a ∷ []) h = refl
no_third p (a ∷ b ∷ []) h = refl
no_third p (a ∷ b ∷ c ∷ l) h = absurd (omega arith)

pub third_stored : (p : ℕ) (l : List ℕ) → 3 ≤ length l → set l 2 p ≡ with_third p l
third_stored p [] h = absurd (omega arith)
third_stored p (a ∷ []) h = absurd (omega arith)
third_stored p (a ∷ b ∷ []) h = absurd (omega arith)
third_stored p (a ∷ b ∷ c ∷ l) h = refl
