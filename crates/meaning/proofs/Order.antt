-- The order of answer sets is a strict total order on interpretations over the atoms 1 to n, so that the first one is unique.
--   before-irreflexive, before-transitive, before-asymmetric, before-total    the order
--   first_unique      two that both come first are equal
-- Assumes nothing.
use mathlib.Core.Path.{◌≡◌, sym, ◌∙◌, ap}
use mathlib.Core.Logic.{◌≢◌, ◌⊎◌, inl, inr}
use mathlib.Core.Bool.{true, false}
use Prim.Native.Nat.{ℕ, zero, suc, ◌≤◌, ◌<◌}
use native.Mathlib.Omega.{arith}
use Rattle.meaning.specs.Aggregates.{Atoms}
use Rattle.meaning.specs.Answers.{Before, First}
use Rattle.meaning.proofs.Tools.{clash}
use Rattle.meaning.proofs.Cond.{lt_case, eq_case, bool_case}

-- the two make the same atoms of 1 .. n true
abbrev pub Same : ℕ → Atoms → Atoms → Type 0
Same n X Z = (q : ℕ) → 1 ≤ q → q ≤ n → X q ≡ Z q

pub before_irreflexive : (n : ℕ) (X : Atoms) → Before n X X → ⊥
before_irreflexive n X b = clash b.here b.there

pub before_transitive : (n : ℕ) (X Y Z : Atoms) → Before n X Y → Before n Y Z → Before n X Z
before_transitive n X Y Z b c = at (lt_case b.at c.at) (eq_case b.at c.at)
  where
    at : (b.at < c.at) ⊎ (c.at ≤ b.at) → (b.at ≡ c.at) ⊎ (b.at ≢ c.at) → Before n X Z
    at (inl h) e = record {
      at = b.at;
      inside = b.inside;
      same = λ q y l. b.same q y l ∙ c.same q y (omega arith);
      here = b.here;
      there = sym (c.same b.at b.inside.0 h) ∙ b.there;
    }
    at (inr h) (inl e) = absurd (clash c.here (ap Y (sym e) ∙ b.there))
    at (inr h) (inr d) =
        let l : c.at < b.at = omega (arith, d) in
        record { at = c.at; inside = c.inside; same = λ q y k. b.same q y (omega arith) ∙ c.same q y k; here = b.same c.at c.inside.0 l ∙ c.here; there = c.there }

pub before_asymmetric : (n : ℕ) (X Z : Atoms) → Before n X Z → Before n Z X → ⊥
before_asymmetric n X Z b c = before_irreflexive n X (before_transitive n X Z X b c)

-- it holds of more atoms
before_more : (n : ℕ) (X Z : Atoms) → Before n X Z → Before (suc n) X Z
before_more n X Z b = record { at = b.at; inside = (b.inside.0, let h = b.inside.1 in omega arith); same = b.same; here = b.here; there = b.there }

-- any two are the same, or one comes before the other
pub before_total : (n : ℕ) (X Z : Atoms) → Same n X Z ⊎ (Before n X Z ⊎ Before n Z X)
before_total zero X Z = inl (λ q y l. absurd (omega arith))
before_total (suc n) X Z = at (before_total n X Z)
  where
    more : Same n X Z → X (suc n) ≡ Z (suc n) → Same (suc n) X Z
    more s e q y l = all (eq_case q (suc n))
      where
        all : (q ≡ suc n) ⊎ (q ≢ suc n) → X q ≡ Z q
        all (inl h) = ap X h ∙ e ∙ sym (ap Z h)
        all (inr d) = s q y (omega (arith, d))

    top : Same n X Z → (X (suc n) ≡ true) ⊎ (X (suc n) ≡ false) → (Z (suc n) ≡ true) ⊎ (Z (suc n) ≡ false) → Same (suc n) X Z ⊎ (Before (suc n) X Z ⊎ Before (suc n) Z X)
    top s (inl x) (inl z) = inl (more s (x ∙ sym z))
    top s (inr x) (inr z) = inl (more s (x ∙ sym z))
    top s (inl x) (inr z) = inr (inl (record { at = suc n; inside = (omega arith, omega arith); same = λ q y l. s q y (omega arith); here = x; there = z }))
    top s (inr x) (inl z) = inr (inr (record { at = suc n; inside = (omega arith, omega arith); same = λ q y l. sym (s q y (omega arith)); here = z; there = x }))

    at : Same n X Z ⊎ (Before n X Z ⊎ Before n Z X) → Same (suc n) X Z ⊎ (Before (suc n) X Z ⊎ Before (suc n) Z X)
    at (inl s) = top s (bool_case (X (suc n))) (bool_case (Z (suc n)))
    at (inr (inl b)) = inr (inl (before_more n X Z b))
    at (inr (inr b)) = inr (inr (before_more n Z X b))

pub first_unique : (n : ℕ) (AS : Atoms → Type 0) (X Z : Atoms) → AS X → First n AS X → AS Z → First n AS Z → X ≡ Z
first_unique n AS X Z a f b g = at (f Z b) (g X a)
  where
    at : (X ≡ Z) ⊎ Before n X Z → (Z ≡ X) ⊎ Before n Z X → X ≡ Z
    at (inl e) k = e
    at (inr c) (inl e) = sym e
    at (inr c) (inr d) = absurd (before_asymmetric n X Z c d)
