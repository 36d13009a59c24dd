-- The codes of functions and comparisons. Assumes nothing.
use mathlib.Core.Path.{◌≡◌, refl}
use Prim.Native.Nat.{ℕ, zero, suc}
use Rattle.meaning.specs.declared.Function.TheVariants.{Max}
use Rattle.meaning.specs.declared.Comparison.TheVariants.{Greater}
use Rattle.layout.specs.Layout.{function_by, comparison_by}

pub function_max : (n : ℕ) → (n ≡ 0 → ⊥) → (n ≡ 1 → ⊥) → (n ≡ 2 → ⊥) → function_by n ≡ Max
function_max zero a b c = absurd (a refl)
function_max (suc zero) a b c = absurd (b refl)
function_max (suc (suc zero)) a b c = absurd (c refl)
function_max (suc (suc (suc n))) a b c = refl

pub comparison_greater : (n : ℕ) → (n ≡ 0 → ⊥) → comparison_by n ≡ Greater
comparison_greater zero a = absurd (a refl)
comparison_greater (suc n) a = refl
