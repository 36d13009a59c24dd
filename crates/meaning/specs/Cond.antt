-- If-then-else on a test of numbers. Shut, so that goals stay readable; `proofs/Cond.antt` has the two laws of each. Definitions only.
-- All of them are to be believed.
-- Assumes nothing.
use Rattle.std.specs.Prelude.{ℕ, cond, ltb, eqb}

unfoldable pub if_lt {ℓ} : {A : Type ℓ} → ℕ → ℕ → A → A → A
if_lt a b x y = cond (ltb a b) x y

unfoldable pub if_eq {ℓ} : {A : Type ℓ} → ℕ → ℕ → A → A → A
if_eq a b x y = cond (eqb a b) x y
