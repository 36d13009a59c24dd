-- Tests, and tests on lists. Definitions only.
--   Is b        the test b passes
--   x ∈ l       x is a member of l
--   all, any    all members, some member, pass a test;  keep: those that do;  has p l: p is among the numbers l
-- All of them are to be believed.
-- Assumes nothing.
use Rattle.std.specs.Prelude.{◌≡◌, Bool, true, false, ◌&&◌, ◌||◌, ℕ, eqb}
use mathlib.Core.List.{List, [], ◌∷◌, Memᴰ}

abbrev pub Is : Bool → Type 0
Is b = b ≡ true

infix 40 ◌∈◌
abbrev pub ◌∈◌ {ℓ} : {A : Type ℓ} → A → List A → Type ℓ
x ∈ l = Memᴰ x l

module _ {A : Type 0} where
  abbrev pub all : (A → Bool) → List A → Bool
  all f [] = true
  all f (x ∷ xs) = f x && all f xs

  abbrev pub any : (A → Bool) → List A → Bool
  any f [] = false
  any f (x ∷ xs) = f x || any f xs

  abbrev pub cons_if : Bool → A → List A → List A
  cons_if true x xs = x ∷ xs
  cons_if false x xs = xs

  abbrev pub keep : (A → Bool) → List A → List A
  keep f [] = []
  keep f (x ∷ xs) = cons_if (f x) x (keep f xs)

unfoldable pub has : ℕ → List ℕ → Bool
has p l = any (eqb p) l
