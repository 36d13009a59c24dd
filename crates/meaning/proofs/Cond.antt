-- The two laws of each if-then-else on numbers, and case distinctions that keep the equation.
-- Assumes nothing.
use Prim.Native.Nat.{ℕ, ◌≤◌, ◌<◌}
use mathlib.Core.Path.{◌≡◌, refl, subst}
use mathlib.Core.Logic.{◌≢◌, ◌⊎◌, inl, inr}
use mathlib.Core.Bool.{Bool, true, false, cond}
use mathlib.Core.Option.{Option, none, some}
use native.Mathlib.Decide.{ℕ_discrete, dec_lt}
use native.Mathlib.Omega.{arith}
use Rattle.meaning.specs.Cond.{if_lt, if_eq}
use lib.Dec.{T, ltb, eqb, ltb→lt, lt→ltb, eqb→eq, eqb_refl}

cond_true {ℓ} : {A : Type ℓ} (b : Bool) (x y : A) → T b → cond b x y ≡ x
cond_true true x y t = refl
cond_true false x y t = absurd t

cond_false {ℓ} : {A : Type ℓ} (b : Bool) (x y : A) → (T b → ⊥) → cond b x y ≡ y
cond_false true x y n = absurd (n tt)
cond_false false x y n = refl

module _ {ℓ} {A : Type ℓ} where
  pub if_lt_yes : (a b : ℕ) (x y : A) → a < b → if_lt a b x y ≡ x
  unfolding if_lt
  if_lt_yes a b x y h = cond_true (ltb a b) x y (lt→ltb a b h)

  pub if_lt_no : (a b : ℕ) (x y : A) → b ≤ a → if_lt a b x y ≡ y
  unfolding if_lt
  if_lt_no a b x y h = cond_false (ltb a b) x y (λ t. let k : a < b = ltb→lt a b t in omega arith)

  pub if_eq_yes : (a b : ℕ) (x y : A) → a ≡ b → if_eq a b x y ≡ x
  unfolding if_eq
  if_eq_yes a b x y h = cond_true (eqb a b) x y (subst (λ (c : ℕ). T (eqb a c)) h (eqb_refl a))

  pub if_eq_no : (a b : ℕ) (x y : A) → a ≢ b → if_eq a b x y ≡ y
  unfolding if_eq
  if_eq_no a b x y h = cond_false (eqb a b) x y (λ t. h (eqb→eq a b t))

-- ---- cases

pub eq_case : (a b : ℕ) → (a ≡ b) ⊎ (a ≢ b)
eq_case a b = go (ℕ_discrete a b)
  where
    go : Dec (a ≡ b) → (a ≡ b) ⊎ (a ≢ b)
    go (yes e) = inl e
    go (no n) = inr n

pub lt_case : (a b : ℕ) → (a < b) ⊎ (b ≤ a)
lt_case a b = go (dec_lt a b)
  where
    go : Dec (a < b) → (a < b) ⊎ (b ≤ a)
    go (yes e) = inl e
    go (no n) = inr (omega arith)

pub bool_case : (b : Bool) → (b ≡ true) ⊎ (b ≡ false)
bool_case true = inl refl
bool_case false = inr refl

pub opt_case {ℓ} : {A : Type ℓ} (o : Option A) → (o ≡ none) ⊎ ((a : A) × (o ≡ some a))
opt_case none = inl refl
opt_case (some a) = inr (a, refl)

pub some_inj {ℓ} : {A : Type ℓ} {x y : A} → some x ≡ some y → x ≡ y
some_inj e = cc
