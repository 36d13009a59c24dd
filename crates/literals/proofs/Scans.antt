-- What is found of a list of literals, in the terms of crate `steps`: which is the first false one, or that there is none.
--   is_true, is_false, is_undefined   the tests of `steps` at the cells a
--   Says d a s r                   what the answer r says of the list s (d stands for a literal that is not there)
--   first_says                     the answer says so: each of its two cases holds exactly where it should
-- Assumes nothing.
use mathlib.Core.Path.{◌≡◌, refl, sym, ◌∙◌, ap, subst}
use mathlib.Core.Logic.{◌⊎◌, inl, inr}
use mathlib.Core.Bool.{Bool, true, false, cond, ◌||◌}
use mathlib.Core.Option.{none, some}
use mathlib.Core.List.{List, [], ◌∷◌}
use Prim.Native.Nat.{ℕ, suc, ◌+◌, ◌<◌}
use native.Mathlib.Omega.{arith}
use lib.ListN.{length, get_or}
use Rattle.meaning.specs.Lists.{Is, any}
use Rattle.meaning.proofs.Tools.{clash, cases}
use Rattle.interpretation.specs.State.{Cell}
use Rattle.interpretation.specs.declared.Value.{Value}
use Rattle.interpretation.specs.declared.Value.TheVariants.{True, False, Undefined}
use Rattle.valuing.specs.Values.{says_true, says_false, says_undefined, Lit, value}
use Rattle.steps.specs.Steps.{first_of}
use Rattle.std.specs.Prelude.{Option, Some, None}
use Rattle.literals.specs.Scan.{first_from, first_false}

abbrev pub is_true : (ℕ → Cell) → Lit → Bool
is_true a x = says_true (value a x)

abbrev pub is_false : (ℕ → Cell) → Lit → Bool
is_false a x = says_false (value a x)

abbrev pub is_undefined : (ℕ → Cell) → Lit → Bool
is_undefined a x = says_undefined (value a x)

-- literal k, from 0, is the first false one
pub record IsFirst (d : Lit) (a : ℕ → Cell) (s : List Lit) (k : ℕ) : Type 0 where
  pub within : k < length s
  pub first : first_of (is_false a) s ≡ some (get_or s k d)
  pub it_is : value a (get_or s k d) ≡ False

-- none is false
pub record IsNone (a : ℕ → Cell) (s : List Lit) : Type 0 where
  pub none_false : any (is_false a) s ≡ false
  pub no_first : first_of (is_false a) s ≡ none

abbrev pub Says : Lit → (ℕ → Cell) → List Lit → Option ℕ → Type 0
Says d a s (Some k) = IsFirst d a s k
Says d a s None = IsNone a s

-- ---- one literal at a time

pub first_none : (a : ℕ → Cell) (i : ℕ) → first_from a i [] ≡ None
unfolding first_from
first_none a i = refl

pub first_at : (a : ℕ → Cell) (i : ℕ) (x : Lit) (s : List Lit) → is_false a x ≡ true → first_from a i (x ∷ s) ≡ Some i
unfolding first_from
first_at a i x s e = rw (e, first_from)

pub first_later : (a : ℕ → Cell) (i : ℕ) (x : Lit) (s : List Lit) → is_false a x ≡ false → first_from a i (x ∷ s) ≡ first_from a (suc i) s
unfolding first_from
first_later a i x s e = rw (e, first_from)

says_false_lem : (v : Value) → says_false v ≡ true → v ≡ False
says_false_lem True h = absurd (clash h refl)
says_false_lem False h = refl
says_false_lem Undefined h = absurd (clash h refl)

-- ---- the whole list

module _ (d : Lit) (a : ℕ → Cell) where
  -- what is found where the list's first literal has index i
  abbrev Found : List Lit → ℕ → Type 0
  Found s i = ((k : ℕ) × (first_from a i s ≡ Some (i + k)) × IsFirst d a s k) ⊎ ((first_from a i s ≡ None) × IsNone a s)

  found : (s : List Lit) (i : ℕ) → Found s i
  found [] i = inr (first_none a i, record { none_false = refl; no_first = refl })
  found (x ∷ s) i = at (cases (is_false a x)) (found s (suc i))
    where
      at : Is (is_false a x) ⊎ (is_false a x ≡ false) → Found s (suc i) → Found (x ∷ s) i
      at (inl e) f =
          let z : i ≡ i + 0 = omega arith in
          inl (0, first_at a i x s e ∙ ap Some z, record { within = omega arith; first = ap (λ (b : Bool). cond b (some x) (first_of (is_false a) s)) e; it_is = says_false_lem (value a x) e })
      at (inr e) (inl (k, g, r)) =
          let z : suc i + k ≡ i + suc k = omega arith in
          inl (suc k, first_later a i x s e ∙ g ∙ ap Some z, record { within = let h = r.within in omega arith; first = ap (λ (b : Bool). cond b (some x) (first_of (is_false a) s)) e ∙ r.first; it_is = r.it_is })
      at (inr e) (inr (g, r)) =
          inr (
            first_later a i x s e ∙ g,
            record {
              none_false = ap (λ (b : Bool). b || any (is_false a) s) e ∙ r.none_false;
              no_first = ap (λ (b : Bool). cond b (some x) (first_of (is_false a) s)) e ∙ r.no_first;
            },
          )

  pub first_says : (s : List Lit) → Says d a s (first_false a s)
  first_says s = at (found s 0)
    where
      at : Found s 0 → Says d a s (first_false a s)
      at (inl (k, g, r)) = let z : 0 + k ≡ k = omega arith in subst (Says d a s) (sym (g ∙ ap Some z)) r
      at (inr (g, r)) = subst (Says d a s) (sym g) r

  -- ---- each answer by itself
  pub says_at : (s : List Lit) (k : ℕ) → first_false a s ≡ Some k → IsFirst d a s k
  says_at s k e = subst (Says d a s) e (first_says s)

  pub says_nothing : (s : List Lit) → first_false a s ≡ None → IsNone a s
  says_nothing s e = subst (Says d a s) e (first_says s)
