-- How many atoms are undefined: the number that falls from call to call. It depends on the values alone, an atom that is set makes it less, and so does a pass that
-- changes something. Assumes nothing.
use Prim.Native.Nat.{ℕ, zero, suc, ◌+◌, ◌≤◌, ◌<◌}
use native.Mathlib.Omega.{arith}
use mathlib.Core.Path.{◌≡◌, refl, sym, ◌∙◌, ap, ap₂}
use mathlib.Core.Logic.{◌≢◌, ◌⊎◌, inl, inr}
use mathlib.Core.Bool.{Bool, true, false}
use Rattle.meaning.specs.Lists.{Is}
use Rattle.meaning.specs.Program.{Program, In, AtomsIn}
use Rattle.meaning.proofs.Tools.{clash, bit, number, number_le, number_lt, number_top}
use Rattle.meaning.proofs.Cond.{if_eq_yes, if_eq_no, eq_case}
use Rattle.interpretation.specs.State.{Cell, undefined, defined, put, Defined}
use Rattle.interpretation.specs.View.{cell_value}
use Rattle.interpretation.specs.declared.Value.{Value}
use Rattle.valuing.specs.Values.{says_undefined}
use Rattle.steps.specs.Steps.{Work, pass}
use Rattle.interpretation.proofs.Cells.{cell_case}
use Rattle.steps.proofs.Ending.{missing, fewer}
use Rattle.steps.proofs.Lits.{atom_defined}
use Rattle.plain.specs.Passes.{Alike, one, undefined_to}

-- ---- the same number as crates `steps` and `search` count it

one_bit : (c : Cell) → one c ≡ bit (says_undefined (cell_value c))
unfolding bit
one_bit undefined = refl
one_bit (defined true l) = refl
one_bit (defined false l) = refl

module _ (a : ℕ → Cell) where
  pub undefined_number : (n : ℕ) → undefined_to n a ≡ number n (missing a)
  unfolding undefined_to number missing
  undefined_number zero = refl
  undefined_number (suc n) = ap₂ ◌+◌ (one_bit (a (suc n))) (undefined_number n)

  pub undefined_top : (n : ℕ) → undefined_to n a ≤ n
  undefined_top n = let e = undefined_number n in let h = number_top n (missing a) in omega arith

-- ---- it depends on the values alone

pub undefined_alike : (a b : ℕ → Cell) → Alike a b → (n : ℕ) → undefined_to n a ≡ undefined_to n b
unfolding undefined_to
undefined_alike a b h zero = refl
undefined_alike a b h (suc n) =
    ap₂ ◌+◌ (one_bit (a (suc n)) ∙ ap (λ (v : Value). bit (says_undefined v)) (h (suc n)) ∙ sym (one_bit (b (suc n)))) (undefined_alike a b h n)

-- ---- it falls

module _ (a b : ℕ → Cell) (keeps : (p : ℕ) (v : Bool) (l : ℕ) → a p ≡ defined v l → Defined b p) where
  still : (q : ℕ) → Is (missing b q) → Is (missing a q)
  unfolding missing
  still q m = at (cell_case (a (suc q)))
    where
      at : (a (suc q) ≡ undefined) ⊎ ((v : Bool) × (l : ℕ) × (a (suc q) ≡ defined v l)) → Is (says_undefined (cell_value (a (suc q))))
      at (inl e) = ap (λ (c : Cell). says_undefined (cell_value c)) e
      at (inr (v, l, e)) = let t = keeps (suc q) v l e in absurd (clash m (atom_defined true (b (suc q)) t.0 t.1 t.2))

  -- what keeps the defined atoms has no more undefined ones
  pub undefined_keeps : (n : ℕ) → undefined_to n b ≤ undefined_to n a
  undefined_keeps n =
      let e = undefined_number a n in
      let f = undefined_number b n in
      let h = number_le n (missing b) (missing a) (λ q k. still q) in
      omega arith

  undefined_less : (n p : ℕ) → In n p → a p ≡ undefined → Defined b p → undefined_to n b < undefined_to n a
  unfolding missing
  undefined_less n zero i u d = absurd (omega (arith, i.0))
  undefined_less n (suc q) i u (v, l, z) =
      let e = undefined_number a n in
      let f = undefined_number b n in
      let h = number_lt n (missing b) (missing a) (λ q k. still q) q (omega (arith, i.1)) (atom_defined true (b (suc q)) v l z) (ap (λ (c : Cell). says_undefined (cell_value c)) u) in
      omega arith

pub undefined_put : (n : ℕ) (a : ℕ → Cell) (p : ℕ) (v : Bool) (l : ℕ) → In n p → a p ≡ undefined → undefined_to n (put p (defined v l) a) < undefined_to n a
undefined_put n a p v l i u = undefined_less a (put p (defined v l) a) (λ q b m z. at q b m z (eq_case q p)) n p i u (v, l, if_eq_yes p p (defined v l) (a p) refl)
  where
    at : (q : ℕ) (b : Bool) (m : ℕ) → a q ≡ defined b m → (q ≡ p) ⊎ (q ≢ p) → Defined (put p (defined v l) a) q
    at q b m e (inl h) = (v, l, if_eq_yes q p (defined v l) (a q) h)
    at q b m e (inr h) = (b, m, if_eq_no q p (defined v l) (a q) h ∙ e)

-- a pass that changes something leaves fewer
pub undefined_pass : (n : ℕ) (P : Program) → AtomsIn n P → (w : Work) → Is (pass P n w).changed → undefined_to n (pass P n w).cell < undefined_to n w.cell
undefined_pass n P A w c =
    let e = undefined_number w.cell n in
    let f = undefined_number (pass P n w).cell n in
    let h = fewer n P A w c in
    omega arith
