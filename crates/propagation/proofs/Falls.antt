-- Setting an undefined atom of 1 .. n leaves fewer of them undefined.
-- Assumes nothing.
use Prim.Native.Nat.{ℕ, zero, suc, ◌<◌}
use native.Mathlib.Omega.{arith}
use mathlib.Core.Path.{◌≡◌, refl, sym, ap, ◌∙◌}
use mathlib.Core.Logic.{◌⊎◌, inl, inr, ◌≢◌}
use mathlib.Core.Bool.{Bool, true}
use Rattle.meaning.specs.Lists.{Is}
use Rattle.meaning.specs.Program.{In}
use Rattle.meaning.proofs.Cond.{if_eq_yes, if_eq_no, eq_case}
use Rattle.meaning.proofs.Tools.{clash, number, number_lt}
use Rattle.interpretation.specs.State.{Cell, undefined, defined, put}
use Rattle.interpretation.specs.View.{cell_value}
use Rattle.valuing.specs.Values.{says_undefined}
use Rattle.steps.proofs.Ending.{missing}
use Rattle.steps.proofs.Lits.{atom_defined}

module _ (a : ℕ → Cell) (v : Bool) (l : ℕ) where
  other : (q p : ℕ) → (suc q ≡ p) ⊎ (suc q ≢ p) → Is (missing (put p (defined v l) a) q) → Is (missing a q)
  unfolding missing
  other q p (inl e) h = absurd (clash h (atom_defined true (put p (defined v l) a (suc q)) v l (if_eq_yes (suc q) p (defined v l) (a (suc q)) e)))
  other q p (inr n) h = sym (ap (λ (c : Cell). says_undefined (cell_value c)) (if_eq_no (suc q) p (defined v l) (a (suc q)) n)) ∙ h

  pub set_fewer : (n p : ℕ) → In n p → a p ≡ undefined → number n (missing (put p (defined v l) a)) < number n (missing a)
  unfolding missing
  set_fewer n zero i u = absurd (omega (arith, i.0))
  set_fewer n (suc p) i u =
      number_lt n (missing (put (suc p) (defined v l) a)) (missing a) (λ q k h. other q (suc p) (eq_case (suc q) (suc p)) h) p (omega (arith, i.1))
      (atom_defined true (put (suc p) (defined v l) a (suc p)) v l (if_eq_yes (suc p) (suc p) (defined v l) (a (suc p)) refl))
      (ap (λ (c : Cell). says_undefined (cell_value c)) u)
