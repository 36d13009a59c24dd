-- The cells at the start, one atom after the other. Assumes nothing.
use Prim.Native.Nat.{ℕ, zero, suc, ◌≤◌, ◌<◌}
use native.Mathlib.Omega.{arith}
use mathlib.Core.Path.{◌≡◌, refl, sym, ap, ◌∙◌, fun_ext}
use mathlib.Core.Logic.{◌≢◌, ◌⊎◌, inl, inr}
use mathlib.Core.Bool.{Bool, true, false}
use mathlib.Core.Option.{none}
use Rattle.meaning.specs.Cond.{if_lt}
use Rattle.meaning.specs.Aggregates.{Atoms}
use Rattle.meaning.proofs.Cond.{if_lt_yes, if_lt_no, if_eq_yes, if_eq_no, eq_case, lt_case}
use Rattle.interpretation.specs.State.{undefined, defined, put}
use Rattle.search.specs.Search.{pinned_cell}
use Rattle.smaller.specs.Smaller.{given, others}
use Rattle.second_search.specs.Looking.{start_cells}

module _ (X : Atoms) where
  none_yet : (p : ℕ) → start_cells 0 X p ≡ undefined
  unfolding others
  none_yet zero = refl
  none_yet (suc q) = ap pinned_cell (if_lt_no q 0 (given (X (suc q))) none (omega arith))

  pub start_none : start_cells 0 X ≡ (λ p. undefined)
  start_none = fun_ext none_yet

  module _ (i : ℕ) where
    -- any other atom is as before
    other : (p : ℕ) → p ≢ suc i → start_cells (suc i) X p ≡ start_cells i X p
    unfolding others
    other zero h = refl
    other (suc q) h = at (lt_case q i)
      where
        at : (q < i) ⊎ (i ≤ q) → pinned_cell (if_lt q (suc i) (given (X (suc q))) none) ≡ pinned_cell (if_lt q i (given (X (suc q))) none)
        at (inl k) = ap pinned_cell (if_lt_yes q (suc i) (given (X (suc q))) none (omega arith) ∙ sym (if_lt_yes q i (given (X (suc q))) none k))
        at (inr k) = ap pinned_cell (if_lt_no q (suc i) (given (X (suc q))) none (past k (eq_case q i)) ∙ sym (if_lt_no q i (given (X (suc q))) none k))
          where
            past : i ≤ q → (q ≡ i) ⊎ (q ≢ i) → suc i ≤ q
            past k (inl e) = absurd (h (ap suc e))
            past k (inr m) = omega arith

    here : (b : Bool) → X (suc i) ≡ b → start_cells (suc i) X (suc i) ≡ pinned_cell (given b)
    unfolding others
    here b e = ap pinned_cell (if_lt_yes i (suc i) (given (X (suc i))) none (omega arith) ∙ ap given e)

    before : start_cells i X (suc i) ≡ undefined
    unfolding others
    before = ap pinned_cell (if_lt_no i i (given (X (suc i))) none (omega arith))

    pub start_out : X (suc i) ≡ false → start_cells (suc i) X ≡ put (suc i) (defined false 0) (start_cells i X)
    start_out e = fun_ext (λ p. at p (eq_case p (suc i)))
      where
        at : (p : ℕ) → (p ≡ suc i) ⊎ (p ≢ suc i) → start_cells (suc i) X p ≡ put (suc i) (defined false 0) (start_cells i X) p
        at p (inl h) = ap (start_cells (suc i) X) h ∙ here false e ∙ sym (if_eq_yes p (suc i) (defined false 0) (start_cells i X p) h)
        at p (inr h) = other p h ∙ sym (if_eq_no p (suc i) (defined false 0) (start_cells i X p) h)

    pub start_in : X (suc i) ≡ true → start_cells (suc i) X ≡ start_cells i X
    start_in e = fun_ext (λ p. at p (eq_case p (suc i)))
      where
        at : (p : ℕ) → (p ≡ suc i) ⊎ (p ≢ suc i) → start_cells (suc i) X p ≡ start_cells i X p
        at p (inl h) = ap (start_cells (suc i) X) h ∙ here true e ∙ sym (ap (start_cells i X) h ∙ before)
        at p (inr h) = other p h
