-- From the passes' last working state to what propagation hands over. Assumes nothing.
--   Handed   the interpretation, the reasons, the verdict and the number of passes are those of the defined propagation
use Prim.Native.Nat.{ℕ, suc}
use mathlib.Core.Path.{◌≡◌, sym, ap, subst}
use mathlib.Core.Bool.{Bool, false}
use mathlib.Core.List.{List}
use Rattle.meaning.specs.Program.{Program}
use Rattle.levels.specs.View.{row, rows}
use Rattle.interpretation.specs.State.{with_cells}
use Rattle.interpretation.specs.View.{view, cells}
use Rattle.interpretation.specs.declared.Interpretation.{Interpretation}
use Rattle.outcome.specs.declared.Outcome.{Outcome}
use Rattle.steps.specs.Steps.{Work, Propagated, passes, passes_made, propagate}
use Rattle.propagation.specs.Propagation.{work, verdict_by}
use Rattle.propagation.proofs.Stepped.{Kept, kept_cells}

module _ (P : Program) (n : ℕ) (it0 : Interpretation) (rows0 : List (List ℕ)) where
  -- what the defined propagation comes to from there
  abbrev pub result : Propagated
  result = propagate P n (view it0) (rows rows0)

  pub record Handed (made : ℕ) (it : Interpretation) (reasons : List (List ℕ)) (why : List ℕ) (out : Outcome) : Type 0 where
    pub state : view it ≡ with_cells (view it0) result.cell
    pub reasoned : rows reasons ≡ result.reason
    pub verdict : verdict_by out (row why) ≡ result.verdict
    pub passes : made ≡ result.passes

  pub handed : (made : ℕ) (it : Interpretation) (reasons : List (List ℕ)) (why : List ℕ) (out : Outcome) (b : Bool) → Kept (view it0) (view it)
      → record { level = it.depth; cell = cells it.values it.records; reason = rows reasons; verdict = verdict_by out (row why); changed = b }
      ≡ passes P n (suc n) (work it0 rows0 false)
      → made ≡ passes_made P n (suc n) (work it0 rows0 false) → Handed made it reasons why out
  unfolding propagate
  handed made it reasons why out b k e m = record {
    state = kept_cells (view it0) (view it) _ k (ap (λ (w : Work). w.cell) e);
    reasoned = ap (λ (w : Work). w.reason) e;
    verdict = ap (λ (w : Work). w.verdict) e;
    passes = m;
  }

  pub carried : {made : ℕ} {it it' : Interpretation} {reasons reasons' : List (List ℕ)} {why why' : List ℕ} {out out' : Outcome} → it ≡ it' → reasons ≡ reasons' → why ≡ why' → out ≡ out'
      → Handed made it' reasons' why' out' → Handed made it reasons why out
  carried {made} {it} {it'} {reasons} {reasons'} {why} {why'} {out} {out'} e f g h x =
      subst (λ (i : Interpretation). Handed made i reasons why out) (sym e)
      (subst (λ (r : List (List ℕ)). Handed made it' r why out) (sym f)
      (subst (λ (y : List ℕ). Handed made it' reasons' y out) (sym g)
      (subst (λ (o : Outcome). Handed made it' reasons' why' o) (sym h) x)))
