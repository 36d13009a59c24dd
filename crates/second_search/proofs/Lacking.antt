-- Whether an atom is lacking among the first ones; and the true atoms, and the lowest undefined one, by the values alone. Assumes nothing.
use Prim.Native.Nat.{ℕ, zero, suc, ◌-◌, ◌≤◌, ◌<◌}
use native.Mathlib.Omega.{arith}
use mathlib.Core.Path.{◌≡◌, refl, sym, ap, ap₂, ◌∙◌, fun_ext}
use mathlib.Core.Bool.{Bool, true, false, not, ◌&&◌, ◌||◌}
use mathlib.Core.Logic.{◌≢◌, ◌⊎◌, inl, inr}
use mathlib.Core.Option.{Option, none, some}
use mathlib.Core.List.{List}
use lib.ListN.{get_or}
use Rattle.meaning.specs.Cond.{if_lt}
use Rattle.meaning.proofs.Cond.{eq_case}
use Rattle.interpretation.specs.State.{truth_of, true_atoms, lowest, lowest_step}
use Rattle.interpretation.specs.View.{cell_by, blank, cells, valued}
use Rattle.interpretation.specs.declared.Record.{Record}
use Rattle.meaning.specs.Lists.{any}
use Rattle.meaning.specs.Aggregates.{Atoms}
use Rattle.meaning.specs.Foundedness.{atoms_to}

-- the atoms 1 .. p
abbrev pub lacks_to : Atoms → Atoms → ℕ → Bool
lacks_to X Y p = any (λ q. X q && not (Y q)) (atoms_to p)

module _ (X Y : Atoms) where
  pub lacks_none : (p : ℕ) → p ≤ 0 → lacks_to X Y p ≡ false
  lacks_none zero h = refl
  lacks_none (suc p) h = absurd (omega arith)

  pub lacks_here : (p : ℕ) → 0 < p → X p ≡ true → Y p ≡ false → lacks_to X Y p ≡ true
  lacks_here zero h x y = absurd (omega arith)
  lacks_here (suc p) h x y = ap (λ (b : Bool). b || lacks_to X Y p) (ap₂ (λ (a b : Bool). a && not b) x y)

  lacks_on : (n : ℕ) → lacks_to X Y n ≡ true → lacks_to X Y (suc n) ≡ true
  lacks_on n e = ap (λ (b : Bool). (X (suc n) && not (Y (suc n))) || b) e ∙ at (X (suc n) && not (Y (suc n)))
    where
      at : (a : Bool) → (a || true) ≡ true
      at true = refl
      at false = refl

  -- an atom of 1 .. n is lacking
  pub lacks_at : (n p : ℕ) → 0 < p → p ≤ n → X p ≡ true → Y p ≡ false → lacks_to X Y n ≡ true
  lacks_at zero p h g x y = absurd (omega arith)
  lacks_at (suc n) p h g x y = at (eq_case p (suc n)) (λ k. lacks_at n p h k x y)
    where
      at : (p ≡ suc n) ⊎ (p ≢ suc n) → (p ≤ n → lacks_to X Y n ≡ true) → lacks_to X Y (suc n) ≡ true
      at (inl e) f = ap (lacks_to X Y) (sym e) ∙ lacks_here p h x y
      at (inr m) f = lacks_on n (f (omega arith))

  pub lacks_not : (p : ℕ) → 0 < p → X p ≡ false → lacks_to X Y p ≡ lacks_to X Y (p - 1)
  lacks_not zero h x = absurd (omega arith)
  lacks_not (suc p) h x =
      let e : suc p - 1 ≡ p = omega arith in
      ap (λ (a : Bool). (a && not (Y (suc p))) || lacks_to X Y p) x ∙ ap (lacks_to X Y) (sym e)

  pub lacks_kept : (p : ℕ) → 0 < p → Y p ≡ true → lacks_to X Y p ≡ lacks_to X Y (p - 1)
  lacks_kept zero h y = absurd (omega arith)
  lacks_kept (suc p) h y =
      let e : suc p - 1 ≡ p = omega arith in
      ap (λ (b : Bool). (X (suc p) && not b) || lacks_to X Y p) y ∙ at (X (suc p)) ∙ ap (lacks_to X Y) (sym e)
    where
      at : (a : Bool) → ((a && false) || lacks_to X Y p) ≡ lacks_to X Y p
      at true = refl
      at false = refl

-- ---- the true atoms depend on the values alone

truth_by : (v k l : ℕ) → truth_of (cell_by v k) ≡ truth_of (cell_by v l)
truth_by zero k l = refl
truth_by (suc zero) k l = refl
truth_by (suc (suc v)) k l = refl

pub trues_alone : (n : ℕ) (vs : List ℕ) (rs : List Record) → true_atoms n (cells vs rs) ≡ true_atoms n (valued vs)
unfolding cells
trues_alone n vs rs = fun_ext at
  where
    at : (p : ℕ) → true_atoms n (cells vs rs) p ≡ true_atoms n (valued vs) p
    at zero = refl
    at (suc q) = ap (λ (b : Bool). if_lt q n b false) (truth_by (get_or vs q 0) (get_or rs q blank).level 0)

-- ---- so does the lowest undefined atom

step_by_lem : (o : Option ℕ) (n v k l : ℕ) → lowest_step o n (cell_by v k) ≡ lowest_step o n (cell_by v l)
step_by_lem (some p) n v k l = refl
step_by_lem none n zero k l = refl
step_by_lem none n (suc zero) k l = refl
step_by_lem none n (suc (suc v)) k l = refl

pub lowest_alone : (n : ℕ) (vs : List ℕ) (rs : List Record) → lowest (cells vs rs) n ≡ lowest (valued vs) n
unfolding lowest cells
lowest_alone zero vs rs = refl
lowest_alone (suc n) vs rs =
    ap (λ (o : Option ℕ). lowest_step o (suc n) (cell_by (get_or vs n 0) (get_or rs n blank).level)) (lowest_alone n vs rs) ∙ step_by_lem (lowest (valued vs) n) (suc n) (get_or vs n 0) (get_or rs n blank).level 0
