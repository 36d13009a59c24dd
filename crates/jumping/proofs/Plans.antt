-- The plan and the lowest undefined atom are read off the values alone. Assumes nothing.
use mathlib.Core.Path.{◌≡◌, refl, ap, ◌∙◌, fun_ext}
use mathlib.Core.Bool.{Bool, false}
use mathlib.Core.Option.{Option, none, some}
use mathlib.Core.List.{List}
use Prim.Native.Nat.{ℕ, zero, suc}
use Rattle.meaning.specs.Cond.{if_lt}
use Rattle.interpretation.specs.State.{truth_of, true_atoms, lowest_step, lowest}
use Rattle.interpretation.specs.View.{cells, cell_by, blank, valued}
use Rattle.interpretation.specs.declared.Record.{Record}
use lib.ListN.{get_or}

truth_by : (v k l : ℕ) → truth_of (cell_by v k) ≡ truth_of (cell_by v l)
truth_by zero k l = refl
truth_by (suc zero) k l = refl
truth_by (suc (suc v)) k l = refl

truth_alone : (vs : List ℕ) (rs : List Record) (p : ℕ) → truth_of (cells vs rs p) ≡ truth_of (valued vs p)
unfolding cells
truth_alone vs rs zero = refl
truth_alone vs rs (suc i) = truth_by (get_or vs i 0) (get_or rs i blank).level 0

pub plan_alone : (n : ℕ) (vs : List ℕ) (rs : List Record) → true_atoms n (cells vs rs) ≡ true_atoms n (valued vs)
plan_alone n vs rs = fun_ext at
  where
    at : (p : ℕ) → true_atoms n (cells vs rs) p ≡ true_atoms n (valued vs) p
    at zero = refl
    at (suc q) = ap (λ (b : Bool). if_lt q n b false) (truth_alone vs rs (suc q))

-- ---- the lowest undefined atom

step_by_lem : (o : Option ℕ) (n v k l : ℕ) → lowest_step o n (cell_by v k) ≡ lowest_step o n (cell_by v l)
step_by_lem (some p) n v k l = refl
step_by_lem none n zero k l = refl
step_by_lem none n (suc zero) k l = refl
step_by_lem none n (suc (suc v)) k l = refl

pub lowest_alone : (n : ℕ) (vs : List ℕ) (rs : List Record) → lowest (cells vs rs) n ≡ lowest (valued vs) n
unfolding lowest cells
lowest_alone zero vs rs = refl
lowest_alone (suc n) vs rs =
    ap (λ (o : Option ℕ). lowest_step o (suc n) (cell_by (get_or vs n 0) (get_or rs n blank).level)) (lowest_alone n vs rs) ∙ step_by_lem (lowest (valued vs) n) (suc n) (get_or vs n 0) (get_or rs n blank).level 0
