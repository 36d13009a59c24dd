-- What a side of a choice holds depends on the values alone: neither on levels nor on reasons.
--   tries_alike      a side tried from interpretations whose cells are alike says the same
-- Assumes nothing.
use Prim.Native.Nat.{ℕ, zero, suc, ◌-◌}
use mathlib.Core.Path.{◌≡◌, refl, sym, ◌∙◌, ap, ap₂, fun_ext}
use mathlib.Core.Bool.{Bool, true, false}
use mathlib.Core.Option.{Option, none, some}
use Rattle.meaning.specs.Cond.{if_lt}
use Rattle.meaning.specs.Aggregates.{Atoms}
use Rattle.meaning.specs.Program.{Program}
use Rattle.meaning.proofs.Tools.{clash}
use Rattle.interpretation.specs.State.{Cell, undefined, defined, Interpretation, set_at, lowest, lowest_step, truth_of, true_atoms, with_cells}
use Rattle.interpretation.specs.View.{cell_value}
use Rattle.interpretation.specs.declared.Value.{Value}
use Rattle.interpretation.specs.declared.Value.TheVariants.{True, False, Undefined}
use Rattle.valuing.specs.Values.{says_true}
use Rattle.steps.specs.Steps.{Verdict, settled, conflict, is_settled, propagate}
use Rattle.search.specs.Search.{opened_as}
use Rattle.search.specs.Engine.{Tried, halted, no_reasons, by_test, or_other, opens, goes_on, tries}
use Rattle.smaller.specs.Cyclic.{test_by, base_by}
use Rattle.plain.specs.Passes.{Alike}
use Rattle.plain.proofs.Liking.{put_alike, propagate_cells, propagate_verdict}

-- ---- what the values alone say

truth_by : (c : Cell) → truth_of c ≡ says_true (cell_value c)
truth_by undefined = refl
truth_by (defined true l) = refl
truth_by (defined false l) = refl

-- the lowest undefined atom, by an atom's value
abbrev lowest_by : Option ℕ → ℕ → Value → Option ℕ
lowest_by (some p) n v = some p
lowest_by none n Undefined = some n
lowest_by none n True = none
lowest_by none n False = none

lowest_by_lem : (o : Option ℕ) (n : ℕ) (c : Cell) → lowest_step o n c ≡ lowest_by o n (cell_value c)
lowest_by_lem (some p) n c = refl
lowest_by_lem none n undefined = refl
lowest_by_lem none n (defined true l) = refl
lowest_by_lem none n (defined false l) = refl

module _ (a b : ℕ → Cell) (h : Alike a b) where
  pub true_alike : (n : ℕ) → true_atoms n a ≡ true_atoms n b
  true_alike n = fun_ext at
    where
      at : (p : ℕ) → true_atoms n a p ≡ true_atoms n b p
      at zero = refl
      at (suc q) = ap (λ (x : Bool). if_lt q n x false) (truth_by (a (suc q)) ∙ ap says_true (h (suc q)) ∙ sym (truth_by (b (suc q))))

  pub lowest_alike : (n : ℕ) → lowest a n ≡ lowest b n
  unfolding lowest
  lowest_alike zero = refl
  lowest_alike (suc n) =
      lowest_by_lem (lowest a n) (suc n) (a (suc n)) ∙ ap₂ (λ (o : Option ℕ) (v : Value). lowest_by o (suc n) v) (lowest_alike n) (h (suc n))
      ∙ sym (lowest_by_lem (lowest b n) (suc n) (b (suc n)))

-- ---- a side depends on the values alone

module _ (cycles : Bool) (P : Program) (n lim : ℕ) where
  abbrev Same : ℕ → Type 0
  Same u = (i j : Interpretation) (k : ℕ) → Alike i.cell j.cell → tries (base_by cycles P n) lim u i k ≡ tries (base_by cycles P n) lim u j k

  module _ (u : ℕ) (rec : Same u) where
    abbrev side : Interpretation → ℕ → Tried
    side = tries (base_by cycles P n) lim u

    opens_at : (i j : Interpretation) (k : ℕ) → Alike i.cell j.cell → (o : Option ℕ) → opens (base_by cycles P n) lim side i k o ≡ opens (base_by cycles P n) lim side j k o
    opens_at i j k h none = ap (λ (X : Atoms). by_test X k (test_by cycles P n (lim - k) X)) (true_alike i.cell j.cell h n)
    opens_at i j k h (some p) =
        ap (λ (r : Tried). if_lt k lim r halted)
        (ap₂ or_other (rec (opened_as true p i) (opened_as true p j) (suc k) (put_alike p true (suc i.level) (suc j.level) i.cell j.cell h))
        (fun_ext (λ m. rec (set_at p false i) (set_at p false j) m (put_alike p false i.level j.level i.cell j.cell h))))

    opens_alike : (i j : Interpretation) (k : ℕ) → Alike i.cell j.cell → opens (base_by cycles P n) lim side i k (lowest i.cell n) ≡ opens (base_by cycles P n) lim side j k (lowest j.cell n)
    opens_alike i j k h = opens_at i j k h (lowest i.cell n) ∙ ap (opens (base_by cycles P n) lim side j k) (lowest_alike i.cell j.cell h n)

    pub goes_alike : (i j : Interpretation) (k : ℕ) → Alike i.cell j.cell → (v w : Verdict) → is_settled v ≡ is_settled w → goes_on (base_by cycles P n) lim side i k v ≡ goes_on (base_by cycles P n) lim side j k w
    goes_alike i j k h settled settled e = opens_alike i j k h
    goes_alike i j k h settled (conflict C) e = absurd (clash (sym e) refl)
    goes_alike i j k h (conflict C) settled e = absurd (clash e refl)
    goes_alike i j k h (conflict C) (conflict D) e = refl

  pub tries_alike : (u : ℕ) → Same u
  unfolding tries
  tries_alike zero i j k h = refl
  tries_alike (suc u) i j k h =
      goes_alike u (tries_alike u) (with_cells i (propagate P n i no_reasons).cell) (with_cells j (propagate P n j no_reasons).cell) k (propagate_cells P n i j no_reasons no_reasons h)
      (propagate P n i no_reasons).verdict (propagate P n j no_reasons).verdict (propagate_verdict P n i j no_reasons no_reasons h)
