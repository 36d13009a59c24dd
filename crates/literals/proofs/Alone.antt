-- Values and reasons of literals depend on what each atom is, true, false or undefined, and not on the levels kept for the atoms (crate `valuing`'s `Alike`): so the
-- steps may be lent the values alone (`valued`).
--   value_alone     a literal's value;  reason-alone, reasons-alone, atoms-alone: reasons
-- Assumes nothing.
use mathlib.Core.Path.{◌≡◌, refl, ◌∙◌, ap}
use mathlib.Core.List.{List, [], ◌∷◌}
use Prim.Native.Nat.{ℕ}
use Rattle.levels.specs.Levels.{Levels, union}
use Rattle.interpretation.specs.State.{Cell}
use Rattle.interpretation.specs.View.{cells, valued}
use Rattle.interpretation.specs.declared.Record.{Record}
use Rattle.interpretation.proofs.Laws as Laws
use Rattle.valuing.specs.Values.{Lit, value}
use Rattle.valuing.specs.Reasons.{reason_at, reason_of, reasons_of}
use Rattle.valuing.proofs.Alike.{Alike, value_alike, at_alike, reason_alike, reasons_alike}
use Rattle.literals.specs.Scan.{atoms_reason}

module _ (a b : ℕ → Cell) (h : Alike a b) where
  pub atoms_alike : (r : ℕ → Levels) (s : List ℕ) → atoms_reason a r s ≡ atoms_reason b r s
  unfolding atoms_reason
  atoms_alike r [] = refl
  atoms_alike r (p ∷ s) = ap (λ (R : Levels). union R (atoms_reason a r s)) (at_alike a b h r p) ∙ ap (union (reason_at (b p) (r p))) (atoms_alike r s)

-- ---- the values alone

module _ (vs : List ℕ) (rs : List Record) where
  same : Alike (cells vs rs) (valued vs)
  same = Laws.value_alone vs rs

  pub value_alone : (x : Lit) → value (cells vs rs) x ≡ value (valued vs) x
  value_alone = value_alike (cells vs rs) (valued vs) same

  pub reason_alone : (r : ℕ → Levels) (x : Lit) → reason_of (cells vs rs) r x ≡ reason_of (valued vs) r x
  reason_alone = reason_alike (cells vs rs) (valued vs) same

  pub reasons_alone : (r : ℕ → Levels) (s : List Lit) → reasons_of (cells vs rs) r s ≡ reasons_of (valued vs) r s
  reasons_alone = reasons_alike (cells vs rs) (valued vs) same

  pub atoms_alone : (r : ℕ → Levels) (s : List ℕ) → atoms_reason (cells vs rs) r s ≡ atoms_reason (valued vs) r s
  atoms_alone = atoms_alike (cells vs rs) (valued vs) same
