-- What is known of a cell, and of one that is undone. Assumes nothing.
use Prim.Native.Nat.{ℕ, ◌≤◌, ◌<◌}
use mathlib.Core.Path.{◌≡◌, refl}
use mathlib.Core.Logic.{◌⊎◌, inl, inr}
use mathlib.Core.Bool.{Bool}
use native.Mathlib.Omega.{arith}
use Rattle.meaning.proofs.Cond.{if_lt_yes, if_lt_no, lt_case}
use Rattle.interpretation.specs.State.{Cell, undefined, defined, undone}

pub cell_case : (c : Cell) → (c ≡ undefined) ⊎ ((v : Bool) × (l : ℕ) × (c ≡ defined v l))
cell_case undefined = inl refl
cell_case (defined v l) = inr (v, l, refl)

pub not_defined : {c : Cell} {v : Bool} {l : ℕ} → c ≡ undefined → c ≡ defined v l → ⊥
not_defined e f = let z : ◌≡◌ {A = ℕ} 0 1 = cc in omega arith

pub same_level : {c : Cell} {v w : Bool} {l k : ℕ} → c ≡ defined v l → c ≡ defined w k → l ≡ k
same_level e f = cc

pub same_val : {c : Cell} {v w : Bool} {l k : ℕ} → c ≡ defined v l → c ≡ defined w k → v ≡ w
same_val e f = cc

-- an atom is kept by an undo from level m on exactly if its level is below m
pub undone_yes : (m : ℕ) (c : Cell) (v : Bool) (l : ℕ) → c ≡ defined v l → l < m → undone m c ≡ defined v l
unfolding undone
undone_yes m c v l e h = rw e (if_lt_yes l m (defined v l) undefined h)

pub undone_undefined : (m : ℕ) (c : Cell) → c ≡ undefined → undone m c ≡ undefined
unfolding undone
undone_undefined m c e = rw e refl

pub undone_no : (m : ℕ) (c : Cell) (v : Bool) (l : ℕ) → c ≡ defined v l → m ≤ l → undone m c ≡ undefined
unfolding undone
undone_no m c v l e h = rw e (if_lt_no l m (defined v l) undefined h)

pub undone_defined : (m : ℕ) (c : Cell) (v : Bool) (l : ℕ) → undone m c ≡ defined v l → (c ≡ defined v l) × (l < m)
undone_defined m c v l e = cases (cell_case c)
  where
    at : (w : Bool) (k : ℕ) → c ≡ defined w k → (k < m) ⊎ (m ≤ k) → (c ≡ defined v l) × (l < m)
    at w k f (inl h) =
        let g : undone m c ≡ defined w k = undone_yes m c w k f h in
        let s : l ≡ k = same_level e g in
        (cc, omega arith)
    at w k f (inr h) = absurd (not_defined (undone_no m c w k f h) e)

    cases : (c ≡ undefined) ⊎ ((w : Bool) × (k : ℕ) × (c ≡ defined w k)) → (c ≡ defined v l) × (l < m)
    cases (inl u) = absurd (not_defined (undone_undefined m c u) e)
    cases (inr (w, k, f)) = at w k f (lt_case k m)
