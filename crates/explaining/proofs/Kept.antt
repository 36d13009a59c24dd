-- Rounds and rules laid from the marks into the records of an interpretation, and read from there. Assumes nothing.
use Prim.Native.Nat.{ℕ, zero, suc, ◌+◌, ◌≤◌, ◌<◌}
use native.Mathlib.Omega.{arith}
use mathlib.Core.Path.{◌≡◌, refl, sym, ap, ◌∙◌, fun_ext}
use mathlib.Core.Logic.{◌⊎◌, inl, inr, ◌≢◌}
use mathlib.Core.List.{List}
use lib.ListN.{length, get_or, set, get_or-eq_default}
use lib.Seq.{get_or-set_same, get_or-set_other}
use Rattle.meaning.proofs.Cond.{eq_case, lt_case}
use Rattle.interpretation.specs.View.{cell_by, blank, cells}
use Rattle.interpretation.specs.declared.Record.{Record}
use Rattle.interpretation.proofs.Laws.{cells_zero, cells_suc}
use Rattle.rounds.specs.declared.Why.{Why}
use Rattle.rounds.specs.Rounds.{no_why, whys_in, Recorded}
use Rattle.explaining.specs.Kept.{why_in, kept_in}

-- ---- an array that is filled from its first element on, with what f says

abbrev pub Below : (ℕ → Why) → (ℕ → Why) → ℕ → Type 0
Below f g i = (j : ℕ) → j < i → g j ≡ f j

pub below_on : {A : Type 0} (read : A → Why) (d : A) (f : ℕ → Why) (xs : List A) (i : ℕ) (v : A) → i < length xs → read v ≡ f i
    → Below f (λ (j : ℕ). read (get_or xs j d)) i → Below f (λ (j : ℕ). read (get_or (set xs i v) j d)) (i + 1)
below_on {A} read d f xs i v h e b j l = at (eq_case j i)
  where
    at : (j ≡ i) ⊎ (j ≢ i) → read (get_or (set xs i v) j d) ≡ f j
    at (inl k) = ap (λ (n : ℕ). read (get_or (set xs i v) n d)) k ∙ ap read (get_or-set_same xs i v d h) ∙ e ∙ sym (ap f k)
    at (inr n) = ap read (get_or-set_other xs i j v d n) ∙ b j (omega (arith, n))

below_all : (f g : ℕ → Why) (n : ℕ) → Below f g n → ((j : ℕ) → n ≤ j → g j ≡ f j) → (j : ℕ) → g j ≡ f j
below_all f g n b past j = pick (lt_case j n)
  where
    pick : (j < n) ⊎ (n ≤ j) → g j ≡ f j
    pick (inl h) = b j h
    pick (inr h) = past j h

-- ---- into the records

-- a record with the level that was there changes no cell
pub cells_kept : (vs : List ℕ) (rs : List Record) (i : ℕ) (r : Record) → i < length rs → r.level ≡ (get_or rs i blank).level → cells vs (set rs i r) ≡ cells vs rs
cells_kept vs rs i r h e = fun_ext at
  where
    level : (j : ℕ) → (j ≡ i) ⊎ (j ≢ i) → (get_or (set rs i r) j blank).level ≡ (get_or rs j blank).level
    level j (inl k) =
        ap (λ (n : ℕ). (get_or (set rs i r) n blank).level) k ∙ ap (λ (x : Record). x.level) (get_or-set_same rs i r blank h)
        ∙ e ∙ ap (λ (n : ℕ). (get_or rs n blank).level) (sym k)
    level j (inr n) = ap (λ (x : Record). x.level) (get_or-set_other rs i j r blank n)

    at : (p : ℕ) → cells vs (set rs i r) p ≡ cells vs rs p
    at zero = cells_zero vs (set rs i r) ∙ sym (cells_zero vs rs)
    at (suc j) = cells_suc vs (set rs i r) j ∙ ap (cell_by (get_or vs j 0)) (level j (eq_case j i)) ∙ sym (cells_suc vs rs j)

pub kept_all : (ws : List Why) (rs : List Record) → length ws ≡ 256 → length rs ≡ 256
    → Below (λ (j : ℕ). get_or ws j no_why) (λ (j : ℕ). why_in (get_or rs j blank)) 256 → kept_in rs ≡ whys_in ws
unfolding kept_in whys_in
kept_all ws rs a b p = fun_ext at
  where
    past : (j : ℕ) → 256 ≤ j → why_in (get_or rs j blank) ≡ get_or ws j no_why
    past j h = ap why_in (get_or-eq_default rs blank (omega arith)) ∙ sym (get_or-eq_default ws no_why (omega arith))

    at : (q : ℕ) → kept_in rs q ≡ whys_in ws q
    at zero = refl
    at (suc j) = below_all (λ (k : ℕ). get_or ws k no_why) (λ (k : ℕ). why_in (get_or rs k blank)) 256 p past j

-- ---- from the records

pub read_all : (rs : List Record) (ws : List Why) → length rs ≡ 256 → length ws ≡ 256
    → Below (λ (j : ℕ). why_in (get_or rs j blank)) (λ (j : ℕ). get_or ws j no_why) 256 → Recorded ws (kept_in rs)
unfolding kept_in whys_in
read_all rs ws a b p = record { number = b; each = fun_ext at }
  where
    past : (j : ℕ) → 256 ≤ j → get_or ws j no_why ≡ why_in (get_or rs j blank)
    past j h = get_or-eq_default ws no_why (omega arith) ∙ sym (ap why_in (get_or-eq_default rs blank (omega arith)))

    at : (q : ℕ) → whys_in ws q ≡ kept_in rs q
    at zero = refl
    at (suc j) = below_all (λ (k : ℕ). why_in (get_or rs k blank)) (λ (k : ℕ). get_or ws k no_why) 256 p past j
