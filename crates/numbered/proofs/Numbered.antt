-- Numbers of rules: each rule has one, each number one rule; the lowest rule that passes a test.
-- Assumes nothing.
use mathlib.Core.Path.{◌≡◌, refl, sym, ap, ◌∙◌}
use mathlib.Core.Logic.{◌⊎◌, inl, inr}
use mathlib.Core.Bool.{Bool, true, false, cond}
use mathlib.Core.List.Memᴰ
use mathlib.Core.List.{[], ◌∷◌}
use Prim.Native.Nat.{ℕ, suc, ◌+◌, ◌≤◌, ◌<◌}
use native.Mathlib.Omega.{arith}
use lib.ListN.{length}
use Rattle.meaning.specs.Lists.{Is, ◌∈◌}
use Rattle.meaning.specs.Program.{Rule, Program}
use Rattle.numbered.specs.Numbered.{NumberedFrom, lowest_from}
use Rattle.meaning.proofs.Tools.{clash}

pub numbered_in : (i : ℕ) (P : Program) (k : ℕ) (r : Rule) → NumberedFrom i P k r → r ∈ P
numbered_in i [] k r h = absurd h
numbered_in i (s ∷ P) k r (inl h) = Memᴰ.head h.1
numbered_in i (s ∷ P) k r (inr h) = Memᴰ.tail (numbered_in (suc i) P k r h)

pub in_numbered : (i : ℕ) (P : Program) {r : Rule} → r ∈ P → (k : ℕ) × NumberedFrom i P k r
in_numbered i (s ∷ P) (Memᴰ.head e) = (i, inl (refl, e))
in_numbered i [] {r = r} x' = elim x' [ ]
in_numbered i (s ∷ P) (Memᴰ.tail m) = let t = in_numbered (suc i) P m in (t.0, inr t.1)

pub numbered_from_lem : (i : ℕ) (P : Program) (k : ℕ) (r : Rule) → NumberedFrom i P k r → i ≤ k
numbered_from_lem i [] k r h = absurd h
numbered_from_lem i (s ∷ P) k r (inl h) = let e = h.0 in omega arith
numbered_from_lem i (s ∷ P) k r (inr h) = let l = numbered_from_lem (suc i) P k r h in omega arith

pub numbered_upto : (i : ℕ) (P : Program) (k : ℕ) (r : Rule) → NumberedFrom i P k r → k < i + length P
numbered_upto i [] k r h = absurd h
numbered_upto i (s ∷ P) k r (inl h) = let e = h.0 in omega arith
numbered_upto i (s ∷ P) k r (inr h) = let l = numbered_upto (suc i) P k r h in omega arith

pub numbered_one : (i : ℕ) (P : Program) (k : ℕ) (r s : Rule) → NumberedFrom i P k r → NumberedFrom i P k s → r ≡ s
numbered_one i [] k r s h g = absurd h
numbered_one i (t ∷ P) k r s (inl h) (inl g) = h.1 ∙ sym g.1
numbered_one i (t ∷ P) k r s (inl h) (inr g) = let e = h.0 in absurd (let l = numbered_from_lem (suc i) P k s g in omega arith)
numbered_one i (t ∷ P) k r s (inr h) (inl g) = let e = g.0 in absurd (let l = numbered_from_lem (suc i) P k r h in omega arith)
numbered_one i (t ∷ P) k r s (inr h) (inr g) = numbered_one (suc i) P k r s h g

-- ---- the lowest rule that passes

pub record LowestIs (f : Rule → Bool) (i : ℕ) (P : Program) (k : ℕ) : Type 0 where
  pub rule : Rule
  pub number : NumberedFrom i P k rule
  pub passes : Is (f rule)
  pub lowest : (j : ℕ) (s : Rule) → NumberedFrom i P j s → Is (f s) → k ≤ j

pub lowest_cases : (f : Rule → Bool) (i : ℕ) (P : Program) → LowestIs f i P (lowest_from f i P) ⊎ ((lowest_from f i P ≡ 0) × ((r : Rule) → r ∈ P → f r ≡ false))
lowest_cases f i [] = inr (refl, λ r m. elim m [ ])
lowest_cases f i (r ∷ P) = at (f r) refl (lowest_cases f (suc i) P)
  where
    at : (b : Bool) → f r ≡ b → LowestIs f (suc i) P (lowest_from f (suc i) P) ⊎ ((lowest_from f (suc i) P ≡ 0) × ((s : Rule) → s ∈ P → f s ≡ false))
        → LowestIs f i (r ∷ P) (cond b i (lowest_from f (suc i) P)) ⊎ ((cond b i (lowest_from f (suc i) P) ≡ 0) × ((s : Rule) → s ∈ r ∷ P → f s ≡ false))
    at true e d = inl (record { rule = r; number = inl (refl, refl); passes = e; lowest = λ j s m h. numbered_from_lem i (r ∷ P) j s m })
    at false e (inl d) = inl (record { rule = d.rule; number = inr d.number; passes = d.passes; lowest = low })
      where
        low : (j : ℕ) (s : Rule) → NumberedFrom i (r ∷ P) j s → Is (f s) → lowest_from f (suc i) P ≤ j
        low j s (inl m) h = absurd (clash h (ap f m.1 ∙ e))
        low j s (inr m) h = d.lowest j s m h
    at false e (inr d) = inr (d.0, none)
      where
        none : (s : Rule) → s ∈ r ∷ P → f s ≡ false
        none s (Memᴰ.head k) = ap f k ∙ e
        none s (Memᴰ.tail k) = d.1 s k

-- where a rule passes, the lowest one is shown
pub lowest_is : (f : Rule → Bool) (i : ℕ) (P : Program) {r : Rule} → r ∈ P → Is (f r) → LowestIs f i P (lowest_from f i P)
lowest_is f i P {r} m h = at (lowest_cases f i P)
  where
    at : LowestIs f i P (lowest_from f i P) ⊎ ((lowest_from f i P ≡ 0) × ((r : Rule) → r ∈ P → f r ≡ false)) → LowestIs f i P (lowest_from f i P)
    at (inl d) = d
    at (inr d) = absurd (clash h (d.1 r m))

pub lowest_none : (f : Rule → Bool) (i : ℕ) (P : Program) → ((r : Rule) → r ∈ P → f r ≡ false) → lowest_from f i P ≡ 0
lowest_none f i P none = at (lowest_cases f i P)
  where
    at : LowestIs f i P (lowest_from f i P) ⊎ ((lowest_from f i P ≡ 0) × ((r : Rule) → r ∈ P → f r ≡ false)) → lowest_from f i P ≡ 0
    at (inl d) = absurd (clash d.passes (none d.rule (numbered_in i P _ d.rule d.number)))
    at (inr d) = d.0

-- two numbers that are both the lowest are equal
pub lowest_one : (f : Rule → Bool) (i : ℕ) (P : Program) (j k : ℕ) → LowestIs f i P j → LowestIs f i P k → j ≡ k
lowest_one f i P j k a b =
    let x = a.lowest k b.rule b.number b.passes in
    let y = b.lowest j a.rule a.number a.passes in
    omega arith
