-- The added atoms, computed: rounds that add what can be added, until nothing changes.
-- Assumes nothing.
use mathlib.Core.Path.{◌≡◌}
use mathlib.Core.Logic.{◌⊎◌, inl, inr}
use mathlib.Core.Bool.{Bool, false, not, ◌&&◌, ◌||◌, false≢true}
use Prim.Native.Nat.{ℕ, zero, suc, ◌<◌, ◌≤◌, zero-le}
use native.Mathlib.Omega.{arith}
use Rattle.meaning.specs.Lists.{Is, ◌∈◌, all, any}
use Rattle.meaning.specs.Aggregates.{Atoms}
use Rattle.meaning.specs.Program.{Rule, Program, Below}
use Rattle.meaning.specs.Foundedness.{supports, Added, add}
use Rattle.meaning.specs.Answers.{◌⊆◌}
use Rattle.meaning.proofs.Tools.{clash, cases, not_is, is_not_lem, and_i, and_l, and_r, or_l, or_r, or_e, all_at, all_i, any_i, any_e, number, number_lt, number_top, find}
use Rattle.meaning.proofs.Meaning.{supports_only}

-- whatever can be added is there
abbrev pub Closed : Program → Atoms → Atoms → Type 0
Closed P X G = (r : Rule) → r ∈ P → (p : ℕ) → Is (supports X r p) → ((b : ℕ) → b ∈ r.pos → Is (G b)) → Is (G p)

-- so whatever is added is there
pub closed_added : (P : Program) (X G : Atoms) → Closed P X G → {p : ℕ} → Added P X p → Is (G p)
closed_added P X G c {p} (add r m s below) = c r m p s (λ b k. closed_added P X G c (below b k))

module _ (P : Program) (X : Atoms) where
  unfoldable pub fires : Atoms → ℕ → Rule → Bool
  fires G p r = supports X r p && all G r.pos

  unfoldable pub step : Atoms → Atoms
  step G p = G p || any (fires G p) P

  unfoldable pub round : ℕ → Atoms
  round zero = λ p. false
  round (suc k) = step (round k)

  step_e_lem : (G : Atoms) (p : ℕ) → Is (step G p) → Is (G p) ⊎ ((r : Rule) × (r ∈ P) × Is (fires G p r))
  unfolding step
  step_e_lem G p h = at (or_e _ _ h)
    where
      at : Is (G p) ⊎ Is (any (fires G p) P) → Is (G p) ⊎ ((r : Rule) × (r ∈ P) × Is (fires G p r))
      at (inl k) = inl k
      at (inr k) = inr (any_e (fires G p) P k)

  step_old : (G : Atoms) (p : ℕ) → Is (G p) → Is (step G p)
  unfolding step
  step_old G p h = or_l _ _ h

  step_new : (G : Atoms) (p : ℕ) {r : Rule} → r ∈ P → Is (fires G p r) → Is (step G p)
  unfolding step
  step_new G p m h = or_r (G p) _ (any_i (fires G p) P m h)

  fires_mono : (G H : Atoms) → G ⊆ H → (p : ℕ) (r : Rule) → Is (fires G p r) → Is (fires H p r)
  unfolding fires
  fires_mono G H s p r h = and_i (and_l (supports X r p) _ h) (all_i H r.pos (λ b m. s b (all_at G r.pos (and_r (supports X r p) _ h) m)))

  step_mono : (G H : Atoms) → G ⊆ H → step G ⊆ step H
  step_mono G H s p h = at (step_e_lem G p h)
    where
      at : Is (G p) ⊎ ((r : Rule) × (r ∈ P) × Is (fires G p r)) → Is (step H p)
      at (inl k) = step_old H p (s p k)
      at (inr t) = step_new H p t.1 (fires_mono G H s p t.0 t.2)

  pub round_sound : (k p : ℕ) → Is (round k p) → Added P X p
  unfolding round fires
  round_sound zero p h = absurd (false≢true h)
  round_sound (suc k) p h = at (λ q. round_sound k q) (step_e_lem (round k) p h)
    where
      at : ((q : ℕ) → Is (round k q) → Added P X q) → Is (round k p) ⊎ ((r : Rule) × (r ∈ P) × Is (fires (round k) p r)) → Added P X p
      at ih (inl g) = ih p g
      at ih (inr t) = add t.0 t.1 (and_l (supports X t.0 p) _ t.2) (λ b m. ih b (all_at (round k) t.0.pos (and_r (supports X t.0 p) _ t.2) m))

  module _ (n : ℕ) (low : Below n P) where
    -- either nothing changes any more, or every round has added an atom
    settles : (k : ℕ) → (step (round k) ⊆ round k) ⊎ (k ≤ number n (round k))
    unfolding round fires
    settles zero = inr zero-le
    settles (suc k) = at (settles k)
      where
        G : Atoms
        G = round k

        later : step G ⊆ G → step (step G) ⊆ step G
        later s = step_mono (step G) G s

        scan : k ≤ number n G → ((a : ℕ) × (a < n) × Is (step G a && not (G a))) ⊎ ((a : ℕ) → a < n → step G a && not (G a) ≡ false)
            → (step (step G) ⊆ step G) ⊎ (suc k ≤ number n (step G))
        scan l (inl t) = inr (omega (arith, number_lt n G (step G) (λ a _ h. step_old G a h) t.0 t.1 (not_is _ (and_r (step G t.0) _ t.2)) (and_l _ _ t.2)))
        scan l (inr none) = inl (later (λ p h. old p h (step_e_lem G p h)))
          where
            old : (p : ℕ) → Is (step G p) → Is (G p) ⊎ ((r : Rule) × (r ∈ P) × Is (fires G p r)) → Is (G p)
            old p h (inl k) = k
            old p h (inr t) = elim (cases (G p)) [
              | inl g ↦ g
              | inr f ↦ absurd (clash (and_i h (is_not_lem (G p) f)) (none p (low t.0 t.1 p (supports_only X t.0 p (and_l (supports X t.0 p) _ t.2)).in_head)))
            ]

        at : (step G ⊆ G) ⊎ (k ≤ number n G) → (step (step G) ⊆ step G) ⊎ (suc k ≤ number n (step G))
        at (inl s) = inl (later s)
        at (inr l) = scan l (find n (λ a. step G a && not (G a)))

    pub round_closed : Closed P X (round (suc n))
    unfolding fires
    round_closed r m p s b = at (settles (suc n))
      where
        at : (step (round (suc n)) ⊆ round (suc n)) ⊎ (suc n ≤ number n (round (suc n))) → Is (round (suc n) p)
        at (inl s') = s' p (step_new (round (suc n)) p m (and_i s (all_i (round (suc n)) r.pos b)))
        at (inr l) = absurd (omega (arith, number_top n (round (suc n))))
