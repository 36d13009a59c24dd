-- Settled atoms: one more, walk after walk, and that none lies on a circle with another atom. Assumes nothing.
use mathlib.Core.Path.{◌≡◌, refl, sym, ap, subst}
use mathlib.Core.Logic.{◌⊎◌, inl, inr}
use mathlib.Core.Bool.{Bool, false}
use Prim.Native.Nat.{ℕ}
use Rattle.meaning.specs.Lists.{Is}
use Rattle.meaning.specs.Dependency.{Chain, stay, go}
use Rattle.meaning.proofs.Tools.{clash, chain_join}
use Rattle.levels.specs.Levels.{Levels, no_levels, union, only}
use Rattle.reach.specs.Visits.{Part, Circle, Closed, Off, Settling, Settled}
use Rattle.reach.proofs.Putting.{more_e, more_old}

module _ (R : ℕ → ℕ → Bool) where
  -- nothing settled yet
  pub settled_none : (A : Levels) → A ≡ no_levels → Settled R A
  settled_none A e = record {
    kept = λ q h. absurd (clash h refl);
    closed = λ p q h. absurd (clash h (ap (λ (X : Levels). X p) e));
    off = λ p h. absurd (clash h (ap (λ (X : Levels). X p) e));
  }

  -- nothing more
  pub settling_same : (A : Levels) → Closed R A → Settling R A A
  settling_same A c = record { kept = λ q h. h; closed = c; off = λ p h. inl h }

  -- one walk after another
  pub settling_join : (A B C : Levels) → Settling R A B → Settling R B C → Settling R A C
  settling_join A B C x y = record { kept = λ q h. y.kept q (x.kept q h); closed = y.closed; off = λ p h. at p (y.off p h) }
    where
      at : (p : ℕ) → Is (B p) ⊎ Off R p → Is (A p) ⊎ Off R p
      at p (inl h) = x.off p h
      at p (inr o) = inr o

  -- a chain from a closed set stays in it
  pub chain_closed : (A : Levels) → Closed R A → (p q : ℕ) → Is (A p) → Chain R p q → Is (A q)
  chain_closed A c p q h (stay e) = subst (λ (y : ℕ). Is (A y)) e h
  chain_closed A c p q h (go {q = u} d r) = c u q (chain_closed A c p u h d) r

  -- an atom whose arcs all go to a closed set that it is not in
  pub settling_more : (A B : Levels) (p : ℕ) → Closed R A → A p ≡ false → Part (R p) A → B ≡ union (only p) A → Settling R A B
  settling_more A B p c e all more = record {
    kept = λ q h. more_old p A B more q h;
    closed = λ s q h r. more_old p A B more q (next s q r (more_e p A B more s h));
    off = λ s h. at s (more_e p A B more s h);
  }
    where
      next : (s q : ℕ) → Is (R s q) → (s ≡ p) ⊎ Is (A s) → Is (A q)
      next s q r (inl d) = all q (subst (λ (y : ℕ). Is (R y q)) d r)
      next s q r (inr h) = c s q h r

      lone : Off R p
      lone q r d = clash (chain_closed A c q p (all q r) d) e

      at : (s : ℕ) → (s ≡ p) ⊎ Is (A s) → Is (A s) ⊎ Off R s
      at s (inl d) = inr (subst (Off R) (sym d) lone)
      at s (inr h) = inl h

  -- the first arc of a chain
  chain_first : (p q : ℕ) → Chain R p q → (p ≡ q) ⊎ ((u : ℕ) × Is (R p u) × Chain R u q)
  chain_first p q (stay e) = inl e
  chain_first p q (go {q = u} d r) = at (chain_first p u d)
    where
      at : (p ≡ u) ⊎ ((v : ℕ) × Is (R p v) × Chain R v u) → (p ≡ q) ⊎ ((v : ℕ) × Is (R p v) × Chain R v q)
      at (inl e) = inr (q, subst (λ (y : ℕ). Is (R y q)) (sym e) r, stay refl)
      at (inr (v, s, k)) = inr (v, s, go k r)

  -- so an atom on no cycle is alone on its circle
  pub off_alone : (p q : ℕ) → Off R p → Circle R p q → p ≡ q
  off_alone p q o c = at (chain_first p q c.there)
    where
      at : (p ≡ q) ⊎ ((u : ℕ) × Is (R p u) × Chain R u q) → p ≡ q
      at (inl e) = e
      at (inr (u, r, k)) = absurd (o u r (chain_join R k c.back))

  -- of settled atoms
  pub settled_off : (A : Levels) → Settled R A → (p : ℕ) → Is (A p) → Off R p
  settled_off A x p h = at (x.off p h)
    where
      at : Is (no_levels p) ⊎ Off R p → Off R p
      at (inl k) = absurd (clash k refl)
      at (inr o) = o

  pub settled_alone : (A : Levels) → Settled R A → (p q : ℕ) → Is (A p) → Circle R p q → p ≡ q
  settled_alone A x p q h c = off_alone p q (settled_off A x p h) c

  -- and no arc from it leads back to it
  pub settled_open : (A : Levels) → Settled R A → (p q : ℕ) → Is (A p) → Is (R p q) → Chain R q p → ⊥
  settled_open A x p q h r c = settled_off A x p h q r c
