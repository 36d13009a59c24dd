-- In an answer set each true atom is supported.
-- Assumes nothing.
use mathlib.Core.Path.{◌≡◌, refl, sym}
use mathlib.Core.Logic.{◌⊎◌, inl, inr}
use mathlib.Core.Bool.{false, not, ◌&&◌}
use mathlib.Core.List.Memᴰ
use Prim.Native.Nat.{ℕ}
use lib.Dec.{eqb}
use Rattle.meaning.specs.Lists.{Is, ◌∈◌}
use Rattle.meaning.specs.Aggregates.{Atoms}
use Rattle.meaning.specs.Program.{Rule, Program}
use Rattle.meaning.specs.Answers.{body, AnswerSet}
use Rattle.meaning.specs.Foundedness.{supports}
use Rattle.meaning.proofs.Proper.{answer_least}
use Rattle.meaning.proofs.Tools.{clash, cases, not_is, is_not_lem, and_i, and_l, and_r, eq, eq_i, any_cases}
use Rattle.meaning.proofs.Meaning.{HeadTrue, Only, model_e, reduct_i, supports_i}

-- X without S
unfoldable pub without : Atoms → Atoms → Atoms
without X S p = X p && not (S p)

pub without_i : (X S : Atoms) (p : ℕ) → Is (X p) → S p ≡ false → Is (without X S p)
unfolding without
without_i X S p h e = and_i h (is_not_lem (S p) e)

pub without_in : (X S : Atoms) (p : ℕ) → Is (without X S p) → Is (X p)
unfolding without
without_in X S p h = and_l _ _ h

pub without_out : (X S : Atoms) (p : ℕ) → Is (without X S p) → S p ≡ false
unfolding without
without_out X S p h = not_is _ (and_r (X p) _ h)

-- what is left out of X is in S
pub without_not : (X S : Atoms) (p : ℕ) → Is (X p) → without X S p ≡ false → Is (S p)
unfolding without
without_not X S p h e = at (cases (S p))
  where
    at : Is (S p) ⊎ (S p ≡ false) → Is (S p)
    at (inl s) = s
    at (inr f) = absurd (clash (and_i h (is_not_lem (S p) f)) e)

pub supported : (P : Program) (X : Atoms) → AnswerSet P X → (p : ℕ) → Is (X p) → (r : Rule) × (r ∈ P) × Is (supports X r p)
supported P X A p t = at (any_cases (λ r. supports X r p) P)
  where
    Y : Atoms
    Y = without X (eqb p)

    at : ((r : Rule) × (r ∈ P) × Is (supports X r p)) ⊎ ((r : Rule) → r ∈ P → supports X r p ≡ false) → (r : Rule) × (r ∈ P) × Is (supports X r p)
    at (inl s) = s
    at (inr none) = absurd (clash (eq_i {m = p} refl) (without_out X (eqb p) p (answer_least P X A Y (λ q. without_in X (eqb p) q) (reduct_i P X Y left) p t)))
      where
        left : (r : Rule) → r ∈ P → Is (body X r) → Is (body Y r) → HeadTrue Y r
        left r m b c = pick (any_cases Y r.head)
          where
            pick : HeadTrue Y r ⊎ ((h : ℕ) → h ∈ r.head → Y h ≡ false) → HeadTrue Y r
            pick (inl h) = h
            pick (inr f) =
                let h = model_e P X A.is_model m b in
                let same : (a : ℕ) → a ∈ r.head → Is (X a) → a ≡ p = λ a k u. sym (eq p a (without_not X (eqb p) a u (f a k))) in
                let o : Only X r p = record { is_true = t; in_head = Memᴰ.cast (sym (same h.0 h.1 h.2)) h.1; unique = same } in
                absurd (clash (supports_i X r p b o) (none r m))
