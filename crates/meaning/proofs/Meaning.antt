-- The tests of `Asp` as facts, each way.
-- Assumes nothing.
use mathlib.Core.Path.{◌≡◌}
use mathlib.Core.Logic.{◌⊎◌, inl, inr}
use mathlib.Core.Bool.{false, not, ◌&&◌, ◌||◌}
use Prim.Native.Nat.{ℕ}
use lib.Dec.{eqb}
use Rattle.meaning.specs.Lists.{Is, ◌∈◌, all, any, has}
use Rattle.meaning.specs.Aggregates.{Atoms}
use Rattle.meaning.specs.Program.{Rule, Program, Literal}
use Rattle.meaning.specs.Answers.{literal, body, holds, model, reduct}
use Rattle.meaning.specs.Foundedness.{only_head, supports}
use Rattle.meaning.proofs.Tools.{clash, cases, not_is, is_not_lem, and_i, and_l, and_r, or_l, or_r, or_e, eq, eq_i, all_at, all_i, any_i, any_e, keep_e, has_i, has_e}

pub record BodyTrue (X : Atoms) (r : Rule) : Type 0 where
  pub poss : (p : ℕ) → p ∈ r.pos → Is (X p)
  pub negs : (p : ℕ) → p ∈ r.neg → X p ≡ false
  pub lits : (l : Literal) → l ∈ r.aggs → Is (literal X l)

-- some head atom is true
abbrev pub HeadTrue : Atoms → Rule → Type 0
HeadTrue X r = (h : ℕ) × (h ∈ r.head) × Is (X h)

pub record Only (X : Atoms) (r : Rule) (p : ℕ) : Type 0 where
  pub is_true : Is (X p)
  pub in_head : p ∈ r.head
  pub unique : (h : ℕ) → h ∈ r.head → Is (X h) → h ≡ p

pub body_e : (X : Atoms) (r : Rule) → Is (body X r) → BodyTrue X r
unfolding body
body_e X r h = record {
  poss = λ p m. all_at X r.pos (and_l _ _ (and_l _ _ h)) m;
  negs = λ p m. not_is _ (all_at (λ p. not (X p)) r.neg (and_r (all X r.pos) _ (and_l _ _ h)) m);
  lits = λ l m. all_at (literal X) r.aggs (and_r (all X r.pos && all (λ p. not (X p)) r.neg) _ h) m;
}

pub body_i : (X : Atoms) (r : Rule) → BodyTrue X r → Is (body X r)
unfolding body
body_i X r b = and_i (and_i (all_i X r.pos b.poss) (all_i (λ p. not (X p)) r.neg (λ p m. is_not_lem (X p) (b.negs p m)))) (all_i (literal X) r.aggs b.lits)

pub only_e : (X : Atoms) (r : Rule) (p : ℕ) → Is (only_head X r p) → Only X r p
unfolding only_head
only_e X r p h = record {
  is_true = and_l _ _ (and_l _ _ h);
  in_head = has_e r.head (and_r (X p) _ (and_l _ _ h));
  unique = λ a m t. at a t (or_e _ _ (all_at (λ h. not (X h) || eqb h p) r.head (and_r (X p && has p r.head) _ h) m));
}
  where
    at : (a : ℕ) → Is (X a) → Is (not (X a)) ⊎ Is (eqb a p) → a ≡ p
    at a t (inl n) = absurd (clash t (not_is _ n))
    at a t (inr e) = eq a p e

pub only_i : (X : Atoms) (r : Rule) (p : ℕ) → Only X r p → Is (only_head X r p)
unfolding only_head
only_i X r p o = and_i (and_i o.is_true (has_i o.in_head)) (all_i (λ h. not (X h) || eqb h p) r.head (λ a m. at a m (cases (X a))))
  where
    at : (a : ℕ) → a ∈ r.head → Is (X a) ⊎ (X a ≡ false) → Is (not (X a) || eqb a p)
    at a m (inl t) = or_r (not (X a)) _ (eq_i (o.unique a m t))
    at a m (inr f) = or_l _ _ (is_not_lem (X a) f)

pub model_e : (P : Program) (I : Atoms) → Is (model P I) → {r : Rule} → r ∈ P → Is (body I r) → HeadTrue I r
unfolding model holds
model_e P I h {r} m b = at (or_e _ _ (all_at (holds I) P h m))
  where
    at : Is (not (body I r)) ⊎ Is (any I r.head) → HeadTrue I r
    at (inl n) = absurd (clash b (not_is _ n))
    at (inr a) = any_e I r.head a

pub model_i : (P : Program) (I : Atoms) → ((r : Rule) → r ∈ P → Is (body I r) → HeadTrue I r) → Is (model P I)
unfolding model holds
model_i P I f = all_i (holds I) P (λ r m. at r m (cases (body I r)))
  where
    at : (r : Rule) → r ∈ P → Is (body I r) ⊎ (body I r ≡ false) → Is (holds I r)
    at r m (inl b) = let t = f r m b in or_r (not (body I r)) _ (any_i I r.head t.1 t.2)
    at r m (inr b) = or_l _ _ (is_not_lem (body I r) b)

pub reduct_i : (P : Program) (X Y : Atoms) → ((r : Rule) → r ∈ P → Is (body X r) → Is (body Y r) → HeadTrue Y r) → Is (model (reduct P X) Y)
unfolding reduct
reduct_i P X Y f = model_i (reduct P X) Y (λ r m b. let k = keep_e (body X) P m in f r k.0 k.1 b)

pub supports_i : (X : Atoms) (r : Rule) (p : ℕ) → Is (body X r) → Only X r p → Is (supports X r p)
unfolding supports
supports_i X r p b o = and_i b (only_i X r p o)

pub supports_body : (X : Atoms) (r : Rule) (p : ℕ) → Is (supports X r p) → Is (body X r)
unfolding supports
supports_body X r p h = and_l _ _ h

pub supports_only : (X : Atoms) (r : Rule) (p : ℕ) → Is (supports X r p) → Only X r p
unfolding supports
supports_only X r p h = only_e X r p (and_r (body X r) _ h)
