-- Arcs, and a rank that no arc raises and that an added arc lowers.
-- Assumes nothing.
use mathlib.Core.Path.{◌≡◌, refl}
use mathlib.Core.Logic.{◌⊎◌, inl, inr}
use mathlib.Core.Bool.{false, ◌&&◌}
use Prim.Native.Nat.{ℕ, ◌<◌, ◌≤◌}
use lib.Dec.{eqb}
use Rattle.meaning.specs.Lists.{Is, ◌∈◌, any, has}
use Rattle.meaning.specs.Program.{Rule, Program, Literal, Element, Below}
use Rattle.meaning.specs.Dependency.{arc, occurs, added_arc, any_arc, stay, go, AggregateCycle, Free}
use Rattle.meaning.specs.Cycles.{via}
use Rattle.meaning.proofs.Tools.{cases, and_i, and_l, or_l, or_r, or_e, eq_i, any_i, any_e, has_i, has_e, number, number_le, number_lt, chain_join, via_chain, chain_via}

pub arc_i : {P : Program} {r : Rule} {p q : ℕ} → r ∈ P → p ∈ r.head → q ∈ r.pos → Is (arc P p q)
unfolding arc
arc_i {P} {p} {q} m h b = any_i (λ r. has p r.head && has q r.pos) P m (and_i (has_i h) (has_i b))

pub added_i : {P : Program} {r : Rule} {l : Literal} {e : Element} {p : ℕ} → r ∈ P → p ∈ r.head → l ∈ r.aggs → e ∈ l.aggregate.elements
    → Is (added_arc P p e.atom)
unfolding added_arc occurs
added_i {P} {r} {l} {e} {p} m h k j =
    any_i (λ r. has p r.head && any (occurs e.atom) r.aggs) P m (and_i (has_i h)
    (any_i (occurs e.atom) r.aggs k (any_i (λ d. eqb e.atom d.atom) l.aggregate.elements j (eq_i {m = e.atom} refl))))

pub arc_low : (n : ℕ) (P : Program) → Below n P → (p q : ℕ) → Is (arc P p q) → p < n
unfolding arc
arc_low n P low p q a =
    let t = any_e (λ r. has p r.head && has q r.pos) P a in
    low t.0 t.1 p (has_e t.0.head (and_l _ _ t.2))

added_low : (n : ℕ) (P : Program) → Below n P → (p q : ℕ) → Is (added_arc P p q) → p < n
unfolding added_arc
added_low n P low p q a =
    let t = any_e (λ r. has p r.head && any (occurs q) r.aggs) P a in
    low t.0 t.1 p (has_e t.0.head (and_l _ _ t.2))

pub any_low : (n : ℕ) (P : Program) → Below n P → (p q : ℕ) → Is (any_arc P p q) → p < n
unfolding any_arc
any_low n P low p q a = at (or_e _ _ a)
  where
    at : Is (arc P p q) ⊎ Is (added_arc P p q) → p < n
    at (inl h) = arc_low n P low p q h
    at (inr h) = added_low n P low p q h

module _ (n : ℕ) (P : Program) where
  -- how many atoms can be reached
  unfoldable pub rank : ℕ → ℕ
  rank p = number n (via (any_arc P) n p)

module _ (n : ℕ) (P : Program) (low : Below n P) where
  reach : (p q : ℕ) → Is (any_arc P p q) → (a : ℕ) → Is (via (any_arc P) n q a) → Is (via (any_arc P) n p a)
  reach p q e a h = chain_via (any_arc P) n (any_low n P low) (chain_join (any_arc P) (go (stay refl) e) (via_chain (any_arc P) n q a h))

  pub rank_arc : (p q : ℕ) → Is (arc P p q) → rank n P q ≤ rank n P p
  unfolding rank any_arc
  rank_arc p q e = number_le n _ _ (λ a l h. reach p q (or_l _ _ e) a h)

  pub rank_added : Free AggregateCycle P → {r : Rule} {l : Literal} {e : Element} {p : ℕ} → r ∈ P → p ∈ r.head → l ∈ r.aggs → e ∈ l.aggregate.elements
      → rank n P e.atom < rank n P p
  unfolding rank any_arc
  rank_added free {r} {l} {e} {p} m h k j =
      let q = e.atom in
      let a = added_i m h k j in
      number_lt n (via (any_arc P) n q) (via (any_arc P) n p) (λ b _ v. reach p q (or_r (arc P p q) _ a) b v) p (low r m p h) (at (cases (via (any_arc P) n q p)))
      (chain_via (any_arc P) n (any_low n P low) {p = p} (stay refl))
    where
      at : Is (via (any_arc P) n e.atom p) ⊎ (via (any_arc P) n e.atom p ≡ false) → via (any_arc P) n e.atom p ≡ false
      at (inl v) = absurd (free r m (record { from = p; from_in = h; lit = l; lit_in = k; elem = e; elem_in = j; back = via_chain (any_arc P) n e.atom p v }))
      at (inr f) = f
