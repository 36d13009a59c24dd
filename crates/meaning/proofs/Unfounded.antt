-- An answer set of a program without head cycle lies in each closed set of atoms, so it is founded.
-- Assumes nothing.
use mathlib.Core.Path.{◌≡◌, refl}
use mathlib.Core.Logic.{◌⊎◌, inl, inr}
use mathlib.Core.Bool.{Bool, false, not, ◌&&◌}
use Prim.Native.Nat.{ℕ, zero, suc, ◌<◌}
use native.Mathlib.Nat.{not-suc-le-zero, le_refl, lt_of_lt_of_le, le_of_suc-le-suc}
use lib.Dec.{eqb}
use Rattle.meaning.specs.Lists.{Is, ◌∈◌}
use Rattle.meaning.specs.Aggregates.{Atoms}
use Rattle.meaning.specs.Program.{Rule, Program, Below}
use Rattle.meaning.specs.Answers.{body, AnswerSet}
use Rattle.meaning.specs.Dependency.{arc, Chain, stay, go, HeadCycle, Free}
use Rattle.meaning.specs.Foundedness.{Founded}
use Rattle.meaning.specs.Cycles.{via}
use Rattle.meaning.proofs.Proper.{answer_least}
use Rattle.meaning.proofs.Tools.{clash, cases, not_false, not_is, is_not_lem, and_i, and_l, and_r, eq, neq, any_cases, number, number_lt, find, chain_join, via_chain, chain_via}
use Rattle.meaning.proofs.Meaning.{HeadTrue, Only, body_e, model_e, reduct_i, supports_i, supports_only}
use Rattle.meaning.proofs.Rank.{arc_i, arc_low}
use Rattle.meaning.proofs.Support.{without, without_i, without_in, without_out, without_not, supported}
use Rattle.meaning.proofs.Closure.{Closed, round, round_closed, round_sound}

module _ (P : Program) (U : Atoms) where
  -- arcs into U
  inner : ℕ → ℕ → Bool
  inner p q = arc P p q && U q

  inner_arc : {p q : ℕ} → Chain inner p q → Chain (arc P) p q
  unfolding inner
  inner_arc (stay e) = stay e
  inner_arc (go c a) = go (inner_arc c) (and_l _ _ a)

  inner_U : {p q : ℕ} → Is (U p) → Chain inner p q → Is (U q)
  unfolding inner
  inner_U u (stay e) = rw e at u
  inner_U u (go {q} {s} c a) = and_r (arc P q s) _ a

module _ (n : ℕ) (P : Program) (low : Below n P) (free : Free HeadCycle P) (X : Atoms) (A : AnswerSet P X) (F : Atoms) (C : Closed P X F) where
  U : Atoms
  U = without X F

  to : ℕ → Atoms
  to = via (inner P U) n

  chain : (p q : ℕ) → Is (to p q) → Chain (inner P U) p q
  unfolding to
  chain p q h = via_chain (inner P U) n p q h

  test : {p q : ℕ} → Chain (inner P U) p q → Is (to p q)
  unfolding to inner
  test c = chain_via (inner P U) n (λ p q a. arc_low n P low p q (and_l _ _ a)) c

  self : (p : ℕ) → Is (to p p)
  self p = test (stay refl)

  U-low : (p : ℕ) → Is (U p) → p < n
  unfolding U
  U-low p u = let t = supported P X A p (without_in X F p u) in low t.0 t.1 p (supports_only X t.0 p t.2).in_head

  -- a strongly connected part of U that no arc leaves cannot be
  part : (p : ℕ) → Is (U p) → ((q : ℕ) → Is (to p q) → Is (to q p)) → ⊥
  unfolding U inner
  part p u back = clash (self p) (without_out X (to p) p (answer_least P X A Z (λ q. without_in X (to p) q) (reduct_i P X Z left) p (without_in X F p u)))
    where
      Z : Atoms
      Z = without X (to p)

      left : (r : Rule) → r ∈ P → Is (body X r) → Is (body Z r) → HeadTrue Z r
      left r m b c = pick (any_cases Z r.head)
        where
          -- all true head atoms are in the part
          stuck : ((h : ℕ) → h ∈ r.head → Z h ≡ false) → ⊥
          stuck f = missing (any_cases (λ q. not (F q)) r.pos)
            where
              t : HeadTrue X r
              t = model_e P X A.is_model m b

              h : ℕ
              h = t.0

              there : (a : ℕ) → a ∈ r.head → Is (X a) → Is (to p a)
              there a k x = without_not X (to p) a x (f a k)

              across : (a d : ℕ) → a ∈ r.head → d ∈ r.head → Is (X a) → Is (X d) → Chain (arc P) a d
              across a d k j x y = inner_arc P U (chain_join (inner P U) (chain a p (back a (there a k x))) (chain p d (there d j y)))

              unique : (a : ℕ) → a ∈ r.head → Is (X a) → a ≡ h
              unique a k x = elim (cases (eqb a h)) [
                | inl e ↦ eq a h e
                | inr e ↦ absurd (free r m (record {
                  first = a;
                  second = h;
                  first_in = k;
                  second_in = t.1;
                  differ = neq a h e;
                  there = across a h k t.1 x t.2;
                  back = across h a t.1 k t.2 x;
                }))
              ]

              in_u : Is (U h)
              in_u = inner_U P U u (chain p h (there h t.1 t.2))

              o : Only X r h
              o = record { is_true = t.2; in_head = t.1; unique = unique }

              missing : ((q : ℕ) × (q ∈ r.pos) × Is (not (F q))) ⊎ ((q : ℕ) → q ∈ r.pos → not (F q) ≡ false) → ⊥
              missing (inl s) =
                  let uq : Is (U s.0) = without_i X F s.0 ((body_e X r b).poss s.0 s.1) (not_is _ s.2) in
                  let a : Is (inner P U h s.0) = and_i (arc_i m t.1 s.1) uq in
                  clash (test (go (chain p h (there h t.1 t.2)) a)) (without_out X (to p) s.0 ((body_e Z r c).poss s.0 s.1))
              missing (inr g) = clash (C r m h (supports_i X r h b o) (λ q k. not_false (F q) (g q k))) (without_out X F h in_u)

          pick : HeadTrue Z r ⊎ ((h : ℕ) → h ∈ r.head → Z h ≡ false) → HeadTrue Z r
          pick (inl h) = h
          pick (inr f) = absurd (stuck f)

  -- by the number of atoms that can be reached
  none : (k p : ℕ) → number n (to p) < k → Is (U p) → ⊥
  none zero p l u = not-suc-le-zero l
  none (suc k) p l u = at (λ q. none k q) (find n (λ q. to p q && not (to q p)))
    where
      at : ((q : ℕ) → number n (to q) < k → Is (U q) → ⊥)
          → ((q : ℕ) × (q < n) × Is (to p q && not (to q p))) ⊎ ((q : ℕ) → q < n → to p q && not (to q p) ≡ false) → ⊥
      at ih (inl t) =
          let q = t.0 in
          let c = chain p q (and_l _ _ t.2) in
          let e : to q p ≡ false = not_is _ (and_r (to p q) _ t.2) in
          let less = number_lt n (to q) (to p) (λ a _ h. test (chain_join (inner P U) c (chain q a h))) p (U-low p u) e (self p) in
          ih q (lt_of_lt_of_le less (le_of_suc-le-suc l)) (inner_U P U u c)
      at ih (inr f) = part p u (λ q h. back q h (cases (to q p)))
        where
          back : (q : ℕ) → Is (to p q) → Is (to q p) ⊎ (to q p ≡ false) → Is (to q p)
          back q h (inl k) = k
          back q h (inr e) = absurd (clash (and_i h (is_not_lem (to q p) e)) (f q (U-low q (inner_U P U u (chain p q h)))))

  pub answer⊆closed : (p : ℕ) → Is (X p) → Is (F p)
  unfolding U
  answer⊆closed p x = elim (cases (F p)) [
    | inl f ↦ f
    | inr e ↦ absurd (none (suc (number n (to p))) p (le_refl _) (without_i X F p x e))
  ]

pub answer→founded : (n : ℕ) (P : Program) → Below n P → Free HeadCycle P → (X : Atoms) → AnswerSet P X → Founded P X
answer→founded n P low free X A p x = round_sound P X (suc n) p (answer⊆closed n P low free X A (round P X (suc n)) (round_closed P X n low) p x)
