-- What follows from `Explains` alone: the statement wanted, the bound on rounds, and that there is only one explanation.
-- Assumes nothing.
use mathlib.Core.Path.{◌≡◌, refl, sym, ap, ◌∙◌, fun_ext}
use mathlib.Core.Logic.{◌⊎◌, inl, inr}
use mathlib.Core.Bool.{true, false, ◌&&◌, false≢true}
use Prim.Native.Nat.{ℕ, zero, suc, ◌+◌, ◌-◌, ◌≤◌, ◌<◌, zero-le}
use native.Mathlib.Omega.{arith}
use lib.Dec.{eqb, ltb}
use Rattle.meaning.specs.Lists.{Is, ◌∈◌, any}
use Rattle.meaning.specs.Aggregates.{Atoms}
use Rattle.meaning.specs.Program.{Rule, Program, In, AtomsIn}
use Rattle.meaning.specs.Foundedness.{supports}
use Rattle.meaning.proofs.Tools.{cases, and_i, and_l, and_r, or_r, or_e, eq, neq, all_at, all_i, any_i, any_e, any_cases, contra, number, number_lt, number_top}
use Rattle.meaning.proofs.Bounds.{lt, lt_i}
use Rattle.meaning.proofs.Meaning.{supports_body, supports_only}
use Rattle.numbered.proofs.Numbered.{numbered_in}
use Rattle.rounds.specs.declared.Why.{Why}
use Rattle.rounds.specs.Rounds.{adds, added_by, CanAdd, Added, Explains, Shown}

module _ (P : Program) (X : Atoms) (w : ℕ → Why) (E : Explains P X w) where
  -- an atom with a round is true
  round_true : (p : ℕ) → 1 ≤ (w p).round → Is (X p)
  round_true p l = at (cases (X p))
    where
      at : Is (X p) ⊎ (X p ≡ false) → Is (X p)
      at (inl h) = h
      at (inr h) = absurd (let e : (w p).round ≡ 0 = ap (λ (y : Why). y.round) (E.of_false p h) in omega arith)

  -- what rounds 1 to k hold is what has such a round
  pub added_round : (k p : ℕ) → Is (added_by P X k p) → (1 ≤ (w p).round) × ((w p).round ≤ k)
  unfolding added_by adds
  added_round zero p h = absurd (false≢true h)
  added_round (suc k) p h = at (λ q. added_round k q) (or_e (added_by P X k p) _ h)
    where
      at : ((q : ℕ) → Is (added_by P X k q) → (1 ≤ (w q).round) × ((w q).round ≤ k)) → Is (added_by P X k p) ⊎ Is (any (adds X (added_by P X k) p) P) → (1 ≤ (w p).round) × ((w p).round ≤ suc k)
      at ih (inl a) = let t = ih p a in (t.0, let l = t.1 in omega arith)
      at ih (inr a) =
          let t = any_e (adds X (added_by P X k) p) P a in
          let s = and_l (supports X t.0 p) _ t.2 in
          let c : CanAdd X w (suc k) p t.0 = record { supporting = s; earlier = λ b m. let d = ih b (all_at (added_by P X k) t.0.pos (and_r (supports X t.0 p) _ t.2) m) in (d.0, let l = d.1 in omega arith) } in
          let A = E.of_true p (supports_only X t.0 p s).is_true in
          (A.from, A.first (suc k) (omega arith) t.0 t.1 c)

  pub round_added : (k p : ℕ) → 1 ≤ (w p).round → (w p).round ≤ k → Is (added_by P X k p)
  unfolding added_by adds
  round_added zero p a b = absurd (omega arith)
  round_added (suc k) p a b =
      let A = E.of_true p (round_true p a) in
      or_r (added_by P X k p) _ (any_i (adds X (added_by P X k) p) P (numbered_in 1 P _ A.rule A.number)
      (and_i A.adding.supporting (all_i (added_by P X k) A.rule.pos (λ c m. let d = A.adding.earlier c m in round_added k c d.0 (let l = d.1 in omega arith)))))

  just_before_lem : (p : ℕ) (A : Added P X w p) → ((w p).round ≡ 1) ⊎ ((b : ℕ) × (b ∈ A.rule.pos) × (suc (w b).round ≡ (w p).round))
  just_before_lem p A = at (any_cases (λ b. eqb (suc (w b).round) (w p).round) A.rule.pos) (cases (eqb (w p).round 1))
    where
      at : ((b : ℕ) × (b ∈ A.rule.pos) × Is (eqb (suc (w b).round) (w p).round)) ⊎ ((b : ℕ) → b ∈ A.rule.pos → eqb (suc (w b).round) (w p).round ≡ false)
          → Is (eqb (w p).round 1) ⊎ (eqb (w p).round 1 ≡ false) → ((w p).round ≡ 1) ⊎ ((b : ℕ) × (b ∈ A.rule.pos) × (suc (w b).round ≡ (w p).round))
      at (inl t) d = inr (t.0, t.1, eq _ _ t.2)
      at (inr f) (inl e) = inl (eq _ _ e)
      at (inr f) (inr e) = absurd (down (w p).round refl)
        where
          down : (z : ℕ) → (w p).round ≡ z → ⊥
          down zero h = let l = A.from in omega arith
          down (suc z) h =
              let d = neq (w p).round 1 e in
              let l = A.first z (omega (arith, d)) A.rule (numbered_in 1 P _ A.rule A.number) (record {
                supporting = A.adding.supporting;
                earlier = λ b m. let c = A.adding.earlier b m in let g = neq (suc (w b).round) (w p).round (f b m) in (c.0, let y = c.1 in omega (arith, g));
              }) in
              omega arith

  -- ---- the bound

  module _ (n : ℕ) (inside : AtomsIn n P) where
    pub true_inside : (p : ℕ) → Is (X p) → In n p
    true_inside p h = let A = E.of_true p h in (inside A.rule (numbered_in 1 P _ A.rule A.number)).heads p (supports_only X A.rule p A.adding.supporting).in_head

    -- each round up to that of p holds an atom
    each : (d k p : ℕ) → (w p).round ≡ d + k → 1 ≤ k → (q : ℕ) × ((w q).round ≡ k)
    each zero k p e l = (p, omega arith)
    each (suc d) k p e l = at (λ q. each d k q) (just_before_lem p (E.of_true p (round_true p (omega arith))))
      where
        at : ((q : ℕ) → (w q).round ≡ d + k → 1 ≤ k → (z : ℕ) × ((w z).round ≡ k))
            → ((w p).round ≡ 1) ⊎ ((b : ℕ) × (b ∈ (E.of_true p (round_true p (omega arith))).rule.pos) × (suc (w b).round ≡ (w p).round)) → (q : ℕ) × ((w q).round ≡ k)
        at ih (inl h) = absurd (omega arith)
        at ih (inr t) = ih t.0 (let h = t.2 in omega arith) l

    -- atoms with a round of 1 to k
    among : ℕ → Atoms
    among k q = ltb 0 (w q).round && ltb (w q).round (suc k)

    count : (p k : ℕ) → k ≤ (w p).round → k ≤ number (suc n) (among k)
    unfolding among
    count p zero l = zero-le
    count p (suc k) l =
        let q = each ((w p).round - suc k) (suc k) p (omega arith) (omega arith) in
        let e = q.1 in
        let i = true_inside q.0 (round_true q.0 (omega arith)) in
        let more : (a : ℕ) → a < suc n → Is (among k a) → Is (among (suc k) a) = λ a y h.
        let u = lt (w a).round (suc k) (and_r (ltb 0 (w a).round) _ h) in and_i (and_l (ltb 0 (w a).round) _ h) (lt_i (w a).round (suc (suc k)) (omega arith)) in
        let not : among k q.0 ≡ false = contra (among k q.0) {b = false} (λ h. let u = lt (w q.0).round (suc k) (and_r (ltb 0 (w q.0).round) _ h) in absurd (omega arith)) refl in
        let now : Is (among (suc k) q.0) = and_i (lt_i 0 (w q.0).round (omega arith)) (lt_i (w q.0).round (suc (suc k)) (omega arith)) in
        let y = number_lt (suc n) (among k) (among (suc k)) more q.0 (let u = i.1 in omega arith) not now in
        let z = count p k (omega arith) in
        omega arith

    pub round≤atoms : (p : ℕ) → (w p).round ≤ n
    unfolding among
    round≤atoms p =
        let none : among (w p).round 0 ≡ false = contra (among (w p).round 0) {b = false} (λ h. let i = true_inside 0 (round_true 0 (lt 0 (w 0).round (and_l (ltb 0 (w 0).round) _ h))) in let u = i.0 in absurd (omega arith)) refl in
        let a = number_lt (suc n) (among (w p).round) (λ q. true) (λ a l h. refl) 0 (omega arith) none refl in
        let b = number_top (suc n) (λ q. true) in
        let c = count p (w p).round (omega arith) in
        omega arith

    pub shown : (p : ℕ) → Is (X p) → Shown P n X w p
    shown p h =
        let A = E.of_true p h in
        let o = supports_only X A.rule p A.adding.supporting in
        record {
          rule = A.rule;
          number = A.number;
          from = A.from;
          upto = round≤atoms p;
          body_true = supports_body X A.rule p A.adding.supporting;
          in_head = o.in_head;
          only_true = o.unique;
          smaller = A.adding.earlier;
          just_before = just_before_lem p A;
        }

-- ---- there is only one

module _ (P : Program) (X : Atoms) (w v : ℕ → Why) (E : Explains P X w) (F : Explains P X v) where
  le : (p : ℕ) → Is (X p) → (v p).round ≤ (w p).round
  le p h = (added_round P X v F (w p).round p (round_added P X w E (w p).round p (E.of_true p h).from (omega arith))).1

module _ (P : Program) (X : Atoms) (w v : ℕ → Why) (E : Explains P X w) (F : Explains P X v) where
  rounds_one : (p : ℕ) → (w p).round ≡ (v p).round
  rounds_one p = at (cases (X p))
    where
      at : Is (X p) ⊎ (X p ≡ false) → (w p).round ≡ (v p).round
      at (inl h) = let a = le P X w v E F p h in let b = le P X v w F E p h in omega arith
      at (inr h) = ap (λ (y : Why). y.round) (E.of_false p h ∙ sym (F.of_false p h))

module _ (P : Program) (X : Atoms) (w v : ℕ → Why) (E : Explains P X w) (F : Explains P X v) where
  move : (p : ℕ) (r : Rule) → CanAdd X w (w p).round p r → CanAdd X v (v p).round p r
  move p r c = record {
    supporting = c.supporting;
    earlier = λ b m. let d = c.earlier b m in let x = d.0 in let y = d.1 in let e = rounds_one P X w v E F b in let f = rounds_one P X w v E F p in (omega arith, omega arith);
  }

  rule_le : (p : ℕ) → Is (X p) → (v p).rule ≤ (w p).rule
  rule_le p h = let A = E.of_true p h in (F.of_true p h).lowest (w p).rule A.rule A.number (move p A.rule A.adding)

pub explains_one : (P : Program) (X : Atoms) (w v : ℕ → Why) → Explains P X w → Explains P X v → w ≡ v
explains_one P X w v E F = fun_ext (λ p. at p (cases (X p)))
  where
    both : (p : ℕ) → (w p).round ≡ (v p).round → (w p).rule ≡ (v p).rule → w p ≡ v p
    both p a b = λ t. record { round = a t; rule = b t }

    at : (p : ℕ) → Is (X p) ⊎ (X p ≡ false) → w p ≡ v p
    at p (inl h) = both p (rounds_one P X w v E F p) (let a = rule_le P X w v E F p h in let b = rule_le P X v w F E p h in omega arith)
    at p (inr h) = E.of_false p h ∙ sym (F.of_false p h)
