-- The computed rounds and rules explain every founded set of atoms, and no other set has an explanation.
--   why_explains      for a founded X `why_of` is an explanation
--   why_is_shown      so each true atom has the statement wanted, with a round of 1 to n
--   why_of_false      a false atom has 0 and 0, for every X
--   why_is_only       any other explanation is the same
--   answer_explained  the same of an answer set of a program without head cycle
--   explained-founded what has an explanation is founded;  founded-by-rounds: X is founded exactly if each true atom has a round
-- Assumes nothing.
use mathlib.Core.Path.{◌≡◌, refl, sym, ap, ◌∙◌, subst}
use mathlib.Core.Logic.{◌⊎◌, inl, inr, ◌↔◌}
use mathlib.Core.Bool.{Bool, true, false, cond, ◌&&◌, ◌||◌, false≢true}
use Prim.Native.Nat.{ℕ, zero, suc, ◌+◌, ◌-◌, ◌≤◌, ◌<◌}
use native.Mathlib.Omega.{arith}
use lib.Dec.{eqb, ltb}
use Rattle.meaning.specs.Lists.{Is, ◌∈◌, all, any}
use Rattle.meaning.specs.Aggregates.{Atoms}
use Rattle.meaning.specs.Program.{Rule, Program, AtomsIn, Below}
use Rattle.meaning.specs.Foundedness.{supports, Founded}
use Rattle.meaning.specs.Answers.{AnswerSet}
use Rattle.meaning.specs.Dependency.{HeadCycle, Free}
use Rattle.numbered.specs.Numbered.{lowest_rule}
use Rattle.meaning.proofs.Unfounded.{answer→founded}
use Rattle.meaning.proofs.Tools.{clash, cases, and_i, and_l, and_r, or_l, or_r, or_e, eq, neq, all_at, all_i, any_i, any_e}
use Rattle.meaning.proofs.Bounds.{lt, ge}
use Rattle.meaning.proofs.Meaning.{supports_only}
use Rattle.meaning.proofs.Closure.{round, step, fires, closed_added, round_closed, round_sound}
use Rattle.numbered.proofs.Numbered.{LowestIs, lowest_is}
use Rattle.rounds.specs.declared.Why.{Why}
use Rattle.rounds.specs.Rounds.{no_why, adds, added_by, first_from, round_of, why_at, why_of, CanAdd, Added, Explains, Shown}
use Rattle.rounds.proofs.Explained.{round≤atoms, round_added, explains_one, shown}

-- ---- the first number that passes

pub record FirstIs (f : ℕ → Bool) (k m j : ℕ) : Type 0 where
  pub from : k ≤ j
  pub upto : j < k + m
  pub passes : Is (f j)
  pub before : (i : ℕ) → k ≤ i → i < j → f i ≡ false

pub first_cases : (f : ℕ → Bool) (k m : ℕ) → FirstIs f k m (first_from f k m) ⊎ ((first_from f k m ≡ 0) × ((i : ℕ) → k ≤ i → i < k + m → f i ≡ false))
unfolding first_from
first_cases f k zero = inr (refl, λ i a b. absurd (omega arith))
first_cases f k (suc m) = at (f k) refl (first_cases f (suc k) m)
  where
    at : (b : Bool) → f k ≡ b → FirstIs f (suc k) m (first_from f (suc k) m) ⊎ ((first_from f (suc k) m ≡ 0) × ((i : ℕ) → suc k ≤ i → i < suc k + m → f i ≡ false))
        → FirstIs f k (suc m) (cond b k (first_from f (suc k) m)) ⊎ ((cond b k (first_from f (suc k) m) ≡ 0) × ((i : ℕ) → k ≤ i → i < k + suc m → f i ≡ false))
    at true e d = inl (record { from = omega arith; upto = omega arith; passes = e; before = λ i a b. absurd (omega arith) })
    at false e (inl d) = inl (record { from = let a = d.from in omega arith; upto = let a = d.upto in omega arith; passes = d.passes; before = low })
      where
        low : (i : ℕ) → k ≤ i → i < first_from f (suc k) m → f i ≡ false
        low i a b = here (cases (eqb i k))
          where
            here : Is (eqb i k) ⊎ (eqb i k ≡ false) → f i ≡ false
            here (inl h) = ap f (eq i k h) ∙ e
            here (inr h) = let n = neq i k h in d.before i (omega (arith, n)) b
    at false e (inr d) = inr (d.0, none)
      where
        none : (i : ℕ) → k ≤ i → i < k + suc m → f i ≡ false
        none i a b = here (cases (eqb i k))
          where
            here : Is (eqb i k) ⊎ (eqb i k ≡ false) → f i ≡ false
            here (inl h) = ap f (eq i k h) ∙ e
            here (inr h) = let n = neq i k h in d.1 i (omega (arith, n)) (omega arith)

-- ---- rounds

module _ (P : Program) (X : Atoms) where
  pub added_old : (k p : ℕ) → Is (added_by P X k p) → Is (added_by P X (suc k) p)
  unfolding added_by
  added_old k p h = or_l _ _ h

  pub added_later : (k d p : ℕ) → Is (added_by P X k p) → Is (added_by P X (d + k) p)
  added_later k zero p h = subst (λ (j : ℕ). Is (added_by P X j p)) (omega arith) h
  added_later k (suc d) p h = subst (λ (j : ℕ). Is (added_by P X j p)) (omega arith) (added_old (d + k) p (added_later k d p h))

  pub added_up : (k j p : ℕ) → k ≤ j → Is (added_by P X k p) → Is (added_by P X j p)
  added_up k j p l h = subst (λ (i : ℕ). Is (added_by P X i p)) (omega arith) (added_later k (j - k) p h)

  pub added_e : (k p : ℕ) → Is (added_by P X (suc k) p) → Is (added_by P X k p) ⊎ ((r : Rule) × (r ∈ P) × Is (adds X (added_by P X k) p r))
  unfolding added_by
  added_e k p h = at (or_e (added_by P X k p) _ h)
    where
      at : Is (added_by P X k p) ⊎ Is (any (adds X (added_by P X k) p) P) → Is (added_by P X k p) ⊎ ((r : Rule) × (r ∈ P) × Is (adds X (added_by P X k) p r))
      at (inl a) = inl a
      at (inr a) = inr (any_e (adds X (added_by P X k) p) P a)

  pub added_new : (k p : ℕ) {r : Rule} → r ∈ P → Is (adds X (added_by P X k) p r) → Is (added_by P X (suc k) p)
  unfolding added_by
  added_new k p m h = or_r (added_by P X k p) _ (any_i (adds X (added_by P X k) p) P m h)

  pub added_true : (k p : ℕ) → Is (added_by P X k p) → Is (X p)
  unfolding added_by adds
  added_true zero p h = absurd (false≢true h)
  added_true (suc k) p h = at (λ g. added_true k p g) (added_e k p h)
    where
      at : (Is (added_by P X k p) → Is (X p)) → Is (added_by P X k p) ⊎ ((r : Rule) × (r ∈ P) × Is (adds X (added_by P X k) p r)) → Is (X p)
      at ih (inl a) = ih a
      at ih (inr t) = (supports_only X t.0 p (and_l (supports X t.0 p) _ t.2)).is_true

  -- the rounds of `meaning`
  same_rounds : (k : ℕ) → added_by P X k ≡ round P X k
  unfolding added_by adds round step fires
  same_rounds zero = refl
  same_rounds (suc k) = ap {B = Atoms} (λ (G : Atoms) (p : ℕ). G p || any (λ r. supports X r p && all G r.pos) P) (same_rounds k)

  -- ---- the computed round, of 1 to m

  pub round_holds : (m p : ℕ) → 1 ≤ round_of P m X p → Is (added_by P X (round_of P m X p) p) × (round_of P m X p ≤ m)
  round_holds m p l = at (first_cases (λ k. added_by P X k p) 1 m)
    where
      at : FirstIs (λ k. added_by P X k p) 1 m (round_of P m X p) ⊎ ((round_of P m X p ≡ 0) × ((i : ℕ) → 1 ≤ i → i < 1 + m → added_by P X i p ≡ false))
          → Is (added_by P X (round_of P m X p) p) × (round_of P m X p ≤ m)
      at (inl d) = (d.passes, let u = d.upto in omega arith)
      at (inr d) = absurd (let e = d.0 in omega arith)

  pub holds_round : (m k p : ℕ) → k ≤ m → Is (added_by P X k p) → (1 ≤ round_of P m X p) × (round_of P m X p ≤ k)
  unfolding added_by
  holds_round m zero p l h = absurd (false≢true h)
  holds_round m (suc k) p l h = at (first_cases (λ k. added_by P X k p) 1 m)
    where
      at : FirstIs (λ k. added_by P X k p) 1 m (round_of P m X p) ⊎ ((round_of P m X p ≡ 0) × ((i : ℕ) → 1 ≤ i → i < 1 + m → added_by P X i p ≡ false))
          → (1 ≤ round_of P m X p) × (round_of P m X p ≤ suc k)
      at (inl d) = (d.from, low (ltb (suc k) (round_of P m X p)) refl)
        where
          low : (b : Bool) → ltb (suc k) (round_of P m X p) ≡ b → round_of P m X p ≤ suc k
          low true e = absurd (clash h (d.before (suc k) (omega arith) (lt (suc k) (round_of P m X p) e)))
          low false e = ge (suc k) (round_of P m X p) e
      at (inr d) = absurd (clash h (d.1 (suc k) (omega arith) (omega arith)))

  pub round_of_false : (m p : ℕ) → X p ≡ false → round_of P m X p ≡ 0
  round_of_false m p h = at (round_of P m X p) refl
    where
      at : (z : ℕ) → round_of P m X p ≡ z → round_of P m X p ≡ 0
      at zero e = e
      at (suc z) e = absurd (clash (added_true (round_of P m X p) p (round_holds m p (omega arith)).0) h)

  pub why_of_false : (m p : ℕ) → X p ≡ false → why_of P m X p ≡ no_why
  unfolding why_of
  why_of_false m p h = ap (why_at P X p) (round_of_false m p h)

  pub why_round : (m p : ℕ) → (why_of P m X p).round ≡ round_of P m X p
  unfolding why_of
  why_round m p = at (round_of P m X p)
    where
      at : (z : ℕ) → (why_at P X p z).round ≡ z
      at zero = refl
      at (suc z) = refl

  -- ---- where every true atom is added by round m, the computed rounds and rules are an explanation

  module _ (m : ℕ) (all-added : (p : ℕ) → Is (X p) → Is (added_by P X m p)) where
    w : ℕ → Why
    w = why_of P m X

    -- what can be added in round q + 1
    can : (q p : ℕ) (s : Rule) → CanAdd X w (suc q) p s → Is (adds X (added_by P X q) p s)
    unfolding adds w
    can q p s c = and_i c.supporting (all_i (added_by P X q) s.pos (λ b i.
        let d = c.earlier b i in
        let e = why_round m b in
        let x = d.0 in
        let y = d.1 in
        added_up (round_of P m X b) q b (omega arith) (round_holds m b (omega arith)).0))

    of_true_lem : (p : ℕ) → Is (X p) → Added P X w p
    unfolding w why_of adds added_by
    of_true_lem p h = at (round_of P m X p) refl
      where
        t : (1 ≤ round_of P m X p) × (round_of P m X p ≤ m)
        t = holds_round m m p (omega arith) (all-added p h)

        at : (z : ℕ) → round_of P m X p ≡ z → Added P X w p
        at zero e = absurd (let l = t.0 in omega arith)
        at (suc k) e = here (added_e k p (rw e at (round_holds m p t.0).0))
          where
            v : w p ≡ why_at P X p (suc k)
            v = ap (why_at P X p) e

            vr : (w p).round ≡ suc k
            vr = ap (λ (y : Why). y.round) v

            vn : lowest_rule (adds X (added_by P X k) p) P ≡ (w p).rule
            vn = sym (ap (λ (y : Why). y.rule) v)

            build : LowestIs (adds X (added_by P X k) p) 1 P (w p).rule → Added P X w p
            build d = record {
              rule = d.rule;
              number = d.number;
              from = let u = vr in omega arith;
              adding = record {
                supporting = and_l (supports X d.rule p) _ d.passes;
                earlier = λ b i. let a = holds_round m k b (let y = t.1 in omega arith) (all_at (added_by P X k) d.rule.pos (and_r (supports X d.rule p) _ d.passes) i) in
                    let f = why_round m b in let u = vr in let x = a.0 in let y = a.1 in (omega arith, omega arith);
              };
              first = λ q l s i c. first q l s i c;
              lowest = λ j s i c. d.lowest j s i (can k p s (subst (λ (q : ℕ). CanAdd X w q p s) vr c));
            }
              where
                first : (q : ℕ) → 1 ≤ q → (s : Rule) → s ∈ P → CanAdd X w q p s → (w p).round ≤ q
                first zero l s i c = absurd (omega arith)
                first (suc q) l s i c = far (cases (ltb q m))
                  where
                    far : Is (ltb q m) ⊎ (ltb q m ≡ false) → (w p).round ≤ suc q
                    far (inl y) = let u = vr in let a = holds_round m (suc q) p (lt q m y) (added_new q p i (can q p s c)) in let b = a.1 in omega arith
                    far (inr y) = let u = vr in let a = ge q m y in let b = t.1 in omega arith

            here : Is (added_by P X k p) ⊎ ((r : Rule) × (r ∈ P) × Is (adds X (added_by P X k) p r)) → Added P X w p
            here (inl a) = absurd (let c = holds_round m k p (let y = t.1 in omega arith) a in let d = c.1 in omega arith)
            here (inr a) = build (subst (λ (z : ℕ). LowestIs (adds X (added_by P X k) p) 1 P z) vn (lowest_is (adds X (added_by P X k) p) 1 P a.1 a.2))

    pub explains_by : Explains P X (why_of P m X)
    unfolding w
    explains_by = record { of_true = of_true_lem; of_false = λ p h. why_of_false m p h }

-- ---- the theorems

module _ (n : ℕ) (P : Program) (inside : AtomsIn n P) (X : Atoms) where
  low : Below (suc n) P
  low r m p h = let i = (inside r m).heads p h in let b = i.1 in omega arith

  module _ (F : Founded P X) where
    late : (p : ℕ) → Is (X p) → Is (added_by P X (suc (suc n)) p)
    late p h = rw (same_rounds P X (suc (suc n))) (closed_added P X (round P X (suc (suc n))) (round_closed P X (suc n) low) (F p h))

    in_time : (p : ℕ) → Is (X p) → Is (added_by P X n p)
    in_time p h =
        let E = explains_by P X (suc (suc n)) late in
        let A = E.of_true p h in
        round_added P X (why_of P (suc (suc n)) X) E n p A.from (round≤atoms P X (why_of P (suc (suc n)) X) E n inside p)

    pub why_explains : Explains P X (why_of P n X)
    why_explains = explains_by P X n in_time

    pub why_is_shown : (p : ℕ) → Is (X p) → Shown P n X (why_of P n X) p
    why_is_shown p h = shown P X (why_of P n X) why_explains n inside p h

    pub why_is_only : (w : ℕ → Why) → Explains P X w → w ≡ why_of P n X
    why_is_only w E = explains_one P X w (why_of P n X) E why_explains

-- an answer set of a program without head cycle
pub answer_explained : (n : ℕ) (P : Program) → AtomsIn n P → Free HeadCycle P → (X : Atoms) → AnswerSet P X → Explains P X (why_of P n X) × ((p : ℕ) → Is (X p) → Shown P n X (why_of P n X) p)
answer_explained n P inside free X A =
    let F = answer→founded (suc n) P (low n P inside X) free X A in
    (why_explains n P inside X F, why_is_shown n P inside X F)

pub explained_founded : (P : Program) (X : Atoms) (w : ℕ → Why) → Explains P X w → Founded P X
explained_founded P X w E p h =
    let A = E.of_true p h in
    round_sound P X (w p).round p (rw (same_rounds P X (w p).round) at (round_added P X w E (w p).round p A.from (omega arith)))

-- so the rounds are the foundedness test: all true atoms have one
pub founded_by_rounds : (n : ℕ) (P : Program) → AtomsIn n P → (X : Atoms) → Founded P X ↔ ((p : ℕ) → Is (X p) → 1 ≤ (why_of P n X p).round)
founded_by_rounds n P inside X = (λ F p h. ((why_explains n P inside X F).of_true p h).from, back)
  where
    back : ((p : ℕ) → Is (X p) → 1 ≤ (why_of P n X p).round) → Founded P X
    back f p h =
        let l = f p h in
        let e = why_round P X n p in
        let t = round_holds P X n p (omega arith) in
        round_sound P X (round_of P n X p) p (rw (same_rounds P X (round_of P n X p)) at t.0)
