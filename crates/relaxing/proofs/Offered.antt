-- Offering the constraints by trials, for any trials that judge the parts of the program rightly: what is kept is what `Keeps` says, and the plan is the first.
-- Assumes nothing.
use mathlib.Core.Path.{◌≡◌, refl, sym, ap, ◌∙◌, fun_ext, subst}
use mathlib.Core.Logic.{◌⊎◌, inl, inr, ◌≢◌}
use mathlib.Core.Bool.{Bool, true, false, cond}
use mathlib.Core.List.{[], ◌∷◌}
use Prim.Native.Nat.{ℕ, suc, ◌≤◌, ◌<◌}
use native.Mathlib.Omega.{arith}
use Rattle.meaning.specs.Lists.{Is}
use Rattle.meaning.specs.Aggregates.{Atoms}
use Rattle.meaning.specs.Program.{Rule, Program}
use Rattle.meaning.specs.Answers.{AnswerSet, First}
use Rattle.numbered.specs.Numbered.{NumberedFrom, Numbered}
use Rattle.meaning.proofs.Tools.{clash, contra}
use Rattle.meaning.proofs.Cond.{if_lt_yes, if_lt_no, if_eq_yes, if_eq_no, lt_case, eq_case}
use Rattle.numbered.proofs.Numbered.{numbered_from_lem, numbered_one}
use Rattle.relaxing.specs.Relaxing.{headed, rules_of, none_kept, with_number, kept_before, offered_rules, Keeps, Trial, found, nothing, stopped, Relaxed, relaxed, no_plan, at_limit, after, offer, relax_by}
use Rattle.relaxing.proofs.Fewer.{Part}
use Rattle.relaxing.proofs.Kept.{rules_part, offered_same}

-- the trials judge the parts of P rightly
pub record Judges (n : ℕ) (P : Program) (try : Program → Trial) : Type 0 where
  pub found_is : (Q : Program) → Part Q P → (X : Atoms) → try Q ≡ found X → AnswerSet Q X × First n (AnswerSet Q) X
  pub nothing_is : (Q : Program) → Part Q P → try Q ≡ nothing → (X : Atoms) → AnswerSet Q X → ⊥

-- what is said at the end
pub record Given (n : ℕ) (P : Program) (kept : ℕ → Bool) (plan : Atoms) : Type 0 where
  pub keeping : Keeps P kept
  pub is_answer : AnswerSet (rules_of P kept) plan
  pub is_first : First n (AnswerSet (rules_of P kept)) plan

-- the same of the constraints below number i
record Sofar (n : ℕ) (P : Program) (kept : ℕ → Bool) (plan : Atoms) (i : ℕ) : Type 0 where
  only : (j : ℕ) → Is (kept j) → (j < i) × ((r : Rule) × Numbered P j r × (headed r ≡ false))
  keeps : (j : ℕ) (r : Rule) → j < i → Numbered P j r → headed r ≡ false → Is (kept j) → (X : Atoms) × AnswerSet (offered_rules P kept j) X
  drops : (j : ℕ) (r : Rule) → j < i → Numbered P j r → headed r ≡ false → kept j ≡ false → (X : Atoms) → AnswerSet (offered_rules P kept j) X → ⊥
  is_answer : AnswerSet (rules_of P kept) plan
  is_first : First n (AnswerSet (rules_of P kept)) plan

-- `rest` are the rules of P from number i on
record Rest (P : Program) (i : ℕ) (rest : Program) : Type 0 where
  there : (j : ℕ) (r : Rule) → NumberedFrom i rest j r → Numbered P j r
  here : (j : ℕ) (r : Rule) → i ≤ j → Numbered P j r → NumberedFrom i rest j r

relaxed_one : {a b : ℕ → Bool} {X Y : Atoms} → relaxed a X ≡ relaxed b Y → (a ≡ b) × (X ≡ Y)
relaxed_one e = (ap kept_of e, ap plan_of e)
  where
    kept_of : Relaxed → ℕ → Bool
    kept_of (relaxed k p) = k
    kept_of no_plan = none_kept
    kept_of at_limit = none_kept

    plan_of : Relaxed → Atoms
    plan_of (relaxed k p) = p
    plan_of no_plan = none_kept
    plan_of at_limit = none_kept

kind : Relaxed → ℕ
kind (relaxed k p) = 0
kind no_plan = 1
kind at_limit = 2

pub not_no_plan : {k : ℕ → Bool} {p : Atoms} → relaxed k p ≡ no_plan → ⊥
unfolding kind
not_no_plan e = let z : ◌≡◌ {A = ℕ} 0 1 = ap kind e in omega arith

pub not_relaxed : {k : ℕ → Bool} {p : Atoms} → no_plan ≡ relaxed k p → ⊥
not_relaxed e = not_no_plan (sym e)

pub limit_not_relaxed : {k : ℕ → Bool} {p : Atoms} → at_limit ≡ relaxed k p → ⊥
unfolding kind
limit_not_relaxed e = let z : ◌≡◌ {A = ℕ} 2 0 = ap kind e in omega arith

pub limit_not_no_plan : at_limit ≡ no_plan → ⊥
unfolding kind
limit_not_no_plan e = let z : ◌≡◌ {A = ℕ} 2 1 = ap kind e in omega arith

module _ (n : ℕ) (P : Program) (try : Program → Trial) (J : Judges n P try) where
  -- nothing kept from i on: constraint i is offered with what is kept
  offered_now : (kept : ℕ → Bool) (i : ℕ) → ((j : ℕ) → Is (kept j) → j < i) → kept_before i kept ≡ kept
  offered_now kept i f = fun_ext (λ j. at j (lt_case j i))
    where
      at : (j : ℕ) → (j < i) ⊎ (i ≤ j) → kept_before i kept j ≡ kept j
      at j (inl l) = if_lt_yes j i (kept j) false l
      at j (inr l) = if_lt_no j i (kept j) false l ∙ sym (contra (kept j) {b = false} (λ h. let g = f j h in absurd (omega arith)) refl)

  module _ (kept : ℕ → Bool) (plan : Atoms) (i : ℕ) (S : Sofar n P kept plan i) where
    low : (j : ℕ) → Is (kept j) → j < i
    low j h = (S.only j h).0

    rules_now : offered_rules P kept i ≡ rules_of P (with_number i kept)
    rules_now = ap (λ (k : ℕ → Bool). rules_of P (with_number i k)) (offered_now kept i low)

    unkept : kept i ≡ false
    unkept = contra (kept i) {b = false} (λ h. let g = low i h in absurd (omega arith)) refl

    -- a rule that has a head
    pass : (r : Rule) → Numbered P i r → Is (headed r) → Sofar n P kept plan (suc i)
    pass r m h = record {
      only = λ j k. let t = S.only j k in (let l = t.0 in omega arith, t.1);
      keeps = λ j s l q c k. S.keeps j s (low j k) q c k;
      drops = λ j s l q c k X A. drop j s l q c k X A (lt_case j i);
      is_answer = S.is_answer;
      is_first = S.is_first;
    }
      where
        drop : (j : ℕ) (s : Rule) → j < suc i → Numbered P j s → headed s ≡ false → kept j ≡ false → (X : Atoms) → AnswerSet (offered_rules P kept j) X → (j < i) ⊎ (i ≤ j) → ⊥
        drop j s l q c k X A (inl y) = S.drops j s y q c k X A
        drop j s l q c k X A (inr y) =
            let e : j ≡ i = omega arith in
            clash h (ap headed (numbered_one 1 P i r s m (subst (λ (z : ℕ). Numbered P z s) e q)) ∙ c)

    -- a constraint with which no answer set exists
    leave : (r : Rule) → Numbered P i r → ((X : Atoms) → AnswerSet (rules_of P (with_number i kept)) X → ⊥) → Sofar n P kept plan (suc i)
    leave r m none = record {
      only = λ j k. let t = S.only j k in (let l = t.0 in omega arith, t.1);
      keeps = λ j s l q c k. S.keeps j s (low j k) q c k;
      drops = λ j s l q c k X A. drop j s l q c k X A (lt_case j i);
      is_answer = S.is_answer;
      is_first = S.is_first;
    }
      where
        drop : (j : ℕ) (s : Rule) → j < suc i → Numbered P j s → headed s ≡ false → kept j ≡ false → (X : Atoms) → AnswerSet (offered_rules P kept j) X → (j < i) ⊎ (i ≤ j) → ⊥
        drop j s l q c k X A (inl y) = S.drops j s y q c k X A
        drop j s l q c k X A (inr y) =
            let e : j ≡ i = omega arith in
            none X (subst (λ (Q : Program). AnswerSet Q X) rules_now (subst (λ (z : ℕ). AnswerSet (offered_rules P kept z) X) e A))

    -- a constraint with which one exists
    take : (r : Rule) → Numbered P i r → headed r ≡ false → (X : Atoms) → AnswerSet (rules_of P (with_number i kept)) X → First n (AnswerSet (rules_of P (with_number i kept))) X → Sofar n P (with_number i kept) X (suc i)
    take r m h X A F = record { only = only; keeps = keeps; drops = drops; is_answer = A; is_first = F }
      where
        new : ℕ → Bool
        new = with_number i kept

        other : (j : ℕ) → j ≢ i → new j ≡ kept j
        other j d = if_eq_no j i true (kept j) d

        below : (j : ℕ) → j ≤ i → (k : ℕ) → k < j → new k ≡ kept k
        below j l k y = other k (λ e. absurd (omega arith))

        only : (j : ℕ) → Is (new j) → (j < suc i) × ((s : Rule) × Numbered P j s × (headed s ≡ false))
        only j k = at (eq_case j i)
          where
            at : (j ≡ i) ⊎ (j ≢ i) → (j < suc i) × ((s : Rule) × Numbered P j s × (headed s ≡ false))
            at (inl e) = (omega arith, (r, subst (λ (z : ℕ). Numbered P z r) (sym e) m, h))
            at (inr d) = let t = S.only j (sym (other j d) ∙ k) in (let l = t.0 in omega arith, t.1)

        keeps : (j : ℕ) (s : Rule) → j < suc i → Numbered P j s → headed s ≡ false → Is (new j) → (Y : Atoms) × AnswerSet (offered_rules P new j) Y
        keeps j s l q c k = at (eq_case j i)
          where
            at : (j ≡ i) ⊎ (j ≢ i) → (Y : Atoms) × AnswerSet (offered_rules P new j) Y
            at (inl e) = (X, subst (λ (Q : Program). AnswerSet Q X) (sym (ap (offered_rules P new) e ∙ offered_same P new kept i (below i (omega arith)) ∙ rules_now)) A)
            at (inr d) =
                let t = S.keeps j s (omega (arith, d)) q c (sym (other j d) ∙ k) in
                (t.0, subst (λ (Q : Program). AnswerSet Q t.0) (sym (offered_same P new kept j (below j (omega arith)))) t.1)

        drops : (j : ℕ) (s : Rule) → j < suc i → Numbered P j s → headed s ≡ false → new j ≡ false → (Y : Atoms) → AnswerSet (offered_rules P new j) Y → ⊥
        drops j s l q c k Y B = at (eq_case j i)
          where
            at : (j ≡ i) ⊎ (j ≢ i) → ⊥
            at (inl e) = clash (if_eq_yes j i true (kept j) e) k
            at (inr d) = S.drops j s (omega (arith, d)) q c (sym (other j d) ∙ k) Y (subst (λ (Q : Program). AnswerSet Q Y) (offered_same P new kept j (below j (omega arith))) B)

  rest_tail : (i : ℕ) (r : Rule) (rest : Program) → Rest P i (r ∷ rest) → Rest P (suc i) rest
  rest_tail i r rest R = record { there = λ j s m. R.there j s (inr m); here = λ j s l m. at j s l (R.here j s (omega arith) m) }
    where
      at : (j : ℕ) (s : Rule) → suc i ≤ j → NumberedFrom i (r ∷ rest) j s → NumberedFrom (suc i) rest j s
      at j s l (inl m) = absurd (let e = m.0 in omega arith)
      at j s l (inr m) = m

  offered_gives : (rest : Program) (i : ℕ) (kept : ℕ → Bool) (plan : Atoms) → Rest P i rest → Sofar n P kept plan i
      → (k : ℕ → Bool) (X : Atoms) → offer try P kept plan i rest ≡ relaxed k X → Given n P k X
  unfolding offer
  offered_gives [] i kept plan R S k X e =
      let t = relaxed_one e in
      subst (λ (z : ℕ → Bool). Given n P z X) t.0 (subst (λ (z : Atoms). Given n P kept z) t.1 (record {
        keeping = record {
          only = λ j h. (S.only j h).1;
          keeps = λ j r m c h. S.keeps j r (S.only j h).0 m c h;
          drops = λ j r m c h Y A. S.drops j r (past j r m (lt_case j i)) m c h Y A;
        };
        is_answer = S.is_answer;
        is_first = S.is_first;
      }))
    where
      past : (j : ℕ) (r : Rule) → Numbered P j r → (j < i) ⊎ (i ≤ j) → j < i
      past j r m (inl l) = l
      past j r m (inr l) = absurd (R.here j r l m)
  offered_gives (r ∷ rest) i kept plan R S k X e =
      at (λ kept plan T. offered_gives rest (suc i) kept plan (rest_tail i r rest R) T k X) (headed r) refl (try (rules_of P (with_number i kept))) refl e
    where
      at : ((kept : ℕ → Bool) (plan : Atoms) → Sofar n P kept plan (suc i) → offer try P kept plan (suc i) rest ≡ relaxed k X → Given n P k X)
          → (b : Bool) → headed r ≡ b → (t : Trial) → try (rules_of P (with_number i kept)) ≡ t
          → cond b (offer try P kept plan (suc i) rest) (after (λ Y. offer try P (with_number i kept) Y (suc i) rest) (offer try P kept plan (suc i) rest) t) ≡ relaxed k X → Given n P k X
      at ih true h t g f = ih kept plan (pass kept plan i S r (R.there i r (inl (refl, refl))) h) f
      at ih false h (found Y) g f =
          let j = J.found_is (rules_of P (with_number i kept)) (rules_part (with_number i kept) P) Y g in
          ih (with_number i kept) Y (take kept plan i S r (R.there i r (inl (refl, refl))) h Y j.0 j.1) f
      at ih false h nothing g f = ih kept plan (leave kept plan i S r (R.there i r (inl (refl, refl))) (J.nothing_is (rules_of P (with_number i kept)) (rules_part (with_number i kept) P) g)) f
      at ih false h stopped g f = absurd (limit_not_relaxed f)

  start : (X : Atoms) → AnswerSet (rules_of P none_kept) X → First n (AnswerSet (rules_of P none_kept)) X → Sofar n P none_kept X 1
  start X A F = record {
    only = λ j h. absurd (clash h refl);
    keeps = λ j r l m c h. absurd (clash h refl);
    drops = λ j r l m c h Y B. absurd (let g = numbered_from_lem 1 P j r m in omega arith);
    is_answer = A;
    is_first = F;
  }

  pub relaxed_gives : (k : ℕ → Bool) (X : Atoms) → relax_by try P ≡ relaxed k X → Given n P k X
  unfolding relax_by
  relaxed_gives k X e = at (try (rules_of P none_kept)) refl e
    where
      at : (t : Trial) → try (rules_of P none_kept) ≡ t → after (λ Y. offer try P none_kept Y 1 P) no_plan t ≡ relaxed k X → Given n P k X
      at (found Y) g f =
          let j = J.found_is (rules_of P none_kept) (rules_part none_kept P) Y g in
          offered_gives P 1 none_kept Y (record { there = λ j r m. m; here = λ j r l m. m }) (start Y j.0 j.1) k X f
      at nothing g f = absurd (not_relaxed f)
      at stopped g f = absurd (limit_not_relaxed f)
