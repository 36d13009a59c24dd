-- THE FINAL THEOREMS of giving up constraints: of a program whose atoms lie in 1 .. n and which has no aggregate cycle and, in 01's mode, no head cycle.
--   relax_gives        a plan comes with kept constraints that are as `Keeps` says, and is the first answer set of the rules kept
--   given_one          kept constraints and plan are unique, so the numbers dropped are
--   drops_leave_none   "Putting back any one dropped constraint leaves no plan"
--   none_means_none    none is said only where the rules with heads alone have no answer set
--   none_is_said       where they have none, the call ends with none, or with limit at the first trial;  none-exactly: both, short of the limit
--   relax_ends         with a plan, with none, or with limit; limit only where a trial reaches it (`limit_is_a_trials`)
--   plan_keeps_all     where the program has an answer set nothing is dropped: the rules kept are the program
--   larger_limit       a call that does not end with limit ends alike under every larger one
-- Assumes nothing.
use mathlib.Core.Path.{◌≡◌, refl, sym, ap, ap₂, ◌∙◌, subst}
use mathlib.Core.Logic.{◌⊎◌, inl, inr, ◌≢◌, ◌↔◌}
use mathlib.Core.Bool.{Bool, true, false, cond, ◌||◌}
use mathlib.Core.Option.{some}
use mathlib.Core.List.{[], ◌∷◌}
use Prim.Native.Nat.{ℕ, suc, ◌≤◌}
use native.Mathlib.Omega.{arith}
use Rattle.meaning.specs.Lists.{Is, ◌∈◌, cons_if, keep}
use Rattle.meaning.specs.Aggregates.{Atoms}
use Rattle.meaning.specs.Program.{Rule, Program, AtomsIn}
use Rattle.meaning.specs.Answers.{AnswerSet, First}
use Rattle.meaning.specs.Dependency.{AggregateCycle, Free}
use Rattle.numbered.specs.Numbered.{NumberedFrom, Numbered}
use Rattle.meaning.proofs.Tools.{cases, or_l, or_r}
use Rattle.meaning.proofs.Order.{first_unique}
use Rattle.numbered.proofs.Numbered.{in_numbered}
use Rattle.search.specs.Search.{Problem, jump, Result, answer, no_answer, limit, Outcome, solve}
use Rattle.search.specs.Laws.{Laws}
use Rattle.search.proofs.Theorems as Search
use Rattle.smaller.specs.Cyclic.{base_by}
use Rattle.smaller.proofs.Modes.{HeadsFree, mode_base_laws}
use Rattle.relaxing.specs.Relaxing.{headed, rules_from, rules_of, dropped_of, none_kept, with_number, kept_before, offered_rules, Keeps, Trial, found, nothing, stopped, Relaxed, relaxed, no_plan, at_limit, by_result, by_outcome, trial, after, offer, relax_by, relax}
use Rattle.relaxing.proofs.Fewer.{Part, fewer_rules, part_inside, part_heads, part_aggregates}
use Rattle.relaxing.proofs.Kept.{rules_i, rules_part, dropped_e, heads_alone, keeps_one, put_back}
use Rattle.relaxing.proofs.Offered.{Judges, Given, relaxed_gives, not_no_plan, limit_not_relaxed, limit_not_no_plan}

-- ---- trials

trial_code : Trial → ℕ
trial_code (found X) = 0
trial_code nothing = 1
trial_code stopped = 2

found_nothing : {X : Atoms} → found X ≡ nothing → ⊥
unfolding trial_code
found_nothing e = let z : ◌≡◌ {A = ℕ} 0 1 = ap trial_code e in omega arith

found_stopped : {X : Atoms} → found X ≡ stopped → ⊥
unfolding trial_code
found_stopped e = let z : ◌≡◌ {A = ℕ} 0 2 = ap trial_code e in omega arith

nothing_stopped : nothing ≡ stopped → ⊥
unfolding trial_code
nothing_stopped e = let z : ◌≡◌ {A = ℕ} 1 2 = ap trial_code e in omega arith

found_one : {X Y : Atoms} → found X ≡ found Y → X ≡ Y
found_one e = ap plan_of e
  where
    plan_of : Trial → Atoms
    plan_of (found X) = X
    plan_of nothing = none_kept
    plan_of stopped = none_kept

module _ (cycles : Bool) (n : ℕ) (P : Program) (inside : AtomsIn n P) (no_head : HeadsFree cycles P) (noAgg : Free AggregateCycle P) (lim : ℕ) where
  -- the outcome behind a trial of a part of P
  module _ (Q : Program) (part : Part Q P) where
    abbrev problem : Problem
    problem = base_by cycles Q n

    laws : Laws (AnswerSet Q) problem
    laws = mode_base_laws cycles n Q (part_inside Q P part n inside) (λ e. part_heads Q P part (no_head e)) (part_aggregates Q P part noAgg)

    ends : (o : Outcome) × (solve problem jump lim ≡ some o)
    ends = Search.search_ends (AnswerSet Q) problem laws lim jump

    trial_is : trial cycles n lim Q ≡ by_result ends.0.result
    unfolding trial
    trial_is = ap by_outcome ends.1

    trial_found : (X : Atoms) → trial cycles n lim Q ≡ found X → AnswerSet Q X × First n (AnswerSet Q) X
    trial_found X e = at ends.0.result refl
      where
        at : (r : Result) → ends.0.result ≡ r → AnswerSet Q X × First n (AnswerSet Q) X
        at (answer Y) f =
            let y : Y ≡ X = found_one (sym (ap by_result f) ∙ sym trial_is ∙ e) in
            Search.answer_is_first (AnswerSet Q) problem laws lim jump ends.0 ends.1 refl X (f ∙ ap answer y)
        at no_answer f = absurd (found_nothing (sym e ∙ trial_is ∙ ap by_result f))
        at limit f = absurd (found_stopped (sym e ∙ trial_is ∙ ap by_result f))

    trial_nothing : trial cycles n lim Q ≡ nothing → (X : Atoms) → AnswerSet Q X → ⊥
    trial_nothing e = at ends.0.result refl
      where
        at : (r : Result) → ends.0.result ≡ r → (X : Atoms) → AnswerSet Q X → ⊥
        at (answer Y) f = absurd (found_nothing (sym (ap by_result f) ∙ sym trial_is ∙ e))
        at no_answer f = Search.none_means_none (AnswerSet Q) problem laws lim jump ends.0 ends.1 f
        at limit f = absurd (nothing_stopped (sym e ∙ trial_is ∙ ap by_result f))

    -- a trial is stopped only by the limit
    pub trial_stopped : trial cycles n lim Q ≡ stopped → (o : Outcome) × (solve problem jump lim ≡ some o) × (o.result ≡ limit)
    trial_stopped e = at ends.0.result refl
      where
        at : (r : Result) → ends.0.result ≡ r → (o : Outcome) × (solve problem jump lim ≡ some o) × (o.result ≡ limit)
        at (answer Y) f = absurd (found_stopped (sym (ap by_result f) ∙ sym trial_is ∙ e))
        at no_answer f = absurd (nothing_stopped (sym (ap by_result f) ∙ sym trial_is ∙ e))
        at limit f = (ends.0, ends.1, f)

    pub trial_larger : (more : ℕ) → lim ≤ more → trial cycles n lim Q ≢ stopped → trial cycles n more Q ≡ trial cycles n lim Q
    unfolding trial
    trial_larger more l d =
        let k : ends.0.result ≢ limit = λ f. d (trial_is ∙ ap by_result f) in
        ap by_outcome (Search.limit_no_matter (AnswerSet Q) problem laws lim more l jump ends.0 ends.1 k ∙ sym ends.1)

  pub trials_judge : Judges n P (trial cycles n lim)
  trials_judge = record { found_is = trial_found; nothing_is = trial_nothing }

-- ---- none, and limit: for any trials

module _ (try : Program → Trial) (P : Program) where
  offer_not_none : (rest : Program) (i : ℕ) (kept : ℕ → Bool) (plan : Atoms) → offer try P kept plan i rest ≡ no_plan → ⊥
  unfolding offer
  offer_not_none [] i kept plan e = not_no_plan e
  offer_not_none (r ∷ rest) i kept plan e = at (λ kept plan. offer_not_none rest (suc i) kept plan) (headed r) (try (rules_of P (with_number i kept))) e
    where
      at : ((kept : ℕ → Bool) (plan : Atoms) → offer try P kept plan (suc i) rest ≡ no_plan → ⊥) → (b : Bool) (t : Trial)
          → cond b (offer try P kept plan (suc i) rest) (after (λ Y. offer try P (with_number i kept) Y (suc i) rest) (offer try P kept plan (suc i) rest) t) ≡ no_plan → ⊥
      at ih true t f = ih kept plan f
      at ih false (found Y) f = ih (with_number i kept) Y f
      at ih false nothing f = ih kept plan f
      at ih false stopped f = limit_not_no_plan f

  offer_limit : (rest : Program) (i : ℕ) (kept : ℕ → Bool) (plan : Atoms) → offer try P kept plan i rest ≡ at_limit → (k : ℕ → Bool) × (try (rules_of P k) ≡ stopped)
  unfolding offer
  offer_limit [] i kept plan e = absurd (limit_not_relaxed (sym e))
  offer_limit (r ∷ rest) i kept plan e = at (λ kept plan. offer_limit rest (suc i) kept plan) (headed r) (try (rules_of P (with_number i kept))) refl e
    where
      at : ((kept : ℕ → Bool) (plan : Atoms) → offer try P kept plan (suc i) rest ≡ at_limit → (k : ℕ → Bool) × (try (rules_of P k) ≡ stopped)) → (b : Bool) (t : Trial) → try (rules_of P (with_number i kept)) ≡ t
          → cond b (offer try P kept plan (suc i) rest) (after (λ Y. offer try P (with_number i kept) Y (suc i) rest) (offer try P kept plan (suc i) rest) t) ≡ at_limit → (k : ℕ → Bool) × (try (rules_of P k) ≡ stopped)
      at ih true t g f = ih kept plan f
      at ih false (found Y) g f = ih (with_number i kept) Y f
      at ih false nothing g f = ih kept plan f
      at ih false stopped g f = (with_number i kept, g)

  relax_none : relax_by try P ≡ no_plan → try (rules_of P none_kept) ≡ nothing
  unfolding relax_by
  relax_none e = at (try (rules_of P none_kept)) refl e
    where
      at : (t : Trial) → try (rules_of P none_kept) ≡ t → after (λ Y. offer try P none_kept Y 1 P) no_plan t ≡ no_plan → try (rules_of P none_kept) ≡ nothing
      at (found Y) g f = absurd (offer_not_none P 1 none_kept Y f)
      at nothing g f = g
      at stopped g f = absurd (limit_not_no_plan f)

  relax_limit : relax_by try P ≡ at_limit → (k : ℕ → Bool) × (try (rules_of P k) ≡ stopped)
  unfolding relax_by
  relax_limit e = at (try (rules_of P none_kept)) refl e
    where
      at : (t : Trial) → try (rules_of P none_kept) ≡ t → after (λ Y. offer try P none_kept Y 1 P) no_plan t ≡ at_limit → (k : ℕ → Bool) × (try (rules_of P k) ≡ stopped)
      at (found Y) g f = offer_limit P 1 none_kept Y f
      at nothing g f = absurd (limit_not_no_plan (sym f))
      at stopped g f = (none_kept, g)

  -- trials that say no less: the same, unless the first ones are stopped
  module _ (more : Program → Trial) (same : (k : ℕ → Bool) → try (rules_of P k) ≢ stopped → more (rules_of P k) ≡ try (rules_of P k)) where
    offer_same : (rest : Program) (i : ℕ) (kept : ℕ → Bool) (plan : Atoms) → offer try P kept plan i rest ≢ at_limit → offer more P kept plan i rest ≡ offer try P kept plan i rest
    unfolding offer
    offer_same [] i kept plan d = refl
    offer_same (r ∷ rest) i kept plan d = at (λ kept plan. offer_same rest (suc i) kept plan) (headed r) (try (rules_of P (with_number i kept))) (more (rules_of P (with_number i kept))) (same (with_number i kept)) refl d
      where
        at : ((kept : ℕ → Bool) (plan : Atoms) → offer try P kept plan (suc i) rest ≢ at_limit → offer more P kept plan (suc i) rest ≡ offer try P kept plan (suc i) rest)
            → (b : Bool) (t u : Trial) → (try (rules_of P (with_number i kept)) ≢ stopped → u ≡ try (rules_of P (with_number i kept))) → try (rules_of P (with_number i kept)) ≡ t
            → cond b (offer try P kept plan (suc i) rest) (after (λ Y. offer try P (with_number i kept) Y (suc i) rest) (offer try P kept plan (suc i) rest) t) ≢ at_limit
            → cond b (offer more P kept plan (suc i) rest) (after (λ Y. offer more P (with_number i kept) Y (suc i) rest) (offer more P kept plan (suc i) rest) u)
            ≡ cond b (offer try P kept plan (suc i) rest) (after (λ Y. offer try P (with_number i kept) Y (suc i) rest) (offer try P kept plan (suc i) rest) t)
        at ih true t u s g c = ih kept plan c
        at ih false (found Y) u s g c =
            let v : u ≡ found Y = s (λ h. found_stopped (sym g ∙ h)) ∙ g in
            ap (after (λ Z. offer more P (with_number i kept) Z (suc i) rest) (offer more P kept plan (suc i) rest)) v ∙ ih (with_number i kept) Y c
        at ih false nothing u s g c =
            let v : u ≡ nothing = s (λ h. nothing_stopped (sym g ∙ h)) ∙ g in
            ap (after (λ Z. offer more P (with_number i kept) Z (suc i) rest) (offer more P kept plan (suc i) rest)) v ∙ ih kept plan c
        at ih false stopped u s g c = absurd (c refl)

    relax_same : relax_by try P ≢ at_limit → relax_by more P ≡ relax_by try P
    unfolding relax_by
    relax_same d = at (try (rules_of P none_kept)) (more (rules_of P none_kept)) (same none_kept) refl d
      where
        at : (t u : Trial) → (try (rules_of P none_kept) ≢ stopped → u ≡ try (rules_of P none_kept)) → try (rules_of P none_kept) ≡ t → after (λ Y. offer try P none_kept Y 1 P) no_plan t ≢ at_limit
            → after (λ Y. offer more P none_kept Y 1 P) no_plan u ≡ after (λ Y. offer try P none_kept Y 1 P) no_plan t
        at (found Y) u s g c =
            let v : u ≡ found Y = s (λ h. found_stopped (sym g ∙ h)) ∙ g in
            ap (after (λ Z. offer more P none_kept Z 1 P) no_plan) v ∙ offer_same P 1 none_kept Y c
        at nothing u s g c =
            let v : u ≡ nothing = s (λ h. nothing_stopped (sym g ∙ h)) ∙ g in
            ap (after (λ Z. offer more P none_kept Z 1 P) no_plan) v
        at stopped u s g c = absurd (c refl)

-- ---- uniqueness

pub given_one : (n : ℕ) (P : Program) (a b : ℕ → Bool) (X Y : Atoms) → Given n P a X → Given n P b Y → (a ≡ b) × (X ≡ Y) × (dropped_of P a ≡ dropped_of P b)
given_one n P a b X Y G H =
    let e = keeps_one P a b G.keeping H.keeping in
    let H' : Given n P a Y = subst (λ (k : ℕ → Bool). Given n P k Y) (sym e) H in
    (e, first_unique n (AnswerSet (rules_of P a)) X Y G.is_answer G.is_first H'.is_answer H'.is_first, ap (dropped_of P) e)

pub drops_leave_none : (n : ℕ) (P : Program) (kept : ℕ → Bool) (X : Atoms) → Given n P kept X → (i : ℕ) → i ∈ dropped_of P kept → (Y : Atoms) → AnswerSet (rules_of P (with_number i kept)) Y → ⊥
drops_leave_none n P kept X G i m Y A = let t = dropped_e kept 1 P i m in put_back P kept G.keeping i t.0 t.1 t.2 t.3 Y A

-- ---- a program that has an answer set

all_in : (kept : ℕ → Bool) (i : ℕ) (P : Program) → ((k : ℕ) (r : Rule) → NumberedFrom i P k r → Is (headed r || kept k)) → rules_from kept i P ≡ P
unfolding rules_from
all_in kept i [] f = refl
all_in kept i (r ∷ P) f = ap₂ (λ (b : Bool) (Q : Program). cons_if b r Q) (f i r (inl (refl, refl))) (all_in kept (suc i) P (λ k s m. f k s (inr m)))

pub plan_keeps_all : (P : Program) (kept : ℕ → Bool) → Keeps P kept → (Z : Atoms) → AnswerSet P Z → rules_of P kept ≡ P
plan_keeps_all P kept K Z A = all_in kept 1 P (λ k r m. at k r m (cases (headed r)) (cases (kept k)))
  where
    at : (k : ℕ) (r : Rule) → Numbered P k r → Is (headed r) ⊎ (headed r ≡ false) → Is (kept k) ⊎ (kept k ≡ false) → Is (headed r || kept k)
    at k r m (inl h) d = or_l _ _ h
    at k r m (inr h) (inl g) = or_r (headed r) _ g
    at k r m (inr h) (inr g) = absurd (K.drops k r m h g Z (fewer_rules (offered_rules P kept k) P (rules_part (with_number k (kept_before k kept)) P) (λ s q. cover s q (cases (headed s))) Z A))
      where
        cover : (s : Rule) → s ∈ P → Is (headed s) ⊎ (headed s ≡ false) → (s ∈ offered_rules P kept k) ⊎ (headed s ≡ false)
        cover s q (inl y) = let t = in_numbered 1 P q in inl (rules_i (with_number k (kept_before k kept)) 1 P t.0 s t.1 (or_l _ _ y))
        cover s q (inr y) = inr y

-- ---- the theorems

module _ (cycles : Bool) (n : ℕ) (P : Program) (inside : AtomsIn n P) (no_head : HeadsFree cycles P) (noAgg : Free AggregateCycle P) (lim : ℕ) where
  pub relax_gives : (kept : ℕ → Bool) (X : Atoms) → relax cycles n lim P ≡ relaxed kept X → Given n P kept X
  relax_gives kept X e = relaxed_gives n P (trial cycles n lim) (trials_judge cycles n P inside no_head noAgg lim) kept X e

  pub none_means_none : relax cycles n lim P ≡ no_plan → (X : Atoms) → AnswerSet (keep headed P) X → ⊥
  none_means_none e X A =
      (trials_judge cycles n P inside no_head noAgg lim).nothing_is (rules_of P none_kept) (rules_part none_kept P) (relax_none (trial cycles n lim) P e) X
      (subst (λ (Q : Program). AnswerSet Q X) (sym (heads_alone P)) A)

  -- the first trial is all that is made
  pub none_is_said : ((X : Atoms) → AnswerSet (keep headed P) X → ⊥) → (relax cycles n lim P ≡ no_plan) ⊎ ((relax cycles n lim P ≡ at_limit) × (trial cycles n lim (rules_of P none_kept) ≡ stopped))
  unfolding relax_by
  none_is_said absent = at (trial cycles n lim (rules_of P none_kept)) refl
    where
      at : (t : Trial) → trial cycles n lim (rules_of P none_kept) ≡ t → (relax cycles n lim P ≡ no_plan) ⊎ ((relax cycles n lim P ≡ at_limit) × (trial cycles n lim (rules_of P none_kept) ≡ stopped))
      at (found Y) g = absurd (absent Y (subst (λ (Q : Program). AnswerSet Q Y) (heads_alone P) ((trials_judge cycles n P inside no_head noAgg lim).found_is (rules_of P none_kept) (rules_part none_kept P) Y g).0))
      at nothing g = inl (ap (after (λ Y. offer (trial cycles n lim) P none_kept Y 1 P) no_plan) g)
      at stopped g = inr (ap (after (λ Y. offer (trial cycles n lim) P none_kept Y 1 P) no_plan) g, g)

  pub none_exactly : relax cycles n lim P ≢ at_limit → (relax cycles n lim P ≡ no_plan) ↔ ((X : Atoms) → AnswerSet (keep headed P) X → ⊥)
  none_exactly d = (none_means_none, λ absent. at (none_is_said absent))
    where
      at : (relax cycles n lim P ≡ no_plan) ⊎ ((relax cycles n lim P ≡ at_limit) × (trial cycles n lim (rules_of P none_kept) ≡ stopped)) → relax cycles n lim P ≡ no_plan
      at (inl e) = e
      at (inr t) = absurd (d t.0)

  pub limit_is_a_trials : relax cycles n lim P ≡ at_limit → (kept : ℕ → Bool) × (o : Outcome) × (solve (base_by cycles (rules_of P kept) n) jump lim ≡ some o) × (o.result ≡ limit)
  limit_is_a_trials e =
      let t = relax_limit (trial cycles n lim) P e in
      let s = trial_stopped cycles n P inside no_head noAgg lim (rules_of P t.0) (rules_part t.0 P) t.1 in
      (t.0, s.0, s.1, s.2)

  pub larger_limit : (more : ℕ) → lim ≤ more → relax cycles n lim P ≢ at_limit → relax cycles n more P ≡ relax cycles n lim P
  larger_limit more l d = relax_same (trial cycles n lim) P (trial cycles n more) (λ k s. trial_larger cycles n P inside no_head noAgg lim (rules_of P k) (rules_part k P) more l s) d

  -- one of three, and each says what it should
  pub relax_ends : ((kept : ℕ → Bool) × (X : Atoms) × (relax cycles n lim P ≡ relaxed kept X)) ⊎ ((relax cycles n lim P ≡ no_plan) ⊎ (relax cycles n lim P ≡ at_limit))
  relax_ends = at (relax cycles n lim P) refl
    where
      at : (r : Relaxed) → relax cycles n lim P ≡ r → ((kept : ℕ → Bool) × (X : Atoms) × (relax cycles n lim P ≡ relaxed kept X)) ⊎ ((relax cycles n lim P ≡ no_plan) ⊎ (relax cycles n lim P ≡ at_limit))
      at (relaxed k X) e = inl (k, X, e)
      at no_plan e = inr (inl e)
      at at_limit e = inr (inr e)
