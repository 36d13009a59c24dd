-- One rule offered, as the code does it: what offering the rest makes of what is held then is what offering the rule and the rest made of what was held.
-- Assumes nothing.
use mathlib.Core.Path.{◌≡◌, refl, sym, ap, ◌∙◌}
use mathlib.Core.Bool.{Bool, true, false, cond}
use mathlib.Core.List.{[], ◌∷◌}
use Prim.Native.Nat.{ℕ, suc}
use native.Mathlib.Omega.{arith}
use Rattle.meaning.specs.Aggregates.{Atoms}
use Rattle.meaning.specs.Program.{Rule, Program}
use Rattle.levels.specs.View.{row}
use Rattle.interpretation.specs.State.{true_atoms}
use Rattle.interpretation.specs.View.{valued}
use Rattle.outcome.specs.declared.Ending.{Ending}
use Rattle.outcome.specs.declared.Ending.TheVariants as ending
use Rattle.relaxing.specs.Relaxing.{headed, rules_of, none_kept, with_number, Trial, found, nothing, stopped, Relaxed, relaxed, no_plan, at_limit, after, offer, relax_by}
use Rattle.relaxer.specs.declared.Offered.{Offered}
use Rattle.relaxer.specs.Offering.{is_answer, is_nothing, trial_by, trial_of, goes_on, held_by}

module _ (try : Program → Trial) (P : Program) (n : ℕ) where
  -- ---- the definition, one rule at a time

  offer_on : (kept : ℕ → Bool) (X : Atoms) (i : ℕ) (r : Rule) (rest : Program) → offer try P kept X i (r ∷ rest)
      ≡ cond (headed r) (offer try P kept X (suc i) rest) (after (λ Y. offer try P (with_number i kept) Y (suc i) rest) (offer try P kept X (suc i) rest) (try (rules_of P (with_number i kept))))
  unfolding offer
  offer_on kept X i r rest = refl

  offer_end : (kept : ℕ → Bool) (X : Atoms) (i : ℕ) → offer try P kept X i [] ≡ relaxed kept X
  unfolding offer
  offer_end kept X i = refl

  module _ (o : Offered) (i : ℕ) (r : Rule) (rest : Program) where
    abbrev X : Atoms
    X = true_atoms n (valued o.values)

    abbrev kept : ℕ → Bool
    kept = row o.kept

    by : Ending → Program → ℕ → Relaxed
    by e Q k = after (λ Y. offer try P kept Y k Q) no_plan (trial_by e X)

    -- ---- nothing is offered any more

    over : (e : Ending) → is_answer e ≡ false → by e rest (suc i) ≡ by e (r ∷ rest) i
    unfolding by
    over ending.Answer h = absurd (let z : ◌≡◌ {A = ℕ} 0 1 = cc in omega arith)
    over ending.Nothing h = refl
    over ending.Limit h = refl

    pub on_over : is_answer o.ending ≡ false → goes_on try P n o (suc i) rest ≡ goes_on try P n o i (r ∷ rest)
    unfolding by
    on_over h = over o.ending h

    -- ---- a rule with a head

    head : headed r ≡ true → (e : Ending) → by e rest (suc i) ≡ by e (r ∷ rest) i
    unfolding by
    head h ending.Answer =
        sym (offer_on kept X i r rest ∙ ap (λ (b : Bool). cond b (offer try P kept X (suc i) rest) (after (λ Y. offer try P (with_number i kept) Y (suc i) rest) (offer try P kept X (suc i) rest) (try (rules_of P (with_number i kept))))) h)
    head h ending.Nothing = refl
    head h ending.Limit = refl

    pub on_head : headed r ≡ true → goes_on try P n o (suc i) rest ≡ goes_on try P n o i (r ∷ rest)
    unfolding by
    on_head h = head h o.ending

    -- ---- a constraint, by its trial

    abbrev tried : Trial
    tried = try (rules_of P (with_number i kept))

    constraint : headed r ≡ false → (e : Ending) → is_answer e ≡ true → by e (r ∷ rest) i ≡ after (λ Y. offer try P (with_number i kept) Y (suc i) rest) (offer try P kept X (suc i) rest) tried
    unfolding by
    constraint h ending.Answer g =
        offer_on kept X i r rest ∙ ap (λ (b : Bool). cond b (offer try P kept X (suc i) rest) (after (λ Y. offer try P (with_number i kept) Y (suc i) rest) (offer try P kept X (suc i) rest) (try (rules_of P (with_number i kept))))) h
    constraint h ending.Nothing g = absurd (let z : ◌≡◌ {A = ℕ} 0 1 = cc in omega arith)
    constraint h ending.Limit g = absurd (let z : ◌≡◌ {A = ℕ} 0 1 = cc in omega arith)

    held_on : (e : Ending) → is_answer e ≡ true → by e rest (suc i) ≡ offer try P kept X (suc i) rest
    unfolding by
    held_on ending.Answer g = refl
    held_on ending.Nothing g = absurd (let z : ◌≡◌ {A = ℕ} 0 1 = cc in omega arith)
    held_on ending.Limit g = absurd (let z : ◌≡◌ {A = ℕ} 0 1 = cc in omega arith)

    module _ (q : Offered) (same : row q.kept ≡ with_number i kept) (told : trial_of n q ≡ tried) (h : headed r ≡ false) (g : is_answer o.ending ≡ true) where
      abbrev dropped : Relaxed
      dropped = offer try P kept X (suc i) rest

      as_tried : goes_on try P n o i (r ∷ rest) ≡ after (λ Y. offer try P (row q.kept) Y (suc i) rest) dropped (trial_of n q)
      unfolding by
      as_tried =
          constraint h o.ending g ∙ ap (λ (k : ℕ → Bool). after (λ Y. offer try P k Y (suc i) rest) dropped tried) (sym same)
          ∙ ap (after (λ Y. offer try P (row q.kept) Y (suc i) rest) dropped) (sym told)

      none : (e : Ending) (Y : Atoms) → is_nothing e ≡ true → after (λ Y. offer try P (row q.kept) Y (suc i) rest) dropped (trial_by e Y) ≡ dropped
      none ending.Answer Y z = absurd (let z : ◌≡◌ {A = ℕ} 0 1 = cc in omega arith)
      none ending.Nothing Y z = refl
      none ending.Limit Y z = absurd (let z : ◌≡◌ {A = ℕ} 0 1 = cc in omega arith)

      -- it leaves no plan: dropped
      pub on_dropped : is_nothing q.ending ≡ true → goes_on try P n o (suc i) rest ≡ goes_on try P n o i (r ∷ rest)
      unfolding by
      on_dropped z = held_on o.ending g ∙ sym (none q.ending (true_atoms n (valued q.values)) z) ∙ sym as_tried

      some : (e : Ending) (Y : Atoms) → is_nothing e ≡ false
          → after (λ Y. offer try P (row q.kept) Y (suc i) rest) no_plan (trial_by e Y) ≡ after (λ Y. offer try P (row q.kept) Y (suc i) rest) dropped (trial_by e Y)
      some ending.Answer Y z = refl
      some ending.Nothing Y z = absurd (let z : ◌≡◌ {A = ℕ} 0 1 = cc in omega arith)
      some ending.Limit Y z = refl

      -- it is kept, or its trial met the limit
      pub on_tried : is_nothing q.ending ≡ false → goes_on try P n q (suc i) rest ≡ goes_on try P n o i (r ∷ rest)
      on_tried z = some q.ending (true_atoms n (valued q.values)) z ∙ sym as_tried

  -- ---- the first trial, and the end

  pub begins : (o : Offered) → row o.kept ≡ none_kept → trial_of n o ≡ try (rules_of P none_kept) → goes_on try P n o 1 P ≡ relax_by try P
  unfolding relax_by
  begins o e f = ap (λ (k : ℕ → Bool). after (λ Y. offer try P k Y 1 P) no_plan (trial_of n o)) e ∙ ap (after (λ Y. offer try P none_kept Y 1 P) no_plan) f

  pub ends : (o : Offered) (i : ℕ) → held_by n o ≡ goes_on try P n o i []
  ends o i = at (trial_of n o)
    where
      at : (x : Trial) → after (λ X. relaxed (row o.kept) X) no_plan x ≡ after (λ X. offer try P (row o.kept) X i []) no_plan x
      at (found X) = sym (offer_end (row o.kept) X i)
      at nothing = refl
      at stopped = refl

-- ---- what is held, by how the last trial ended

module _ (n : ℕ) (o : Offered) where
  held_by_lem : (e : Ending) → o.ending ≡ e → held_by n o ≡ after (λ X. relaxed (row o.kept) X) no_plan (trial_by e (true_atoms n (valued o.values)))
  held_by_lem e h = ap (λ (x : Ending). after (λ X. relaxed (row o.kept) X) no_plan (trial_by x (true_atoms n (valued o.values)))) h

  pub held_answer : o.ending ≡ ending.Answer → held_by n o ≡ relaxed (row o.kept) (true_atoms n (valued o.values))
  held_answer h = held_by_lem ending.Answer h

  pub held_none : o.ending ≡ ending.Nothing → held_by n o ≡ no_plan
  held_none h = held_by_lem ending.Nothing h

  pub held_limit : o.ending ≡ ending.Limit → held_by n o ≡ at_limit
  held_limit h = held_by_lem ending.Limit h
