-- "with the plain search unchanged": it depends on no reason. A propagation with the same values, whatever reasons it keeps, gives the same plain search: result, plan,
-- choices, skips, passes.
-- Assumes nothing.
use Prim.Native.Nat.{ℕ, zero, suc, ◌+◌, ◌-◌, ◌*◌, ◌<◌, ◌≤◌, max}
use mathlib.Core.Path.{◌≡◌, refl, sym, ◌∙◌, ap}
use mathlib.Core.Logic.{◌⊎◌, inl, inr}
use mathlib.Core.Bool.{true, false, not}
use mathlib.Core.Option.{Option, none, some}
use mathlib.Core.List.{◌++◌}
use Rattle.meaning.specs.Cond.{if_lt}
use Rattle.meaning.proofs.Cond.{lt_case, if_lt_yes, if_lt_no}
use Rattle.meaning.proofs.Tools.{clash}
use Rattle.levels.specs.Levels.{Levels, up_to}
use Rattle.interpretation.specs.State.{lowest, true_atoms, with_cells}
use Rattle.steps.specs.Steps.{Verdict, settled, conflict, is_settled}
use Rattle.search.specs.Search.{Problem, Tested, passed, failed, exhausted, plain, limit, State, Outcome, Next, go, opened_reason, jumped_as, jumped_reason, branches, ended, go_back_by, choosing_by, spend, tested, choose, settle, propagated, turn, cont, run, start, solve}
use Rattle.reasons.specs.Whole.{Propagation, SameValues, propagating_by}

-- the same state with other reasons
abbrev reasoned : (ℕ → Levels) → State → State
reasoned s c = record { interpretation = c.interpretation; reason = s; choices = c.choices; skips = c.skips; passes = c.passes; skipped = c.skipped }

module _ (P : Problem) (g : Propagation) (same : SameValues P.propagate g) (lim : ℕ) where
  abbrev Q : Problem
  Q = propagating_by g P

  module _ (f h : State → Option Outcome) (rec : (c : State) (s : ℕ → Levels) → f c ≡ h (reasoned s c)) where
    -- back to the last level, from a conflict with one reason or another
    back : (c : State) (s : ℕ → Levels) (C D : Levels) (m : ℕ) → cont f (go_back_by P.first c C m) ≡ cont h (go_back_by P.first (reasoned s c) D m)
    back c s C D zero = refl
    back c s C D (suc j) =
        rec (record {
          interpretation = jumped_as (not P.first) j c.interpretation;
          reason = jumped_reason j c.interpretation C c.reason;
          choices = c.choices;
          skips = (c.interpretation.level - suc j) + c.skips;
          passes = c.passes;
          skipped = branches c.interpretation.choice (suc j) c.interpretation.level ++ c.skipped;
        }) (jumped_reason j c.interpretation D s)

    test_same : (c : State) (s : ℕ → Levels) (t : Tested) → cont f (tested P plain lim c t) ≡ cont h (tested Q plain lim (reasoned s c) t)
    test_same c s (passed n) = refl
    test_same c s (failed n) = back (spend n c) s (up_to c.interpretation.level) (up_to c.interpretation.level) c.interpretation.level
    test_same c s exhausted = refl

    choose_same : (c : State) (s : ℕ → Levels) (o : Option ℕ) → cont f (choose P plain lim c o) ≡ cont h (choose Q plain lim (reasoned s c) o)
    choose_same c s none = test_same c s (P.test (lim - c.choices) (true_atoms P.atoms c.interpretation.cell))
    choose_same c s (some p) = at (lt_case c.choices lim)
      where
        opened : Next
        opened = go (choosing_by P.first p c)

        closed : Next
        closed = ended limit c

        opened' : Next
        opened' = go (choosing_by P.first p (reasoned s c))

        closed' : Next
        closed' = ended limit (reasoned s c)

        at : (c.choices < lim) ⊎ (lim ≤ c.choices) → cont f (if_lt c.choices lim opened closed) ≡ cont h (if_lt c.choices lim opened' closed')
        at (inl k) =
            ap (cont f) (if_lt_yes c.choices lim opened closed k) ∙ rec (choosing_by P.first p c) (opened_reason p c.interpretation s)
            ∙ sym (ap (cont h) (if_lt_yes c.choices lim opened' closed' k))
        at (inr k) = ap (cont f) (if_lt_no c.choices lim opened closed k) ∙ sym (ap (cont h) (if_lt_no c.choices lim opened' closed' k))

    settle_same : (c : State) (s : ℕ → Levels) (v w : Verdict) → is_settled v ≡ is_settled w → cont f (settle P plain lim c v) ≡ cont h (settle Q plain lim (reasoned s c) w)
    settle_same c s settled settled e = choose_same c s (lowest c.interpretation.cell P.atoms)
    settle_same c s settled (conflict D) e = absurd (clash {b = true} refl e)
    settle_same c s (conflict C) settled e = absurd (clash {b = false} e refl)
    settle_same c s (conflict C) (conflict D) e = back c s C D c.interpretation.level

  propagated_same : (c : State) (s : ℕ → Levels) → reasoned (g c.interpretation s).reason (propagated P c) ≡ propagated Q (reasoned s c)
  propagated_same c s = λ t. record {
    interpretation = with_cells c.interpretation (same.cells c.interpretation c.reason s t);
    reason = (g c.interpretation s).reason;
    choices = c.choices;
    skips = c.skips;
    passes = max c.passes (same.passes c.interpretation c.reason s t);
    skipped = c.skipped;
  }

  run_same : (n : ℕ) (c : State) (s : ℕ → Levels) → run P plain lim n c ≡ run Q plain lim n (reasoned s c)
  unfolding run turn
  run_same zero c s = refl
  run_same (suc n) c s =
      settle_same (run P plain lim n) (run Q plain lim n) (λ d u. run_same n d u) (propagated P c) (g c.interpretation s).reason (P.propagate c.interpretation c.reason).verdict
      (g c.interpretation s).verdict (same.verdicts c.interpretation c.reason s)
      ∙ ap (λ (d : State). cont (run Q plain lim n) (settle Q plain lim d (g c.interpretation s).verdict)) (propagated_same c s)

  -- THE THEOREM
  pub plain_reads_no_reason : solve P plain lim ≡ solve (propagating_by g P) plain lim
  unfolding solve
  plain_reads_no_reason = run_same (suc lim * suc P.atoms) (start P) (λ p l. false)
