-- From the search's turns to those of the listing: turns that lead the search on lead the listing on, and what a search that ended comes to in the listing.
-- Assumes nothing.
use Prim.Native.Nat.{ℕ, suc, ◌+◌, ◌-◌, ◌≤◌, ◌<◌}
use native.Mathlib.Omega.{arith}
use mathlib.Core.Path.{◌≡◌, refl, sym, ◌∙◌, ap, subst}
use mathlib.Core.Bool.{not}
use mathlib.Core.Option.{some}
use mathlib.Core.List.{List, [], ◌∷◌, ◌++◌}
use lib.ListN.{length}
use Rattle.meaning.specs.Aggregates.{Atoms}
use Rattle.meaning.proofs.Cond.{if_lt_yes, if_lt_no}
use Rattle.levels.specs.Levels.{up_to}
use Rattle.search.specs.Search.{Problem, Branch, Result, answer, no_answer, limit, State, Outcome, go, end, jump, go_back_by, jumped_as, jumped_reason, propagated, turn, start}
use Rattle.search.specs.Listing.{Jumped, Listing, Listed, stop, jumped_over, stopped, at_plan, resumed, onward, found, followed, list_turn, alone, list_all}
use Rattle.search.proofs.Fuel.{meas, turn_less}
use Rattle.search.proofs.ListRuns.{ListEnds, list_ends_stop, list_ends_on, list_ends_all}
use Rattle.search.proofs.Parts.{highest_up_to}
use Rattle.interpretation.specs.State.{true_atoms}
use Rattle.interpretation.specs.View.{view}
use Rattle.outcome.specs.declared.Start.{Start}
use Rattle.outcome.specs.declared.Halt.{Halt}
use Rattle.outcome.specs.declared.Ending.{Ending}
use Rattle.outcome.specs.declared.Ending.TheVariants as ending
use Rattle.jumping.specs.Jumping.{state_of, result_of, end_of, Led, here, on, Searched}
use Rattle.listing.specs.declared.Kind.{Kind}
use Rattle.listing.specs.declared.Kind.TheVariants.{Complete, Full, Limit}
use Rattle.listing.specs.declared.Told.{Told}
use Rattle.listing.specs.Rows.{rows_with, kind_by, ListsBy}

abbrev pub listing : State → List Atoms → List Jumped → Listing
listing c plans past = record { state = c; plans = plans; past = past }

module _ (P : Problem) (lim room : ℕ) (plans : List Atoms) (past : List Jumped) where
  -- ---- turns that lead on

  pub led_lists : (c d : State) (o : Listed) → Led P lim c d → ListEnds P jump lim room (listing d plans past) o → ListEnds P jump lim room (listing c plans past) o
  unfolding list_turn
  led_lists c d o (here e) x = subst (λ (s : State). ListEnds P jump lim room (listing s plans past) o) (sym e) x
  led_lists c d o (on {d = b} l e) x =
      led_lists c b o l (list_ends_on P jump lim room (listing b plans past) (listing d plans past) o (ap (followed P jump room (listing b plans past)) e) x)

  pub led_falls : (c d : State) → Led P lim c d → meas P lim d ≤ meas P lim c
  led_falls c d (here e) = subst (λ (s : State). meas P lim s ≤ meas P lim c) e (omega arith)
  led_falls c d (on {d = b} l e) = let h = turn_less P jump lim b d e in let k = led_falls c b l in omega arith

  -- ---- the search has ended

  module _ (last : State) (o : Outcome) (e : turn P jump lim last ≡ end o) where
    pub stops_other : (r : Result) → o.result ≡ r → r ≡ no_answer → list_turn P jump lim room (listing last plans past) ≡ stop (stopped plans past o)
    unfolding list_turn
    stops_other r f g = ap (followed P jump room (listing last plans past)) e ∙ ap (found P jump room (listing last plans past) o) (f ∙ g)

    pub stops_limit : o.result ≡ limit → list_turn P jump lim room (listing last plans past) ≡ stop (stopped plans past o)
    unfolding list_turn
    stops_limit f = ap (followed P jump room (listing last plans past)) e ∙ ap (found P jump room (listing last plans past) o) f

    pub stops_full : (X : Atoms) → o.result ≡ answer X → room ≤ length plans → list_turn P jump lim room (listing last plans past) ≡ stop (stopped plans past o)
    unfolding list_turn
    stops_full X f h =
        ap (followed P jump room (listing last plans past)) e ∙ ap (found P jump room (listing last plans past) o) f
        ∙ if_lt_no (length plans) room _ (stop (stopped plans past o)) h

    -- a plan is listed
    pub lists_plan : (X : Atoms) → o.result ≡ answer X → length plans < room
        → list_turn P jump lim room (listing last plans past) ≡ onward (plans ++ (X ∷ [])) (jumped_over plans o.skipped past) (resumed P jump last o)
    unfolding list_turn
    lists_plan X f h =
        ap (followed P jump room (listing last plans past)) e ∙ ap (found P jump room (listing last plans past) o) f
        ∙ if_lt_yes (length plans) room (onward (plans ++ (X ∷ [])) (jumped_over plans o.skipped past) (resumed P jump last o)) _ h

-- ---- after a plan

module _ (P : Problem) (last : State) (o : Outcome) where
  abbrev k : ℕ
  k = last.interpretation.level

  back_by : (m : ℕ) → k ≡ m → resumed P jump last o ≡ go_back_by P.first (at_plan P last o) (up_to k) m
  back_by m e = ap (go_back_by P.first (at_plan P last o) (up_to k)) (highest_up_to jump k ∙ e)

  pub resumed_end : k ≡ 0 → (q : Outcome) × (resumed P jump last o ≡ end q) × (q.result ≡ no_answer) × (q.choices ≡ o.choices) × (q.skips ≡ o.skips) × (q.passes ≡ o.passes)
  resumed_end e = let s : k + o.skips ≡ o.skips = omega arith in (_, back_by 0 e, refl, refl, s, refl)

  -- to the level before the present one
  pub record Resumes (j : ℕ) : Type 0 where
    pub next : State
    pub leads : resumed P jump last o ≡ go next
    pub stepped : next.interpretation ≡ jumped_as (not P.first) j (propagated P last).interpretation
    pub reasoned : next.reason ≡ jumped_reason j (propagated P last).interpretation (up_to k) (propagated P last).reason
    pub choices : next.choices ≡ o.choices
    pub skips : next.skips ≡ o.skips
    pub passes : next.passes ≡ o.passes

  pub resumed_go : (j : ℕ) → k ≡ suc j → Resumes j
  resumed_go j e = let s : (k - suc j) + o.skips ≡ o.skips = omega arith in record { next = _; leads = back_by (suc j) e; stepped = refl; reasoned = refl; choices = refl; skips = s; passes = refl }

-- ---- where the code stands

-- what has been listed: whatever the listing ends with from here, it ends with from the start
pub record Done (P : Problem) (lim room : ℕ) (old new : List ℕ) (from : Start) (reasons : List (List ℕ)) (number : ℕ) : Type 0 where
  pub plans : List Atoms
  pub past : List Jumped
  pub skipped : List Branch
  pub count : length plans ≡ number
  pub rows : new ≡ rows_with plans old
  pub ends : (o : Listed) → ListEnds P jump lim room (listing (state_of from reasons skipped) plans past) o → ListEnds P jump lim room (alone (start P)) o

module _ (P : Problem) (lim room : ℕ) (old new : List ℕ) (from : Start) (reasons : List (List ℕ)) (number : ℕ) (D : Done P lim room old new from reasons number)
    (h : Halt) (S : Searched P lim (state_of from reasons D.skipped) h) where
  abbrev pub plan : Atoms
  plan = true_atoms P.atoms (view h.found.it).cell

  abbrev pub ended : Outcome
  ended = end_of P.atoms h.found S.skipped

  -- a turn of the listing from the search's last state
  pub lists_by : (o : Listed) → list_turn P jump lim room (listing S.last D.plans D.past) ≡ stop o → list_all P jump lim room ≡ some o
  lists_by o e =
      list_ends_all P jump lim room o
      (D.ends o (led_lists P lim room D.plans D.past (state_of from reasons D.skipped) S.last o S.led (list_ends_stop P jump lim room (listing S.last D.plans D.past) o e)))

  -- it ends with what is listed
  pub stops : (k : Kind) → kind_by ended.result ≡ k → list_turn P jump lim room (listing S.last D.plans D.past) ≡ stop (stopped D.plans D.past ended)
      → (r : Told) → r ≡ record { kind = k; number = number; choices = h.found.choices; skips = h.found.skips; passes = h.found.passes } → ListsBy P lim room old new r
  stops k f e r g = record {
    outcome = stopped D.plans D.past ended;
    listed = lists_by (stopped D.plans D.past ended) e;
    result = g ∙ sym (λ t. record { kind = f t; number = D.count t; choices = h.found.choices; skips = h.found.skips; passes = h.found.passes });
    rows = D.rows;
  }

  -- nothing more was found, the limit is met, or a plan was found for which there is no row
  pub stops_none : h.found.ending ≡ ending.Nothing → (r : Told) → r ≡ record { kind = Complete; number = number; choices = h.found.choices; skips = h.found.skips; passes = h.found.passes } → ListsBy P lim room old new r
  stops_none e =
      stops Complete (ap (λ (x : Ending). kind_by (result_of x plan)) e)
      (stops_other P lim room D.plans D.past S.last ended S.ends no_answer (ap (λ (x : Ending). result_of x plan) e) refl)

  pub stops_met : h.found.ending ≡ ending.Limit → (r : Told) → r ≡ record { kind = Limit; number = number; choices = h.found.choices; skips = h.found.skips; passes = h.found.passes } → ListsBy P lim room old new r
  stops_met e =
      stops Limit (ap (λ (x : Ending). kind_by (result_of x plan)) e) (stops_limit P lim room D.plans D.past S.last ended S.ends (ap (λ (x : Ending). result_of x plan) e))

  pub stops_over : h.found.ending ≡ ending.Answer → room ≤ number → (r : Told) → r ≡ record { kind = Full; number = number; choices = h.found.choices; skips = h.found.skips; passes = h.found.passes } → ListsBy P lim room old new r
  stops_over e l =
      stops Full (ap (λ (x : Ending). kind_by (result_of x plan)) e)
      (stops_full P lim room D.plans D.past S.last ended S.ends plan (ap (λ (x : Ending). result_of x plan) e) (let k = D.count in omega arith))
