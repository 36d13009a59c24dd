-- THE PLAN OF A SESSION: of a program whose atoms lie in 1 .. n and which has neither a head cycle nor an aggregate cycle, with any pins that a session can hold
-- (`held_good`). `plan_of_lem` says which search a plan is; demands 2 and 3 read over the answer sets that agree with the pins.
--   plan_ends            it ends, with one outcome
--   plan_is_first        the plan is the first answer set that agrees with all pins;  plan-is-found: unless the limit stops it
--   plan_none            none exactly if no answer set agrees with them, short of the limit
--   plan-choices, plan-limit, plan-skips, plan-skipped, plan_skips≤choices, plan-alike    demand 3
--   pins_conflict        a conflict that rests on the pins alone has an empty reason, and ends with none, no choices and no skips, whatever the final test (request 14)
--   start_cells_lem          setting the pins in order makes the cells at which the search starts
-- Assumes nothing.
use mathlib.Core.Path.{◌≡◌, refl, sym, ap, ◌∙◌, fun_ext, subst}
use mathlib.Core.Logic.{◌⊎◌, inl, inr, ◌≢◌, ◌↔◌}
use mathlib.Core.Bool.{Bool, true, false}
use mathlib.Core.Option.{Option, none, some}
use mathlib.Core.List.Memᴰ
use mathlib.Core.List.{[], ◌∷◌}
use Prim.Native.Nat.{ℕ, zero, suc, ◌*◌, ◌≤◌, ◌<◌, max}
use native.Mathlib.Omega.{arith}
use lib.Dec.{ltb}
use lib.ListN.{length}
use Rattle.meaning.specs.Lists.{◌∈◌}
use Rattle.meaning.specs.Cond.{if_eq}
use Rattle.meaning.specs.Aggregates.{Atoms}
use Rattle.meaning.specs.Program.{Program, In, AtomsIn}
use Rattle.meaning.specs.Answers.{First}
use Rattle.meaning.specs.Dependency.{HeadCycle, AggregateCycle, Free}
use Rattle.meaning.proofs.Tools.{contra}
use Rattle.meaning.proofs.Bounds.{lt, lt_i}
use Rattle.meaning.proofs.Cond.{if_eq_yes, if_eq_no, eq_case, some_inj}
use Rattle.meaning.proofs.Order.{first_unique}
use Rattle.levels.specs.Levels.{Levels, no_levels, highest}
use Rattle.interpretation.specs.State.{Cell, defined, put}
use Rattle.steps.specs.Steps.{conflict, propagate}
use Rattle.search.specs.Search.{Tested, Problem, jump, plain, Result, answer, no_answer, limit, Branch, branches, Outcome, end, settle, propagated, turn, cont, run, pinned_cell, start, solve}
use Rattle.search.specs.Laws.{Dead, Alike, Laws}
use Rattle.search.specs.Base.{PinsIn, Agreeing, pinned, with_test}
use Rattle.search.proofs.Base.{pinned_laws}
use Rattle.search.proofs.Invariant.{inv_start}
use Rattle.search.proofs.Fuel.{start_less}
use Rattle.search.proofs.Skips
use Rattle.search.proofs.Theorems
use Rattle.sessions.specs.Sessions.{Pin, Pins, plan, first, refusal, pins_of, refused, planned, or_refused, reply, cells_of, Agrees}
use Rattle.sessions.proofs.Held.{Differ, Good}

-- ---- the pins as a function

no_pin : {v : Bool} → ◌≡◌ {A = Option Bool} none (some v) → ⊥
no_pin e = let z : ◌≡◌ {A = ℕ} 0 1 = cc in omega arith

pub pins_e : (pins : Pins) (q : ℕ) (v : Bool) → pins_of pins q ≡ some v → (x : Pin) × (x ∈ pins) × (x.atom ≡ q) × (x.value ≡ v)
unfolding pins_of
pins_e [] q v e = absurd (no_pin e)
pins_e (x ∷ l) q v e = at (λ f. pins_e l q v f) (eq_case q x.atom)
  where
    at : (pins_of l q ≡ some v → (y : Pin) × (y ∈ l) × (y.atom ≡ q) × (y.value ≡ v)) → (q ≡ x.atom) ⊎ (q ≢ x.atom) → (y : Pin) × (y ∈ x ∷ l) × (y.atom ≡ q) × (y.value ≡ v)
    at ih (inl h) = (x, Memᴰ.head refl, sym h, some_inj (sym (if_eq_yes q x.atom (some x.value) (pins_of l q) h) ∙ e))
    at ih (inr d) = let t = ih (sym (if_eq_no q x.atom (some x.value) (pins_of l q) d) ∙ e) in (t.0, Memᴰ.tail t.1, t.2, t.3)

pub pins_i : (pins : Pins) → Differ pins → (x : Pin) → x ∈ pins → pins_of pins x.atom ≡ some x.value
unfolding pins_of
pins_i (y ∷ l) D x (Memᴰ.head e) = if_eq_yes x.atom y.atom (some y.value) (pins_of l x.atom) (ap (λ (z : Pin). z.atom) e) ∙ ap (λ (z : Pin). some z.value) (sym e)
pins_i [] D x x4 = elim x4 [ ]
pins_i (y ∷ l) D x (Memᴰ.tail m) = if_eq_no x.atom y.atom (some y.value) (pins_of l x.atom) (λ h. D.0 x m (sym h)) ∙ pins_i l D.1 x m

pub start_cells_lem : (pins : Pins) → cells_of pins ≡ (λ p. pinned_cell (pins_of pins p))
unfolding cells_of pins_of
start_cells_lem [] = refl
start_cells_lem (x ∷ l) = fun_ext (λ q. at q (ap (λ (f : ℕ → Cell). f q) (start_cells_lem l)) (eq_case q x.atom))
  where
    at : (q : ℕ) → cells_of l q ≡ pinned_cell (pins_of l q) → (q ≡ x.atom) ⊎ (q ≢ x.atom) → put x.atom (defined x.value 0) (cells_of l) q ≡ pinned_cell (if_eq q x.atom (some x.value) (pins_of l q))
    at q below (inl h) = if_eq_yes q x.atom (defined x.value 0) (cells_of l q) h ∙ sym (ap pinned_cell (if_eq_yes q x.atom (some x.value) (pins_of l q) h))
    at q below (inr d) = if_eq_no q x.atom (defined x.value 0) (cells_of l q) d ∙ below ∙ sym (ap pinned_cell (if_eq_no q x.atom (some x.value) (pins_of l q) d))

-- ---- which search a plan is

pub plan_of_lem : (n : ℕ) (P : Program) (pins : Pins) (room lim : ℕ) → 256 ≤ room → reply n P pins (plan room lim) ≡ planned (solve (pinned P n (pins_of pins)) jump lim)
unfolding reply refusal
plan_of_lem n P pins room lim l =
    ap (λ (b : Bool). or_refused (first b 10 none) (planned (solve (pinned P n (pins_of pins)) jump lim))) (contra (ltb room 256) {b = false} (λ h. let k = lt room 256 h in absurd (omega arith)) refl)

pub plan_refused : (n : ℕ) (P : Program) (pins : Pins) (room lim : ℕ) → room < 256 → reply n P pins (plan room lim) ≡ refused 10
unfolding reply refusal
plan_refused n P pins room lim l = ap (λ (b : Bool). or_refused (first b 10 none) (planned (solve (pinned P n (pins_of pins)) jump lim))) (lt_i room 256 l)

-- ---- the theorems

module _ (n : ℕ) (P : Program) (pins : Pins) (G : Good n pins) where
  pub agrees_e : (X : Atoms) → Agrees P pins X → Agreeing P (pins_of pins) X
  agrees_e X A = record { is_answer = A.is_answer; agrees = λ p v e. let t = pins_e pins p v e in ap X (sym t.2) ∙ A.values t.0 t.1 ∙ t.3 }

  pub agrees_i : (X : Atoms) → Agreeing P (pins_of pins) X → Agrees P pins X
  agrees_i X A = record { is_answer = A.is_answer; values = λ x m. A.agrees x.atom x.value (pins_i pins G.differ x m) }

  pub pins_in_lem : PinsIn n (pins_of pins)
  pins_in_lem p v e = let t = pins_e pins p v e in subst (In n) t.2 (G.inside_all t.0 t.1)

module _ (n : ℕ) (P : Program) (inside : AtomsIn n P) (no_head : Free HeadCycle P) (noAgg : Free AggregateCycle P) (pins : Pins) (G : Good n pins) where
  pub session_laws : Laws (Agreeing P (pins_of pins)) (pinned P n (pins_of pins))
  session_laws = pinned_laws n P inside no_head noAgg (pins_of pins) (pins_in_lem n P pins G)

  module _ (lim : ℕ) where
    pub plan_ends : (o : Outcome) × (solve (pinned P n (pins_of pins)) jump lim ≡ some o)
    plan_ends = Theorems.search_ends (Agreeing P (pins_of pins)) (pinned P n (pins_of pins)) session_laws lim jump

    module _ (o : Outcome) (e : solve (pinned P n (pins_of pins)) jump lim ≡ some o) where
      pub plan_is_first : (X : Atoms) → o.result ≡ answer X → Agrees P pins X × First n (Agrees P pins) X
      plan_is_first X f =
          let t = Theorems.answer_is_first (Agreeing P (pins_of pins)) (pinned P n (pins_of pins)) session_laws lim jump o e refl X f in
          (agrees_i n P pins G X t.0, λ Z A. t.1 Z (agrees_e n P pins G Z A))

      none_of : o.result ≡ no_answer → (X : Atoms) → Agrees P pins X → ⊥
      none_of f X A = Theorems.none_means_none (Agreeing P (pins_of pins)) (pinned P n (pins_of pins)) session_laws lim jump o e f X (agrees_e n P pins G X A)

      pub plan_is_found : (Z : Atoms) → Agrees P pins Z → First n (Agrees P pins) Z → o.result ≢ limit → o.result ≡ answer Z
      plan_is_found Z a f k = at o.result refl
        where
          at : (r : Result) → o.result ≡ r → o.result ≡ answer Z
          at (answer X) i = let t = plan_is_first X i in i ∙ ap answer (first_unique n (Agrees P pins) X Z t.0 t.1 a f)
          at no_answer i = absurd (none_of i Z a)
          at limit i = absurd (k i)

      pub plan_none : o.result ≢ limit → (o.result ≡ no_answer) ↔ ((X : Atoms) → Agrees P pins X → ⊥)
      plan_none k = (none_of, λ f. at f o.result refl)
        where
          at : ((X : Atoms) → Agrees P pins X → ⊥) → (r : Result) → o.result ≡ r → o.result ≡ no_answer
          at f (answer X) i = absurd (f X (plan_is_first X i).0)
          at f no_answer i = i
          at f limit i = absurd (k i)

      pub plan_choices : o.choices ≤ lim
      plan_choices = Theorems.choices≤limit (Agreeing P (pins_of pins)) (pinned P n (pins_of pins)) session_laws lim jump o e

      pub plan_limit : o.result ≡ limit → o.choices ≡ lim
      plan_limit f = Theorems.limit_is_reached (Agreeing P (pins_of pins)) (pinned P n (pins_of pins)) session_laws lim jump o e f

      pub plan_skips : length o.skipped ≡ o.skips
      plan_skips = Theorems.skips_count (Agreeing P (pins_of pins)) (pinned P n (pins_of pins)) session_laws lim jump o e

      pub plan_skipped : (b : Branch) → b ∈ o.skipped → Dead (Agrees P pins) b
      plan_skipped b m X A = Theorems.skipped_hold_none (Agreeing P (pins_of pins)) (pinned P n (pins_of pins)) session_laws lim jump o e b m X (agrees_e n P pins G X A)

      pub plan_skips≤choices : o.skips ≤ o.choices
      plan_skips≤choices = Skips.skips≤choices (pinned P n (pins_of pins)) jump lim o e

    pub plan_alike : (oj op : Outcome) → solve (pinned P n (pins_of pins)) jump lim ≡ some oj → solve (pinned P n (pins_of pins)) plain lim ≡ some op → Alike oj op
    plan_alike oj op e f = Theorems.jump≤plain (Agreeing P (pins_of pins)) (pinned P n (pins_of pins)) session_laws lim oj op e f

-- ---- a conflict that rests on pins alone, whatever the final test

module _ (n : ℕ) (P : Program) (test : ℕ → Atoms → Tested) (pins : Pins) (L : Laws (Agreeing P (pins_of pins)) (with_test test P n (pins_of pins))) (lim : ℕ) where
  abbrev Q : Problem
  Q = with_test test P n (pins_of pins)

  module _ (C : Levels) (e : (propagate P n (start Q).interpretation (start Q).reason).verdict ≡ conflict C) where
    pub pins_reason : C ≡ no_levels
    pins_reason = fun_ext (λ l. contra (C l) {b = false} (λ h. absurd (out l h)) refl)
      where
        out : (l : ℕ) → C l ≡ true → ⊥
        out l h =
            let w = (L.conflict_reason (Agreeing P (pins_of pins)) (λ X A. A) (start Q).interpretation (start Q).reason
            (inv_start (Agreeing P (pins_of pins)) Q (λ X A. A.agrees)) C e).1 l h in
            let a = w.0 in
            let b = w.1 in
            omega arith

    -- what the only propagation took
    abbrev first_passes : ℕ
    first_passes = max 0 (propagate P n (start Q).interpretation (start Q).reason).passes

    turn_ends : turn Q jump lim (start Q) ≡ end (record { result = no_answer; choices = 0; skips = 0; passes = first_passes; skipped = [] })
    unfolding turn highest branches
    turn_ends = ap (settle Q jump lim (propagated Q (start Q))) e

    pub pins_conflict : solve Q jump lim ≡ some (record { result = no_answer; choices = 0; skips = 0; passes = first_passes; skipped = [] })
    unfolding solve
    pins_conflict = with_fuel (suc lim * suc n) (let l = start_less Q jump lim n in omega arith)
      where
        with_fuel : (f : ℕ) → 1 ≤ f → run Q jump lim f (start Q) ≡ some (record { result = no_answer; choices = 0; skips = 0; passes = first_passes; skipped = [] })
        with_fuel zero l = absurd (omega arith)
        with_fuel (suc f) l = unfold run in ap (cont (run Q jump lim f)) turn_ends
