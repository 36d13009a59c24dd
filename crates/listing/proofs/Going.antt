-- A plan is listed, and the listing ends or goes on, as the code goes: back to the present level, all present levels being the reason. Assumes nothing.
use Prim.Native.Nat.{ℕ, zero, suc, ◌+◌, ◌-◌, ◌*◌, ◌≤◌, ◌<◌}
use native.Mathlib.Omega.{arith}
use mathlib.Core.Path.{◌≡◌, refl, sym, ◌∙◌, ap, subst}
use mathlib.Core.Bool.{Bool}
use mathlib.Core.List.{List, [], ◌∷◌, ◌++◌}
use lib.ListN.{length, set, length-append}
use Rattle.meaning.specs.Cond.{if_eq}
use Rattle.meaning.specs.Aggregates.{Atoms}
use Rattle.meaning.specs.Program.{Program}
use Rattle.levels.specs.Levels.{Levels, up_to, without, highest}
use Rattle.levels.specs.View.{row, rows}
use Rattle.levels.proofs.Laws.{rows_set}
use Rattle.interpretation.specs.State.{Interpretation, jumped, true_atoms}
use Rattle.interpretation.specs.View.{view, choices}
use Rattle.interpretation.specs.declared.Interpretation as code
use Rattle.outcome.specs.declared.Start.{Start}
use Rattle.outcome.specs.declared.Halt.{Halt}
use Rattle.outcome.specs.declared.Ending.{Ending}
use Rattle.outcome.specs.declared.Ending.TheVariants as ending
use Rattle.search.specs.Search.{Problem, answer, State, Outcome, jump, jumped_reason, propagated}
use Rattle.smaller.specs.Cyclic.{base_by}
use Rattle.search.specs.Listing.{Jumped, go_on, jumped_over, stopped, resumed, onward, list_turn}
use Rattle.search.proofs.Fuel.{meas}
use Rattle.search.proofs.ListRuns.{list_ends_on, list_less}
use Rattle.search.proofs.Parts.{highest_up_to}
use Rattle.jumping.specs.Jumping.{Ordered, Ready, state_of, result_of, end_of, start_at, Searched}
use Rattle.jumping.proofs.Ordered.{ordered_jump, choice_in, level_in}
use Rattle.turns.specs.declared.Back.TheVariants.{End, Level}
use Rattle.turns.specs.Turns.{back_to, back_of, ChosenIn}
use Rattle.listing.specs.declared.Kind.TheVariants.{Complete}
use Rattle.listing.specs.declared.Told.{Told}
use Rattle.listing.specs.Rows.{row_put, rows_with, kind_by, ListsBy}
use Rattle.listing.proofs.Written.{listed_more}
use Rattle.listing.proofs.Listing.{listing, led_lists, led_falls, lists_plan, resumed_end, Resumes, resumed_go, Done, lists_by}

-- ---- where the code goes back to

-- back to level m, whose choice atom is a, from the present state
pub record Leaves (i : code.Interpretation) (m a : ℕ) : Type 0 where
  pub level : m ≡ i.depth
  pub deeper : 1 ≤ i.depth
  pub atom : a ≡ (view i).choice i.depth
  pub within : i.depth ≤ 256
  pub above : 1 ≤ a
  pub below : a ≤ 256

module _ (choice : ℕ → ℕ) where
  to_end : (k m s : ℕ) → m ≡ k → back_to choice k m ≡ End s → k ≡ 0
  to_end k zero s e f = sym e
  to_end k (suc j) s e f = absurd (let z : ◌≡◌ {A = ℕ} 0 1 = cc in omega arith)

  to_level : (k m l a s : ℕ) → m ≡ k → back_to choice k m ≡ Level l a s → (l ≡ k) × (1 ≤ k) × (a ≡ choice k)
  to_level k zero l a s e f = absurd (let z : ◌≡◌ {A = ℕ} 0 1 = cc in omega arith)
  to_level k (suc j) l a s e f =
      let x : suc j ≡ l = cc in
      let y : choice (suc j) ≡ a = cc in
      (sym x ∙ e, omega arith, sym y ∙ ap choice e)

  pub back_ended : (k s : ℕ) → back_of choice (up_to k) k ≡ End s → k ≡ 0
  back_ended k s e = to_end k (highest (up_to k) k) s (highest_up_to jump k) e

  pub back_level : (k l a s : ℕ) → back_of choice (up_to k) k ≡ Level l a s → (l ≡ k) × (1 ≤ k) × (a ≡ choice k)
  back_level k l a s e = to_level k (highest (up_to k) k) l a s (highest_up_to jump k) e

-- ---- the level and the choice atom that the code goes back to lie within their arrays

module _ (n lim : ℕ) (few : n ≤ 256) (h : Halt) (R : Ready n lim (start_at h.found)) where
  abbrev i : code.Interpretation
  i = h.found.it

  pub deep : i.depth ≤ 256
  deep = let l = level_in n (view i) R.ordered in omega arith

  pub chosen_in : ChosenIn (choices i.chosen i.depth) i.depth
  chosen_in l a b = let t = choice_in n (view i) R.ordered l a b in let u = t.2 in omega arith

  pub leaves : (m a s : ℕ) → back_of (view i).choice (up_to i.depth) i.depth ≡ Level m a s → Leaves i m a
  leaves m a s e =
      let t = back_level (view i).choice i.depth m a s e in
      let k = t.1 in
      let f = t.2 in
      let c = choice_in n (view i) R.ordered i.depth k (omega arith) in
      let c1 = c.1 in
      let c2 = c.2 in
      record { level = t.0; deeper = k; atom = f; within = deep; above = omega arith; below = omega arith }

  -- from there the search may go on
  pub ready_on : (m a : ℕ) (L : Leaves i m a) (it : code.Interpretation) → view it ≡ jumped (m - 1) (view i)
      → Ready n lim (record { it = it; choices = h.found.choices; skips = h.found.skips; passes = h.found.passes })
  ready_on m a L it e =
      let l = L.level in
      let k = L.deeper in
      let p = R.paid in
      let d : it.depth ≡ i.depth - 1 = ap (λ (s : Interpretation). s.level) e ∙ ap (λ (j : ℕ). j - 1) l in
      record { ordered = subst (Ordered n) (sym e) (ordered_jump n (view i) R.ordered (m - 1) (omega arith)); paid = omega arith; few = R.few }

-- ---- a plan is listed

module _ (cycles : Bool) (Q : Program) (n lim room : ℕ) (old new new' : List ℕ) (from : Start) (reasons : List (List ℕ)) (number : ℕ) (D : Done (base_by cycles Q n) lim room old new from reasons number)
    (h : Halt) (S : Searched (base_by cycles Q n) lim (state_of from reasons D.skipped) h) (found : h.found.ending ≡ ending.Answer) (fits : number < room)
    (written : new' ≡ row_put (true_atoms n (view h.found.it).cell) (number * 256) 256 new) where
  abbrev P : Problem
  P = base_by cycles Q n

  abbrev X : Atoms
  X = true_atoms n (view h.found.it).cell

  abbrev o : Outcome
  o = end_of n h.found S.skipped

  abbrev plans : List Atoms
  plans = D.plans ++ (X ∷ [])

  abbrev past : List Jumped
  past = jumped_over D.plans o.skipped D.past

  answers : o.result ≡ answer X
  answers = ap (λ (e : Ending). result_of e X) found

  more : length plans ≡ number + 1
  more = let e = D.count in simp length-append (omega arith)

  rows_are : new' ≡ rows_with plans old
  rows_are =
      let c : number * 256 ≡ 256 * number = omega arith in
      written ∙ ap (λ (k : ℕ). row_put X k 256 new) c ∙ ap (row_put X (256 * number) 256) D.rows ∙ listed_more D.plans X old number D.count

  listed_turn : list_turn P jump lim room (listing S.last D.plans D.past) ≡ onward plans past (resumed P jump S.last o)
  listed_turn = lists_plan P lim room D.plans D.past S.last o S.ends X answers (let e = D.count in omega arith)

  level_is : S.last.interpretation.level ≡ h.found.it.depth
  level_is = ap (λ (i : Interpretation). i.level) (sym S.state)

  -- at level 0 all plans are listed
  pub listed_end : h.found.it.depth ≡ 0 → (r : Told) → r ≡ record { kind = Complete; number = number + 1; choices = h.found.choices; skips = h.found.skips; passes = h.found.passes } → ListsBy P lim room old new' r
  listed_end e r g =
      let t = resumed_end P S.last o (level_is ∙ e) in
      let q = t.0 in
      record {
        outcome = stopped plans past q;
        listed = lists_by P lim room old new from reasons number D h S (stopped plans past q) (listed_turn ∙ ap (onward plans past) t.1);
        result = g ∙ sym (λ i. record { kind = ap kind_by t.2 i; number = more i; choices = t.3 i; skips = t.4 i; passes = t.5 i });
        rows = rows_are;
      }

  -- else it goes on from the level before
  module _ (j : ℕ) (deep : h.found.it.depth ≡ suc j) (from' : Start) (reasons' : List (List ℕ)) (stepped : view from'.it ≡ jumped j (view h.found.it))
      (reasoned : rows reasons' ≡ (λ (q : ℕ). if_eq q ((view h.found.it).choice (suc j)) (without (suc j) (up_to (suc j))) (rows h.rows q)))
      (choices : from'.choices ≡ h.found.choices) (skips : from'.skips ≡ h.found.skips) (passes : from'.passes ≡ h.found.passes) where
    abbrev t : Resumes P S.last o j
    t = resumed_go P S.last o j (level_is ∙ deep)

    next_is : t.next ≡ state_of from' reasons' t.next.skipped
    next_is =
        let a : t.next.interpretation ≡ view from'.it = t.stepped ∙ ap (jumped j) (sym S.state) ∙ sym stepped in
        let r : t.next.reason ≡ rows reasons' =
        t.reasoned ∙ ap (λ (i : Interpretation). jumped_reason j i (up_to S.last.interpretation.level) (propagated P S.last).reason) (sym S.state)
        ∙ ap (jumped_reason j (view h.found.it) (up_to S.last.interpretation.level)) (sym S.reasoned)
        ∙ ap (λ (m : ℕ). jumped_reason j (view h.found.it) (up_to m) (rows h.rows)) (level_is ∙ deep) ∙ sym reasoned in
        λ i. record { interpretation = a i; reason = r i; choices = (t.choices ∙ sym choices) i; skips = (t.skips ∙ sym skips) i; passes = (t.passes ∙ sym passes) i; skipped = t.next.skipped }

    turn_on : list_turn P jump lim room (listing S.last D.plans D.past) ≡ go_on (listing (state_of from' reasons' t.next.skipped) plans past)
    turn_on = listed_turn ∙ ap (onward plans past) t.leads ∙ ap (λ (d : State). go_on (listing d plans past)) next_is

    pub goes_on_lem : Done P lim room old new' from' reasons' (number + 1)
    goes_on_lem = record {
      plans = plans;
      past = past;
      skipped = t.next.skipped;
      count = more;
      rows = rows_are;
      ends = λ x e. D.ends x (led_lists P lim room D.plans D.past (state_of from reasons D.skipped) S.last x S.led
          (list_ends_on P jump lim room (listing S.last D.plans D.past) (listing (state_of from' reasons' t.next.skipped) plans past) x turn_on e));
    }

    pub falls : (lim - from'.choices) * suc n + from'.it.depth < (lim - from.choices) * suc n + from.it.depth
    unfolding meas
    falls =
        let a = list_less P jump lim room (listing S.last D.plans D.past) (listing (state_of from' reasons' t.next.skipped) plans past) turn_on in
        let b = led_falls P lim room D.plans D.past (state_of from reasons D.skipped) S.last S.led in
        omega (arith, a, b)

  -- as the code's arrays say it
  module _ (m a : ℕ) (L : Leaves h.found.it m a) (rs : List (List ℕ)) (long : length rs ≡ 256) (same : rs ≡ h.rows) (C : List ℕ) (rest : row C ≡ without m (up_to h.found.it.depth))
      (it : code.Interpretation) (jumps : view it ≡ jumped (m - 1) (view h.found.it)) where
    abbrev from_on : Start
    from_on = record { it = it; choices = h.found.choices; skips = h.found.skips; passes = h.found.passes }

    abbrev below : ℕ
    below = h.found.it.depth - 1

    deep_is : h.found.it.depth ≡ suc below
    deep_is = let k = L.deeper in omega arith

    stepped_on : view it ≡ jumped below (view h.found.it)
    stepped_on = jumps ∙ ap (λ (k : ℕ). jumped (k - 1) (view h.found.it)) L.level

    abbrev put_row : ℕ → Levels → (ℕ → Levels) → ℕ → Levels
    put_row p D r = λ q. if_eq q p D (r q)

    rows_on : rows (set rs (a - 1) C) ≡ (λ (q : ℕ). if_eq q ((view h.found.it).choice (suc below)) (without (suc below) (up_to (suc below))) (rows h.rows q))
    rows_on =
        let l = L.above in
        let u = L.below in
        let x : row C ≡ without (suc below) (up_to (suc below)) = rest ∙ ap (λ (k : ℕ). without k (up_to h.found.it.depth)) (L.level ∙ deep_is) ∙ ap (λ (k : ℕ). without (suc below) (up_to k)) deep_is in
        rows_set rs a C l (omega arith)
        ∙ ap (λ (D : Levels). put_row a D (rows rs)) x
        ∙ ap (λ (p : ℕ). put_row p (without (suc below) (up_to (suc below))) (rows rs)) (L.atom ∙ ap (view h.found.it).choice deep_is)
        ∙ ap (λ (r : List (List ℕ)). put_row ((view h.found.it).choice (suc below)) (without (suc below) (up_to (suc below))) (rows r)) same

    pub goes_by : Done P lim room old new' from_on (set rs (a - 1) C) (number + 1)
    goes_by = goes_on_lem below deep_is from_on (set rs (a - 1) C) stepped_on rows_on refl refl refl

    pub falls_by : (lim - h.found.choices) * suc n + it.depth < (lim - from.choices) * suc n + from.it.depth
    falls_by = falls below deep_is from_on (set rs (a - 1) C) stepped_on rows_on refl refl refl
