-- What the calls of a session come to: of every list of calls from `open` on, whatever of them is refused. Assumes nothing.
--   session_holds   the session keeps the table that `open` accepted, and the pins now held are `held` of the list of calls (crate `sessions`)
--   pins_kept       a plan passes over none of them
--   history         "the next plan, result and counts equal those of a new session on that table, with that limit and the pins now held"
--   plan_held       the next plan is over the answer sets that agree with the pins now held;  plan-short: it has its 10
--   pins_alone      "a conflict that rests on pins alone has an empty reason and ends with none"
use mathlib.Core.Path.{◌≡◌, refl, sym, ◌∙◌, ap, subst}
use mathlib.Core.Bool.{Bool}
use mathlib.Core.Option.{none, some}
use mathlib.Core.List.{List, [], ◌∷◌}
use Rattle.std.specs.Prelude.{⊤, Result, Ok}
use Prim.Native.Nat.{ℕ, ◌≤◌, ◌<◌}
use lib.IntN.{ℤ}
use lib.ListN.{length}
use Rattle.meaning.proofs.Cond.{some_inj, if_lt_yes}
use Rattle.levels.specs.Levels.{Levels, no_levels}
use Rattle.steps.specs.Steps.{conflict, propagate}
use Rattle.results.specs.declared.Counts.{Counts}
use Rattle.results.specs.declared.Solved.TheVariants as solved
use Rattle.results.specs.declared.Refusal.{Refusal}
use Rattle.results.specs.Results.{report_of, refusal_report}
use Rattle.search.specs.Search.{Outcome, start}
use Rattle.smaller.specs.Cyclic.{test_by, problem_by}
use Rattle.smaller.proofs.Modes.{mode_laws}
use Rattle.table.specs.Contents.{Contents, program}
use Rattle.table.proofs.Accepted.{accepted_atoms}
use Rattle.judging.specs.declared.Buffer.TheVariants as lent
use Rattle.judging.specs.Refusals.{AcceptedBy, RefusedBy, buffer}
use Rattle.judging.proofs.Judged.{plan_good}
use Rattle.judging.proofs.Refusals.{heads_free}
use Rattle.promises.specs.Promises.{reported, Meaning, Searching}
use Rattle.solver.specs.declared.Solution.{Solution}
use Rattle.sessions.specs.Sessions.{Pins, Call, pin, unpin, plan, held_from, held, settings, pins_of, Agrees}
use Rattle.sessions.proofs.Held.{held_good, plan_stays, settings_give}
use Rattle.sessions.proofs.Plans.{pins_in_lem, pins_conflict, pins_reason}
use Rattle.pins.specs.Memory.{table_in, atoms_in, pins_in, taken_of, cycles_in}
use Rattle.pins.specs.Session.{Opening, Changing, Planning, PlansOn, Plans, After}
use Rattle.pins.proofs.Unique.{solution_unique}

-- ---- what a session keeps

abbrev Kept : List ℤ → List Call → List ℤ → Type 0
Kept s calls u = (table_in u ≡ table_in s) × (pins_in u ≡ held_from (atoms_in s) (pins_in s) calls) × (cycles_in u ≡ cycles_in s)

changed_keeps : (call : Call) (s w u : List ℤ) (r : Result ⊤ Refusal) (calls : List Call) → Changing call s w r → Kept w calls u → Kept s (call ∷ calls) u
unfolding held_from
changed_keeps call s w u r calls c k = (
  k.0 ∙ c.table,
  k.1 ∙ ap (λ (n : ℕ). held_from n (pins_in w) calls) c.atoms ∙ ap (λ (p : Pins). held_from (atoms_in s) p calls) c.pins,
  k.2 ∙ c.mode,
)

after_keeps : (s : List ℤ) (calls : List Call) (u : List ℤ) → After s calls u → Kept s calls u
unfolding held_from
after_keeps s [] u e = (ap table_in (sym e), ap pins_in (sym e), ap cycles_in (sym e))
after_keeps s (pin p v ∷ calls) u (w, r, c, k) = changed_keeps (pin p v) s w u r calls c (after_keeps w calls u k)
after_keeps s (unpin ∷ calls) u (w, r, c, k) = changed_keeps unpin s w u r calls c (after_keeps w calls u k)
after_keeps s (plan room lim ∷ calls) u k =
    let x = after_keeps s calls u k in
    (x.0, x.1 ∙ ap (λ (p : Pins). held_from (atoms_in s) p calls) (sym (plan_stays (atoms_in s) room lim (pins_in s))), x.2)

module _ (cycles : Bool) (t m s : List ℤ) (r : Result ⊤ Refusal) (o : Opening cycles t m s r) (c : Contents) (a : AcceptedBy cycles t lent.Nothing c) (calls : List Call) (u : List ℤ) (k : After s calls u) where
  pub session_holds : (table_in u ≡ t) × (pins_in u ≡ held c.atoms calls) × (cycles_in u ≡ cycles)
  session_holds =
      let x = after_keeps s calls u k in
      let b = o.opened c a in
      (x.0 ∙ b.table, x.1 ∙ ap (λ (n : ℕ). held_from n (pins_in s) calls) b.atoms ∙ ap (λ (p : Pins). held_from c.atoms p calls) b.pins, x.2 ∙ b.mode)

  pub pins_kept : taken_of c.atoms (pins_in u) ≡ held c.atoms calls
  pins_kept = ap (taken_of c.atoms) session_holds.1 ∙ settings_give c.atoms (held c.atoms calls) (held_good c.atoms calls)

  -- ---- the next plan

  accepted_now : (old : List ℕ) → 256 ≤ length old → AcceptedBy cycles (table_in u) (lent.Plan (length old)) c
  accepted_now old l =
      subst (λ (x : List ℤ). AcceptedBy cycles x (lent.Plan (length old)) c) (sym session_holds.0)
      (record { words = a.words; buffer = plan_good (length old) l; holds = a.holds; no_head = a.no_head; no_aggregate = a.no_aggregate })

  module _ (lim : ℕ) (old new : List ℕ) (x : Solution) (p : Plans u lim old new x) where
    planning_now : Planning cycles (table_in u) (pins_in u) lim old new x.solved
    planning_now = subst (λ (m : Bool). Planning m (table_in u) (pins_in u) lim old new x.solved) session_holds.2 p.0

    pub plan_held : 256 ≤ length old
        → Meaning c.atoms (Agrees (program c) (held c.atoms calls)) lim old new x.solved
        × ((o : Outcome) × Searching (Agrees (program c) (held c.atoms calls)) (problem_by cycles (program c) c.atoms (pins_of (held c.atoms calls))) x.solved o lim old new)
    plan_held l = (
      subst (λ (q : Pins). Meaning c.atoms (Agrees (program c) q) lim old new x.solved) pins_kept (planning_now.meaning c (accepted_now old l)),
      subst (λ (q : Pins). (o : Outcome) × Searching (Agrees (program c) q) (problem_by cycles (program c) c.atoms (pins_of q)) x.solved o lim old new) pins_kept (planning_now.searching c (accepted_now old l)),
    )

    pub plan_short : length old < 256 → (report_of x.solved ≡ refusal_report 10 0) × (new ≡ old)
    plan_short l =
        let e = (planning_now.refused 10 0).1 (subst (λ (y : List ℤ). RefusedBy cycles y (lent.Plan (length old)) 10 0) (sym session_holds.0) (buffer a.words (if_lt_yes (length old) 256 (some 10) none l) refl)) in
        (e, planning_now.untouched 10 0 e)

    -- a conflict of the first propagation, before any choice
    module _ (C : Levels) (e : (propagate (program c) c.atoms (start (problem_by cycles (program c) c.atoms (pins_of (held c.atoms calls)))).interpretation
        (start (problem_by cycles (program c) c.atoms (pins_of (held c.atoms calls)))).reason).verdict ≡ conflict C) where
      pub pins_alone : 256 ≤ length old → (C ≡ no_levels) × ((k : Counts) × (x.solved ≡ Ok (solved.Nothing k)) × (k.choices ≡ 0) × (k.skips ≡ 0))
      pins_alone l =
          let n = c.atoms in
          let P = program c in
          let A = accepted_atoms t c a.holds in
          let L = mode_laws cycles n P A (heads_free t lent.Nothing c a) a.no_aggregate (pins_of (held n calls)) (pins_in_lem n P (held n calls) (held_good n calls)) in
          let w = (plan_held l).1 in
          let f : w.0 ≡ _ = some_inj (sym w.1.jumping ∙ pins_conflict n P (test_by cycles P n) (held n calls) L lim C e) in
          (pins_reason n P (test_by cycles P n) (held n calls) L lim C e, (_, w.1.result ∙ ap (λ (q : Outcome). Ok (reported q)) f, refl, refl))

-- ---- against a new session

pub history : (cycles : Bool) (t : List ℤ) (c : Contents) → AcceptedBy cycles t lent.Nothing c → (m s : List ℤ) (r : Result ⊤ Refusal) → Opening cycles t m s r → (calls : List Call) (u : List ℤ) → After s calls u
    → (m' s' : List ℤ) (r' : Result ⊤ Refusal) → Opening cycles t m' s' r' → (u' : List ℤ) → After s' (settings (held c.atoms calls)) u'
    → (lim : ℕ) (old new new' : List ℕ) (x x' : Solution) → Plans u lim old new x → Plans u' lim old new' x' → (x ≡ x') × (new ≡ new')
history cycles t c a m s r o calls u k m' s' r' o' u' k' lim old new new' x x' p p' =
    let h = session_holds cycles t m s r o c a calls u k in
    let h' = session_holds cycles t m' s' r' o' c a (settings (held c.atoms calls)) u' k' in
    let same : pins_in u' ≡ pins_in u = h'.1 ∙ settings_give c.atoms (held c.atoms calls) (held_good c.atoms calls) ∙ sym h.1 in
    solution_unique (cycles_in u) (table_in u) (pins_in u) lim old new new' x x' p
    (subst (λ (d : Pins). PlansOn (cycles_in u) (table_in u) d lim old new' x') same
    (subst (λ (d : List ℤ). PlansOn (cycles_in u) d (pins_in u') lim old new' x') (h'.0 ∙ sym h.0)
    (subst (λ (d : Bool). PlansOn d (table_in u') (pins_in u') lim old new' x') (h'.2 ∙ sym h.2) p')))
