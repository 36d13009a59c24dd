-- The whole promise of `plan`, for a refused table and for an accepted one. Assumes nothing.
use mathlib.Core.Path.{◌≡◌, refl, ◌∙◌, ap, subst}
use mathlib.Core.Bool.{Bool}
use mathlib.Core.Option.{some}
use mathlib.Core.List.{List}
use Rattle.std.specs.Prelude.{Result, Ok, Err}
use Prim.Native.Nat.{ℕ}
use lib.IntN.{ℤ}
use lib.ListN.{length}
use Rattle.meaning.specs.Aggregates.{Atoms}
use Rattle.meaning.specs.Program.{AtomsIn}
use Rattle.results.specs.declared.Refusal.{Refusal}
use Rattle.results.specs.declared.Solved.{Solved}
use Rattle.results.specs.Results.{number_of, place_of, Report, report_of, refusal_report}
use Rattle.search.specs.Search.{Problem, Outcome, jump, solve}
use Rattle.search.specs.Laws.{Laws}
use Rattle.search.specs.Base.{Agreeing}
use Rattle.smaller.specs.Cyclic.{problem_by}
use Rattle.smaller.proofs.Modes.{mode_laws}
use Rattle.steps.proofs.Ending.{passes≤, passes≥}
use Rattle.table.specs.Contents.{Contents, program}
use Rattle.table.proofs.Accepted.{accepted_atoms}
use Rattle.judging.specs.declared.Buffer.TheVariants.{Plan}
use Rattle.judging.specs.Refusals.{AcceptedBy, RefusedBy}
use Rattle.judging.proofs.Refusals.{heads_free, accepted_unique, refused_not_accepted, refused_unique}
use Rattle.promises.specs.Promises.{counted, reported, plan_after, Meaning, Searching}
use Rattle.promises.proofs.Kept.{means, searches}
use Rattle.sessions.specs.Sessions.{Pins, settings, pins_of, Agrees}
use Rattle.sessions.proofs.Held.{Good, held_good}
use Rattle.sessions.proofs.Plans.{agrees_e, agrees_i, pins_in_lem}
use Rattle.pins.specs.Memory.{taken_of}
use Rattle.pins.specs.Session.{Planning}
use Rattle.pins.proofs.Over.{meaning_over, searching_over}

module _ (cycles : Bool) (t : List ℤ) (pins : Pins) (lim : ℕ) (old : List ℕ) (f : Refusal) (h : RefusedBy cycles t (Plan (length old)) (number_of f) (place_of f)) where
  -- the number and the place that are told are those of the table's row
  row : (n i : ℕ) → report_of (Err f) ≡ refusal_report n i → RefusedBy cycles t (Plan (length old)) n i
  row n i k = subst (λ (x : Report). RefusedBy cycles t (Plan (length old)) x.number x.place) k h

  back : (n i : ℕ) → RefusedBy cycles t (Plan (length old)) n i → report_of (Err f) ≡ refusal_report n i
  back n i k =
      let u = refused_unique t (Plan (length old)) (number_of f) (place_of f) n i h k in
      ap (λ (m : ℕ). refusal_report m (place_of f)) u.0 ∙ ap (refusal_report n) u.1

  pub planning_refused : Planning cycles t pins lim old old (Err f)
  planning_refused = record {
    refused = λ n i. (row n i, back n i);
    untouched = λ n i j. refl;
    meaning = λ c a. absurd (refused_not_accepted t (Plan (length old)) (number_of f) (place_of f) c h a);
    searching = λ c a. absurd (refused_not_accepted t (Plan (length old)) (number_of f) (place_of f) c h a);
  }

module _ (cycles : Bool) (t : List ℤ) (pins : Pins) (lim : ℕ) (old new : List ℕ) (r : Result Solved Refusal) (c : Contents) (a : AcceptedBy cycles t (Plan (length old)) c) where
  abbrev taken : Pins
  taken = taken_of c.atoms pins

  abbrev Q : Problem
  Q = problem_by cycles (program c) c.atoms (pins_of taken)

  abbrev AS : Atoms → Type 0
  AS = Agreeing (program c) (pins_of taken)

  inside : AtomsIn c.atoms (program c)
  inside = accepted_atoms t c a.holds

  good : Good c.atoms taken
  good = held_good c.atoms (settings pins)

  L : Laws AS Q
  L = mode_laws cycles c.atoms (program c) inside (heads_free t (Plan (length old)) c a) a.no_aggregate (pins_of taken) (pins_in_lem c.atoms (program c) taken good)

  to : (X : Atoms) → AS X → Agrees (program c) taken X
  to = agrees_i c.atoms (program c) taken good

  from : (X : Atoms) → Agrees (program c) taken X → AS X
  from = agrees_e c.atoms (program c) taken good

  module _ (o : Outcome) (e : solve Q jump lim ≡ some o) (told : r ≡ Ok (reported o)) (kept : new ≡ plan_after c.atoms o.result old) where
    pub plan_means : Meaning c.atoms (Agrees (program c) taken) lim old new r
    plan_means = meaning_over AS (Agrees (program c) taken) to from lim old new r c.atoms (means AS Q L refl lim old new r jump o e (counted o) refl told kept)

    plan_searches : Searching (Agrees (program c) taken) Q r o lim old new
    plan_searches =
        searching_over AS (Agrees (program c) taken) to from lim old new r Q o
        (searches AS Q L refl lim old new r (λ i q. (passes≥ (program c) c.atoms i q, passes≤ (program c) c.atoms i q)) o e told kept)

    pub planning_accepted : Planning cycles t pins lim old new r
    planning_accepted = record {
      refused = λ n i. (λ h. absurd (plan_means.taken n i h), λ h. absurd (refused_not_accepted t (Plan (length old)) n i c h a));
      untouched = λ n i h. absurd (plan_means.taken n i h);
      meaning = λ d b. subst (λ (x : Contents). Meaning x.atoms (Agrees (program x) (taken_of x.atoms pins)) lim old new r) (accepted_unique t (Plan (length old)) c d a b) plan_means;
      searching = λ d b.
          subst (λ (x : Contents). (o : Outcome) × Searching (Agrees (program x) (taken_of x.atoms pins)) (problem_by cycles (program x) x.atoms (pins_of (taken_of x.atoms pins))) r o lim old new)
          (accepted_unique t (Plan (length old)) c d a b) (o, plan_searches);
    }
