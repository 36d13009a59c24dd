-- The whole promise of `solve`, in either mode, for a refused table and for an accepted one. Assumes nothing.
use mathlib.Core.Path.{◌≡◌, refl, sym, ◌∙◌, ap, subst}
use mathlib.Core.Option.{some}
use mathlib.Core.List.{List}
use Rattle.std.specs.Prelude.{Result, Ok, Err}
use Prim.Native.Nat.{ℕ}
use lib.IntN.{ℤ}
use lib.ListN.{length}
use Rattle.meaning.specs.Program.{AtomsIn}
use Rattle.results.specs.declared.Refusal.{Refusal}
use Rattle.results.specs.declared.Ask.{Ask}
use Rattle.results.specs.declared.Solved.{Solved}
use Rattle.results.specs.Results.{number_of, place_of, Report, report_of, refusal_report}
use Rattle.meaning.specs.Answers.{AnswerSet}
use Rattle.search.specs.Search.{Outcome, jump, solve}
use Rattle.steps.proofs.Ending.{passes≤, passes≥}
use Rattle.smaller.specs.Cyclic.{base_by}
use Rattle.smaller.proofs.Modes.{mode_base_laws}
use Rattle.table.specs.Contents.{Contents, program}
use Rattle.judging.specs.declared.Buffer.TheVariants.{Plan}
use Rattle.judging.specs.Refusals.{AcceptedBy, RefusedBy}
use Rattle.judging.proofs.Refusals.{heads_free, accepted_unique, refused_not_accepted, refused_unique}
use Rattle.promises.specs.Promises.{counted, reported, plan_after, Meaning, Searching}
use Rattle.promises.proofs.Kept.{means, searches}
use Rattle.solver.specs.Solving.{Solving}

module _ (t : List ℤ) (ask : Ask) (old new : List ℕ) (r : Result Solved Refusal) (f : Refusal) (h : RefusedBy ask.cycles t (Plan (length old)) (number_of f) (place_of f)) (e : r ≡ Err f) where
  told : report_of r ≡ refusal_report (number_of f) (place_of f)
  told = ap report_of e

  -- the number and the place that are told are those of the table's row
  row : (n i : ℕ) → report_of r ≡ refusal_report n i → RefusedBy ask.cycles t (Plan (length old)) n i
  row n i k =
      let u : refusal_report (number_of f) (place_of f) ≡ refusal_report n i = sym told ∙ k in
      subst (λ (x : Report). RefusedBy ask.cycles t (Plan (length old)) x.number x.place) u h

  back : (n i : ℕ) → RefusedBy ask.cycles t (Plan (length old)) n i → report_of r ≡ refusal_report n i
  back n i k =
      let u = refused_unique t (Plan (length old)) (number_of f) (place_of f) n i h k in
      told ∙ ap (λ (m : ℕ). refusal_report m (place_of f)) u.0 ∙ ap (refusal_report n) u.1

  pub solving_refused : new ≡ old → Solving t ask old new r
  solving_refused k = record {
    refused = λ n i. (row n i, back n i);
    untouched = λ n i j. k;
    meaning = λ c a. absurd (refused_not_accepted t (Plan (length old)) (number_of f) (place_of f) c h a);
    searching = λ c a. absurd (refused_not_accepted t (Plan (length old)) (number_of f) (place_of f) c h a);
  }

pub solving_accepted : (t : List ℤ) (ask : Ask) (old new : List ℕ) (r : Result Solved Refusal) (c : Contents) → AcceptedBy ask.cycles t (Plan (length old)) c → AtomsIn c.atoms (program c)
    → (o : Outcome) → solve (base_by ask.cycles (program c) c.atoms) jump ask.limit ≡ some o → r ≡ Ok (reported o) → new ≡ plan_after c.atoms o.result old → Solving t ask old new r
solving_accepted t ask old new r c a A o e told kept =
    let L = mode_base_laws ask.cycles c.atoms (program c) A (heads_free t (Plan (length old)) c a) a.no_aggregate in
    let m = means (AnswerSet (program c)) (base_by ask.cycles (program c) c.atoms) L refl ask.limit old new r jump o e (counted o) refl told kept in
    let s = searches (AnswerSet (program c)) (base_by ask.cycles (program c) c.atoms) L refl ask.limit old new r (λ i q. (passes≥ (program c) c.atoms i q, passes≤ (program c) c.atoms i q)) o e told kept in
    record {
      refused = λ n i. (λ h. absurd (m.taken n i h), λ h. absurd (refused_not_accepted t (Plan (length old)) n i c h a));
      untouched = λ n i h. absurd (m.taken n i h);
      meaning = λ d b. subst (λ (x : Contents). Meaning x.atoms (AnswerSet (program x)) ask.limit old new r) (accepted_unique t (Plan (length old)) c d a b) m;
      searching = λ d b.
          subst (λ (x : Contents). (o : Outcome) × Searching (AnswerSet (program x)) (base_by ask.cycles (program x) x.atoms) r o ask.limit old new) (accepted_unique t (Plan (length old)) c d a b) (o, s);
    }
