-- The whole promise of `plain::solve`, for a refused table and for an accepted one. Assumes nothing.
use mathlib.Core.Path.{◌≡◌, refl, sym, ◌∙◌, ap, subst}
use mathlib.Core.Option.{some}
use mathlib.Core.List.{List}
use Prim.Native.Nat.{ℕ}
use lib.IntN.{ℤ}
use lib.ListN.{length, replicate}
use Rattle.meaning.specs.Program.{Program}
use Rattle.meaning.specs.Answers.{AnswerSet}
use Rattle.results.specs.declared.Ask.{Ask}
use Rattle.results.specs.declared.Refusal.{Refusal}
use Rattle.std.specs.Prelude.{Result, Ok, Err}
use Rattle.results.specs.declared.Solved.{Solved}
use Rattle.results.specs.Results.{number_of, place_of}
use Rattle.layout.specs.declared.Table.{Table}
use Rattle.layout.specs.Layout.{program_of}
use Rattle.search.specs.Search.{Problem, Outcome, plain, solve}
use Rattle.search.specs.Laws.{Laws}
use Rattle.search.proofs.Theorems as theorems
use Rattle.smaller.specs.Cyclic.{base_by}
use Rattle.smaller.proofs.Modes.{mode_base_laws}
use Rattle.table.proofs.Accepted.{accepted_atoms}
use Rattle.table.specs.Contents.{Contents, program}
use Rattle.judging.specs.declared.Buffer.TheVariants.{Plan}
use Rattle.judging.specs.Refusals.{AcceptedBy, RefusedBy}
use Rattle.judging.specs.Judging.{Placed}
use Rattle.judging.proofs.Refusals.{heads_free, accepted_unique, refused_not_accepted}
use Rattle.promises.specs.Promises.{plan_after, solved_by, Meaning}
use Rattle.promises.proofs.Kept.{means}
use Rattle.solver.proofs.Entry.{solving_refused}
use Rattle.plain.specs.Promise.{plain_counts, Searched, Plainly}
use Rattle.plain.specs.declared.passes.Side.{Side}
use Rattle.plain.specs.Plain.{Sided}
use Rattle.plain.proofs.Sides.{found_outcome}
use Rattle.plain.proofs.Meant.{searched}

-- refused as `solver::solve` is
pub plainly_refused : (t : List ℤ) (ask : Ask) (old new : List ℕ) (r : Result Solved Refusal) (f : Refusal) → RefusedBy ask.cycles t (Plan (length old)) (number_of f) (place_of f) → r ≡ Err f → new ≡ old → Plainly t ask old new r
plainly_refused t ask old new r f h e k =
    let s = solving_refused t ask old new r f h e k in
    record {
      refused = s.refused;
      untouched = s.untouched;
      meaning = s.meaning;
      searching = λ c a. absurd (refused_not_accepted t (Plan (length old)) (number_of f) (place_of f) c h a);
    }

-- of an accepted table
module _ (t : List ℤ) (ask : Ask) (old new : List ℕ) (r : Solved) (c : Contents) (a : AcceptedBy ask.cycles t (Plan (length old)) c) where
  L : Laws (AnswerSet (program c)) (base_by ask.cycles (program c) c.atoms)
  L = mode_base_laws ask.cycles c.atoms (program c) (accepted_atoms t c a.holds) (heads_free t (Plan (length old)) c a) a.no_aggregate

  plainly_accepted : (p : Outcome) → solve (base_by ask.cycles (program c) c.atoms) plain ask.limit ≡ some p → r ≡ solved_by p.result (plain_counts p.choices)
      → new ≡ plan_after c.atoms p.result old → Plainly t ask old new (Ok r)
  plainly_accepted p e told kept =
      let lim = ask.limit in
      let m = means (AnswerSet (program c)) (base_by ask.cycles (program c) c.atoms) L refl lim old new (Ok r) plain p e (plain_counts p.choices) refl (ap Ok told) kept in
      let s = searched ask.cycles c L lim p e old new (Ok r) (ap Ok told) kept in
      record {
        refused = λ n i. (λ h. absurd (m.taken n i h), λ h. absurd (refused_not_accepted t (Plan (length old)) n i c h a));
        untouched = λ n i h. absurd (m.taken n i h);
        meaning = λ d b. subst (λ (x : Contents). Meaning x.atoms (AnswerSet (program x)) lim old new (Ok r)) (accepted_unique t (Plan (length old)) c d a b) m;
        searching = λ d b. subst (λ (x : Contents). (p : Outcome) × Searched ask.cycles x lim old new (Ok r) p) (accepted_unique t (Plan (length old)) c d a b) (p, s);
      }

  -- of what the code found for its places
  module _ (tb : Table) (placed : Placed t tb c) where
    same_problem : base_by ask.cycles (program_of t tb) tb.atoms ≡ base_by ask.cycles (program c) c.atoms
    same_problem = ap (λ (P : Program). base_by ask.cycles P tb.atoms) placed.rules ∙ ap (base_by ask.cycles (program c)) placed.atoms

    pub plainly_found : (side : Side) → side.values ≡ replicate 256 0 → side.choices ≡ 0 → Sided ask.cycles t tb ask.limit side old new r → Plainly t ask old new (Ok r)
    plainly_found side blank none S =
        let q = theorems.search_ends (AnswerSet (program c)) (base_by ask.cycles (program c) c.atoms) L ask.limit plain in
        let p = q.0 in
        let K =
        subst (λ (n : ℕ). Laws (AnswerSet (program_of t tb)) (base_by ask.cycles (program_of t tb) n)) (sym placed.atoms)
        (subst (λ (P : Program). Laws (AnswerSet P) (base_by ask.cycles P c.atoms)) (sym placed.rules) L) in
        let w = found_outcome ask.cycles t tb ask.limit K side blank none old new r S p (ap (λ (B : Problem). solve B plain ask.limit) same_problem ∙ q.1) in
        plainly_accepted p q.1 w.0 (w.1 ∙ ap (λ (m : ℕ). plan_after m p.result old) placed.atoms)
