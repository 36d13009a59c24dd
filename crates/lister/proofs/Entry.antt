-- The whole promise of `list`, for a refused table and for an accepted one. Assumes nothing.
use mathlib.Core.Path.{◌≡◌, refl, sym, ◌∙◌, ap, subst}
use mathlib.Core.Option.{some}
use mathlib.Core.List.{List}
use Rattle.std.specs.Prelude.{Result, Ok, Err}
use Prim.Native.Nat.{ℕ, ◌≤◌}
use lib.IntN.{ℤ}
use lib.ListN.{length}
use Rattle.meaning.specs.Aggregates.{Atoms}
use Rattle.meaning.specs.Program.{AtomsIn}
use Rattle.meaning.specs.Answers.{AnswerSet}
use Rattle.results.specs.declared.Refusal.{Refusal}
use Rattle.results.specs.declared.Ask.{Ask}
use Rattle.results.specs.declared.Counts.{Counts}
use Rattle.results.specs.declared.Listed.{Listed}
use Rattle.results.specs.Results.{number_of, place_of, ListReport, list_report_of, refusal_listing}
use Rattle.search.specs.Search as defined
use Rattle.search.specs.Search.{answer, no_answer, limit, jump}
use Rattle.search.specs.Listing as listing
use Rattle.search.specs.Listing.{list_all}
use Rattle.smaller.specs.Cyclic.{base_by}
use Rattle.search.specs.Laws.{Laws}
use Rattle.smaller.proofs.Modes.{mode_base_laws}
use Rattle.search.proofs.ListTheorems.{listed_are_answers}
use Rattle.steps.proofs.Ending.{passes≤}
use Rattle.table.specs.Contents.{Contents, program}
use Rattle.judging.specs.declared.Buffer.TheVariants.{Rows}
use Rattle.judging.specs.Refusals.{AcceptedBy, RefusedBy}
use Rattle.judging.proofs.Refusals.{heads_free, accepted_unique, refused_not_accepted, refused_unique}
use Rattle.promises.specs.Listings.{rows_with, rooms, AllPlans, listed_by, listed_as, ListSearching}
use Rattle.promises.proofs.Listed.{lists_means, lists_searches}
use Rattle.listing.specs.Rows as code
use Rattle.lister.specs.Listing.{Listing}
use Rattle.lister.specs.Telling.{result_by, result_of}
use Rattle.lister.proofs.Rows.{with_same}

module _ (t : List ℤ) (ask : Ask) (old new : List ℕ) (r : Result Listed Refusal) (f : Refusal) (h : RefusedBy ask.cycles t (Rows (length old)) (number_of f) (place_of f)) (e : r ≡ Err f) where
  told : list_report_of r ≡ refusal_listing (number_of f) (place_of f)
  told = ap list_report_of e

  -- the number and the place that are told are those of the table's row
  row : (n i : ℕ) → list_report_of r ≡ refusal_listing n i → RefusedBy ask.cycles t (Rows (length old)) n i
  row n i k =
      let u : refusal_listing (number_of f) (place_of f) ≡ refusal_listing n i = sym told ∙ k in
      subst (λ (x : ListReport). RefusedBy ask.cycles t (Rows (length old)) x.number x.place) u h

  back : (n i : ℕ) → RefusedBy ask.cycles t (Rows (length old)) n i → list_report_of r ≡ refusal_listing n i
  back n i k =
      let u = refused_unique t (Rows (length old)) (number_of f) (place_of f) n i h k in
      told ∙ ap (λ (m : ℕ). refusal_listing m (place_of f)) u.0 ∙ ap (refusal_listing n) u.1

  pub listing_refused : new ≡ old → Listing t ask old new r
  listing_refused k = record {
    refused = λ n i. (row n i, back n i);
    untouched = λ n i j. k;
    meaning = λ c a. absurd (refused_not_accepted t (Rows (length old)) (number_of f) (place_of f) c h a);
    searching = λ c a. absurd (refused_not_accepted t (Rows (length old)) (number_of f) (place_of f) c h a);
  }

-- what is told of the listing's end is the result that reports it
told_same : (x : defined.Result) (m : ℕ) (k : Counts) → result_by (code.kind_by x) m k ≡ listed_by x m k
told_same (answer X) m k = refl
told_same no_answer m k = refl
told_same limit m k = refl

pub told_by_lem : (o : listing.Listed) → result_of (code.told_by o) ≡ listed_as o
told_by_lem o = told_same o.result (length o.plans) (record { choices = o.choices; skips = o.skips; passes = o.passes })

module _ (t : List ℤ) (ask : Ask) (old new : List ℕ) (c : Contents) (a : AcceptedBy ask.cycles t (Rows (length old)) c) (A : AtomsIn c.atoms (program c)) (le : c.atoms ≤ 256)
    (o : listing.Listed) (e : list_all (base_by ask.cycles (program c) c.atoms) jump ask.limit (rooms old) ≡ some o) where
  L : Laws (AnswerSet (program c)) (base_by ask.cycles (program c) c.atoms)
  L = mode_base_laws ask.cycles c.atoms (program c) A (heads_free t (Rows (length old)) c a) a.no_aggregate

  kept : new ≡ code.rows_with o.plans old → new ≡ rows_with c.atoms o.plans old
  kept k = k ∙ with_same c.atoms le o.plans (λ X m. L.range X (listed_are_answers (AnswerSet (program c)) (base_by ask.cycles (program c) c.atoms) L ask.limit (rooms old) jump o e X m)) old

  pub listing_accepted : (r : Result Listed Refusal) → r ≡ Ok (listed_as o) → new ≡ code.rows_with o.plans old → Listing t ask old new r
  listing_accepted r told k =
      let m = lists_means (AnswerSet (program c)) (base_by ask.cycles (program c) c.atoms) L refl ask.limit old new r o e told (kept k) in
      let s = lists_searches (AnswerSet (program c)) (base_by ask.cycles (program c) c.atoms) L refl ask.limit old new r o e told (kept k) (λ i q. passes≤ (program c) c.atoms i q) in
      record {
        refused = λ n i. (λ h. absurd (m.taken n i h), λ h. absurd (refused_not_accepted t (Rows (length old)) n i c h a));
        untouched = λ n i h. absurd (m.taken n i h);
        meaning = λ d b.
            subst (λ (x : Contents). (plans : List Atoms) × AllPlans x.atoms (AnswerSet (program x)) ask.limit old new r plans) (accepted_unique t (Rows (length old)) c d a b) (o.plans, m);
        searching = λ d b.
            subst (λ (x : Contents). (o : listing.Listed) × ListSearching (AnswerSet (program x)) (base_by ask.cycles (program x) x.atoms) r o ask.limit old new) (accepted_unique t (Rows (length old)) c d a b) (o, s);
      }
