-- The two modes of request 14 side by side: "on tables without head cycles the plan equals the old mode's whenever neither reaches the limit". Whatever the two limits are. Assumes nothing.
--   accepted-alike, refused-alike   such a table is accepted, or refused with the same number and place, in both
--   modes_agree                     `solve` gives the same kind, plan and refusal
--   approvals_agree                 `approve` says the same
use mathlib.Core.Path.{◌≡◌, refl, sym, ◌∙◌, ap}
use mathlib.Core.Logic.{◌≢◌, inl, inr, ◌↔◌}
use mathlib.Core.Bool.{true, false}
use mathlib.Core.List.{List}
use Rattle.std.specs.Prelude.{Bool, Result, Ok}
use Prim.Native.Nat.{ℕ}
use lib.IntN.{ℤ}
use lib.ListN.{length}
use Rattle.meaning.specs.Dependency.{HeadCycle, Free}
use Rattle.results.specs.declared.Counts.{Counts}
use Rattle.results.specs.declared.Solved.{Solved}
use Rattle.results.specs.declared.Refusal.{Refusal}
use Rattle.results.specs.Results.{number_of, place_of, kind_of, Report, report_of, refusal_report}
use Rattle.search.specs.Search as defined
use Rattle.search.specs.Search.{answer, no_answer, limit, jump}
use Rattle.smaller.proofs.Cyclic.{same_as_base}
use Rattle.table.specs.Contents.{Contents, program}
use Rattle.table.specs.Grammar.{accepted, contents_of}
use Rattle.table.proofs.Accepted.{accepted_atoms}
use Rattle.judging.specs.declared.Buffer.{Buffer}
use Rattle.judging.specs.declared.Buffer.TheVariants.{Plan}
use Rattle.judging.specs.Refusals.{AcceptedBy, RefusedBy, words, buffer, table, head, aggregate}
use Rattle.judging.proofs.Refusals.{lowest_not_free}
use Rattle.judging.proofs.Judged.{DecidedBy, decided}
use Rattle.promises.specs.Promises.{solved_by, counted, plan_after}
use Rattle.solver.specs.Approving.{CheckRefusedBy, before, byte, ApprovingBy}
use Rattle.solver.specs.Solving.{Solving}
use Rattle.solver.proofs.Unique.{approving_unique}

kind_by_lem : (x : defined.Result) (k l : Counts) → kind_of (Ok (solved_by x k)) ≡ kind_of (Ok (solved_by x l))
kind_by_lem (answer X) k l = refl
kind_by_lem no_answer k l = refl
kind_by_lem limit k l = refl

-- a result whose kind is not 2, limit, reports no limit
not_limit : (r : Result Solved Refusal) (x : defined.Result) (k : Counts) → r ≡ Ok (solved_by x k) → kind_of r ≢ 2 → x ≢ limit
not_limit r x k e n i = n (ap kind_of e ∙ ap (λ (y : defined.Result). kind_of (Ok (solved_by y k))) i)

-- what the two results have in common
pub record Agree (r r' : Result Solved Refusal) (new new' : List ℕ) : Type 0 where
  pub kind : kind_of r ≡ kind_of r'
  pub plan : new ≡ new'
  pub refusal : (n i : ℕ) → (report_of r ≡ refusal_report n i) ↔ (report_of r' ≡ refusal_report n i)

-- the words hold no program with a head cycle
module _ (t : List ℤ) (no_head : (c : Contents) → contents_of t ≡ accepted c → Free HeadCycle (program c)) where
  module _ (b : Buffer) where
    pub accepted_alike : (c : Contents) → AcceptedBy false t b c ↔ AcceptedBy true t b c
    accepted_alike c = (
      λ a. record { words = a.words; buffer = a.buffer; holds = a.holds; no_head = λ r m h. h; no_aggregate = a.no_aggregate },
      λ a. record { words = a.words; buffer = a.buffer; holds = a.holds; no_head = no_head c a.holds; no_aggregate = a.no_aggregate },
    )

    refused_new : (n i : ℕ) → RefusedBy false t b n i → RefusedBy true t b n i
    refused_new n i (words l e p) = words l e p
    refused_new n i (buffer s e p) = buffer s e p
    refused_new n i (table s g f h e p) = table s g f h e p
    refused_new n i (head s g c h l e) = absurd (lowest_not_free HeadCycle (program c) i l (no_head c h))
    refused_new n i (aggregate s g c h f l e) = aggregate s g c h (λ r m z. z) l e

    refused_old : (n i : ℕ) → RefusedBy true t b n i → RefusedBy false t b n i
    refused_old n i (words l e p) = words l e p
    refused_old n i (buffer s e p) = buffer s e p
    refused_old n i (table s g f h e p) = table s g f h e p
    refused_old n i (head s g c h l e) = absurd l.here
    refused_old n i (aggregate s g c h f l e) = aggregate s g c h (no_head c h) l e

    pub refused_alike : (n i : ℕ) → RefusedBy false t b n i ↔ RefusedBy true t b n i
    refused_alike n i = (refused_new n i, refused_old n i)

  -- ---- `solve`

  module _ (lim more : ℕ) (old new new' : List ℕ) (r r' : Result Solved Refusal) (a : Solving t (record { cycles = false; limit = lim }) old new r) (b : Solving t (record { cycles = true; limit = more }) old new' r') where
    refusals : (n i : ℕ) → (report_of r ≡ refusal_report n i) ↔ (report_of r' ≡ refusal_report n i)
    refusals n i =
        let x = refused_alike (Plan (length old)) n i in
        (λ h. (b.refused n i).1 (x.0 ((a.refused n i).0 h)), λ h. (a.refused n i).1 (x.1 ((b.refused n i).0 h)))

    agree_by : kind_of r ≢ 2 → kind_of r' ≢ 2 → DecidedBy false t (Plan (length old)) → Agree r r' new new'
    agree_by n m (inl (f, h)) =
        let e = (a.refused (number_of f) (place_of f)).1 h in
        let i = (refusals (number_of f) (place_of f)).0 e in
        record {
          kind = ap (λ (x : Report). x.kind) (e ∙ sym i);
          plan = a.untouched (number_of f) (place_of f) e ∙ sym (b.untouched (number_of f) (place_of f) i);
          refusal = refusals;
        }
    agree_by n m (inr (c, h)) =
        let x = a.searching c h in
        let y = b.searching c ((accepted_alike (Plan (length old)) c).0 h) in
        let o = x.0 in
        let q = y.0 in
        let e = same_as_base c.atoms (program c) (accepted_atoms t c h.holds) h.no_head h.no_aggregate jump jump lim more o q x.1.jumping y.1.jumping
        (not_limit r o.result (counted o) x.1.result n) (not_limit r' q.result (counted q) y.1.result m) in
        record {
          kind = ap kind_of x.1.result ∙ kind_by_lem o.result (counted o) (counted q) ∙ ap (λ (z : defined.Result). kind_of (Ok (solved_by z (counted q)))) (sym e) ∙ sym (ap kind_of y.1.result);
          plan = x.1.plan ∙ ap (λ (z : defined.Result). plan_after c.atoms z old) (sym e) ∙ sym y.1.plan;
          refusal = refusals;
        }

    -- neither has met its limit
    pub modes_agree : kind_of r ≢ 2 → kind_of r' ≢ 2 → Agree r r' new new'
    modes_agree n m = agree_by n m (decided t (Plan (length old)))

  -- ---- `approve`

  module _ (plan : List ℕ) where
    check_new : (n i : ℕ) → CheckRefusedBy false t plan n i → CheckRefusedBy true t plan n i
    check_new n i (before h) = before (refused_new (Plan (length plan)) n i h)
    check_new n i (byte c a h e) = byte c ((accepted_alike (Plan (length plan)) c).0 a) h e

    check_old : (n i : ℕ) → CheckRefusedBy true t plan n i → CheckRefusedBy false t plan n i
    check_old n i (before h) = before (refused_old (Plan (length plan)) n i h)
    check_old n i (byte c a h e) = byte c ((accepted_alike (Plan (length plan)) c).1 a) h e

    -- what keeps the promise of the one mode keeps that of the other
    approving_old : (r : Result Bool Refusal) → ApprovingBy true t plan r → ApprovingBy false t plan r
    approving_old r a = record {
      refused = λ n i. (λ h. check_old n i ((a.refused n i).0 h), λ h. (a.refused n i).1 (check_new n i h));
      yes = λ c h k. a.yes c ((accepted_alike (Plan (length plan)) c).0 h) k;
      no = λ c h k. a.no c ((accepted_alike (Plan (length plan)) c).0 h) k;
    }

    pub approvals_agree : (r r' : Result Bool Refusal) → ApprovingBy false t plan r → ApprovingBy true t plan r' → r ≡ r'
    approvals_agree r r' a b = approving_unique t plan r r' a (approving_old r' b)
