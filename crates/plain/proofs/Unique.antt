-- The promise of `plain::solve` has one answer only; and where neither meets its limit it is the answer of `solver::solve`, whatever the two limits are.
--   plainly_unique     two results, and two later buffers, that meet the promise for the same input are equal
--   plain_is_jumping   the same kind, plan and refusal as `solver::solve`, which opens no more choices
-- Assumes nothing.
use mathlib.Core.Path.{◌≡◌, refl, sym, ◌∙◌, ap}
use mathlib.Core.Logic.{◌≢◌, inl, inr, ◌↔◌}
use mathlib.Core.Bool.{Bool}
use mathlib.Core.List.{List}
use Prim.Native.Nat.{ℕ, ◌≤◌}
use native.Mathlib.Omega.{arith}
use lib.IntN.{ℤ}
use lib.ListN.{length}
use Rattle.meaning.proofs.Cond.{some_inj}
use Rattle.std.specs.Prelude as code
use Rattle.std.specs.Prelude.{Ok}
use Rattle.results.specs.declared.Refusal.{Refusal}
use Rattle.results.specs.declared.Solved.{Solved}
use Rattle.results.specs.declared.Ask.{Ask}
use Rattle.results.specs.declared.Counts.{Counts}
use Rattle.results.specs.Results.{number_of, place_of, Report, kind_of, counts_of, report_of, refusal_report}
use Rattle.results.proofs.Determined.{report_determines}
use Rattle.search.specs.Search.{Result, answer, no_answer, limit, Outcome}
use Rattle.judging.specs.declared.Buffer.TheVariants.{Plan}
use Rattle.judging.proofs.Judged.{DecidedBy, decided}
use Rattle.promises.specs.Promises.{counted, plan_after, solved_by}
use Rattle.promises.proofs.Kept.{counts_by}
use Rattle.solver.specs.Solving.{Solving}
use Rattle.plain.specs.Promise.{plain_counts, Plainly}

module _ (t : List ℤ) (ask : Ask) (old : List ℕ) where
  unique_by : DecidedBy ask.cycles t (Plan (length old)) → (new new' : List ℕ) (r r' : code.Result Solved Refusal) → Plainly t ask old new r → Plainly t ask old new' r' → (r ≡ r') × (new ≡ new')
  unique_by (inl (f, h)) new new' r r' a b =
      let e = (a.refused (number_of f) (place_of f)).1 h in
      let i = (b.refused (number_of f) (place_of f)).1 h in
      (report_determines r r' (e ∙ sym i), a.untouched (number_of f) (place_of f) e ∙ sym (b.untouched (number_of f) (place_of f) i))
  unique_by (inr (c, h)) new new' r r' a b =
      let x = a.searching c h in
      let y = b.searching c h in
      let e : x.0 ≡ y.0 = some_inj (sym x.1.plainly ∙ y.1.plainly) in (
        x.1.result ∙ ap (λ (p : Outcome). Ok (solved_by p.result (plain_counts p.choices))) e ∙ sym y.1.result,
        x.1.plan ∙ ap (λ (p : Outcome). plan_after c.atoms p.result old) e ∙ sym y.1.plan,
      )

  pub plainly_unique : (new new' : List ℕ) (r r' : code.Result Solved Refusal) → Plainly t ask old new r → Plainly t ask old new' r' → (r ≡ r') × (new ≡ new')
  plainly_unique = unique_by (decided t (Plan (length old)))

-- ---- beside `solver::solve`

kind_by_lem : (x : Result) (k l : Counts) → kind_of (Ok (solved_by x k)) ≡ kind_of (Ok (solved_by x l))
kind_by_lem (answer X) k l = refl
kind_by_lem no_answer k l = refl
kind_by_lem limit k l = refl

-- a result whose kind is not 2, limit, reports no limit
not_limit : (r : code.Result Solved Refusal) (x : Result) (k : Counts) → r ≡ Ok (solved_by x k) → kind_of r ≢ 2 → x ≢ limit
not_limit r x k e n i = n (ap kind_of e ∙ ap (λ (y : Result). kind_of (Ok (solved_by y k))) i)

-- what the two results have in common: r of the plain engine, r' of the jumping one
pub record Agree (r r' : code.Result Solved Refusal) (new new' : List ℕ) : Type 0 where
  pub kind : kind_of r ≡ kind_of r'
  pub plan : new ≡ new'
  pub refusal : (n i : ℕ) → (report_of r ≡ refusal_report n i) ↔ (report_of r' ≡ refusal_report n i)
  pub choices : (counts_of r').choices ≤ (counts_of r).choices

module _ (t : List ℤ) (cycles : Bool) (lim lim' : ℕ) (old new new' : List ℕ) (r r' : code.Result Solved Refusal) (a : Plainly t (record { cycles = cycles; limit = lim }) old new r)
    (b : Solving t (record { cycles = cycles; limit = lim' }) old new' r') where
  -- both are refused exactly where 01's table says so, in the mode of both
  refusals : (n i : ℕ) → (report_of r ≡ refusal_report n i) ↔ (report_of r' ≡ refusal_report n i)
  refusals n i = (λ h. (b.refused n i).1 ((a.refused n i).0 h), λ h. (a.refused n i).1 ((b.refused n i).0 h))

  agree_by : kind_of r ≢ 2 → kind_of r' ≢ 2 → DecidedBy cycles t (Plan (length old)) → Agree r r' new new'
  agree_by n m (inl (f, h)) =
      let e = (a.refused (number_of f) (place_of f)).1 h in
      let i = (b.refused (number_of f) (place_of f)).1 h in
      let k : (counts_of r').choices ≡ (counts_of r).choices = ap (λ (x : Report). x.counts.choices) (i ∙ sym e) in
      record {
        kind = ap (λ (x : Report). x.kind) (e ∙ sym i);
        plan = a.untouched (number_of f) (place_of f) e ∙ sym (b.untouched (number_of f) (place_of f) i);
        refusal = refusals;
        choices = omega (arith, k);
      }
  agree_by n m (inr (c, h)) =
      let x = a.searching c h in
      let p = x.0 in
      let y = b.searching c h in
      let o = y.0 in
      let w = x.1.alike (not_limit r p.result (plain_counts p.choices) x.1.result n) lim' o y.1.jumping (not_limit r' o.result (counted o) y.1.result m) in
      let k : (counts_of r).choices ≡ p.choices = ap (λ (z : code.Result Solved Refusal). (counts_of z).choices) x.1.result ∙ ap (λ (z : Counts). z.choices) (counts_by p.result (plain_counts p.choices)) in
      let l : (counts_of r').choices ≡ o.choices = ap (λ (z : code.Result Solved Refusal). (counts_of z).choices) y.1.result ∙ ap (λ (z : Counts). z.choices) (counts_by o.result (counted o)) in
      let q = w.1 in
      record {
        kind = ap kind_of x.1.result ∙ ap (λ (z : Result). kind_of (Ok (solved_by z (plain_counts p.choices)))) (sym w.0) ∙ kind_by_lem o.result (plain_counts p.choices) (counted o) ∙ sym (ap kind_of y.1.result);
        plan = x.1.plan ∙ ap (λ (z : Result). plan_after c.atoms z old) (sym w.0) ∙ sym y.1.plan;
        refusal = refusals;
        choices = omega (arith, k, l, q);
      }

  -- neither has met its limit
  pub plain_is_jumping : kind_of r ≢ 2 → kind_of r' ≢ 2 → Agree r r' new new'
  plain_is_jumping n m = agree_by n m (decided t (Plan (length old)))
