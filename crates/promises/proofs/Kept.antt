-- A result that reports what the defined search ends with keeps the promises, over any answer sets and any problem that meet the laws of crate `search`, where a
-- choice tries true first. Assumes nothing.
--   means      demand 2, of the jumping search and of the plain one
--   searches   demand 3, of the jumping search
use mathlib.Core.Path.{◌≡◌, refl, sym, ◌∙◌, ap, subst}
use mathlib.Core.Logic.{◌≢◌, ◌⊎◌, inl, inr}
use mathlib.Core.Bool.{Bool, true}
use mathlib.Core.Option.{some}
use mathlib.Core.List.{List}
use Rattle.std.specs.Prelude.{Result, Ok}
use Prim.Native.Nat.{ℕ, suc, ◌≤◌}
use native.Mathlib.Omega.{arith}
use Rattle.meaning.specs.Aggregates.{Atoms}
use Rattle.results.specs.declared.Refusal.{Refusal}
use Rattle.results.specs.declared.Counts.{Counts}
use Rattle.results.specs.declared.Solved.{Solved}
use Rattle.results.specs.declared.Solved.TheVariants as solved
use Rattle.results.specs.Results.{Report, counts_of, report_of, refusal_report}
use Rattle.levels.specs.Levels.{Levels}
use Rattle.interpretation.specs.State.{Interpretation}
use Rattle.search.specs.Search as defined
use Rattle.search.specs.Search.{Problem, answer, no_answer, limit, Outcome, Mode, jump, plain, start, solve}
use Rattle.search.specs.Laws.{DeadBy, Laws}
use Rattle.search.proofs.Theorems as theorems
use Rattle.search.proofs.Skips.{skips≤choices}
use Rattle.search.proofs.Limit.{here}
use Rattle.search.proofs.Passes.{solve_passes, passes_greatest}
use Rattle.promises.specs.Promises.{FirstWritten, Empty, Meaning, solved_by, counted, reported, plan_after, Beside, Searching}

pub counts_by : (x : defined.Result) (k : Counts) → counts_of (Ok (solved_by x k)) ≡ k
counts_by (answer X) k = refl
counts_by no_answer k = refl
counts_by limit k = refl

module _ (AS : Atoms → Type 0) (P : Problem) (L : Laws AS P) (first : P.first ≡ true) (lim : ℕ) (old new : List ℕ) (r : Result Solved Refusal) where
  -- whatever other counts are told with the search's choices
  module _ (mode : Mode) (o : Outcome) (e : solve P mode lim ≡ some o) (counts : Counts) (same : counts.choices ≡ o.choices) (told : r ≡ Ok (solved_by o.result counts))
      (kept : new ≡ plan_after P.atoms o.result old) where
    -- by the result of the search
    told_as : (x : defined.Result) → o.result ≡ x → r ≡ Ok (solved_by x counts)
    told_as x i = told ∙ ap (λ (y : defined.Result). Ok (solved_by y counts)) i

    kept_as : (x : defined.Result) → o.result ≡ x → new ≡ plan_after P.atoms x old
    kept_as x i = kept ∙ ap (λ (y : defined.Result). plan_after P.atoms y old) i

    answers : (k : Counts) → r ≡ Ok (solved.Answer k) → (x : defined.Result) → o.result ≡ x → FirstWritten P.atoms AS old new
    answers k h (answer X) i =
        let t = theorems.answer_is_first AS P L lim mode o e first X i in
        record { atoms = X; is_answer = t.0; first = t.1; written = kept_as (answer X) i }
    answers k h no_answer i = absurd (let u = told_as no_answer i in let z : ◌≡◌ {A = ℕ} 0 1 = cc in omega arith)
    answers k h limit i = absurd (let u = told_as limit i in let z : ◌≡◌ {A = ℕ} 0 1 = cc in omega arith)

    nothing : (k : Counts) → r ≡ Ok (solved.Nothing k) → (x : defined.Result) → o.result ≡ x → Empty P.atoms AS × (new ≡ old)
    nothing k h (answer X) i = absurd (let u = told_as (answer X) i in let z : ◌≡◌ {A = ℕ} 0 1 = cc in omega arith)
    nothing k h no_answer i = (theorems.none_means_none AS P L lim mode o e i, kept_as no_answer i)
    nothing k h limit i = absurd (let u = told_as limit i in let z : ◌≡◌ {A = ℕ} 0 1 = cc in omega arith)

    limited : (k : Counts) → r ≡ Ok (solved.Limit k) → (x : defined.Result) → o.result ≡ x → (k.choices ≡ lim) × (new ≡ old)
    limited k h (answer X) i = absurd (let u = told_as (answer X) i in let z : ◌≡◌ {A = ℕ} 0 1 = cc in omega arith)
    limited k h no_answer i = absurd (let u = told_as no_answer i in let z : ◌≡◌ {A = ℕ} 0 1 = cc in omega arith)
    limited k h limit i =
        let u : ◌≡◌ {A = Result Solved Refusal} (Ok (solved.Limit k)) (Ok (solved.Limit counts)) = sym h ∙ told_as limit i in
        (ap (λ (x : Result Solved Refusal). (counts_of x).choices) u ∙ same ∙ theorems.limit_is_reached AS P L lim mode o e i, kept_as limit i)

    found : (X : Atoms) → AS X → ((k : Counts) → r ≢ Ok (solved.Limit k)) → (x : defined.Result) → o.result ≡ x → (k : Counts) × (r ≡ Ok (solved.Answer k))
    found X a n (answer Z) i = (counts, told_as (answer Z) i)
    found X a n no_answer i = absurd (theorems.none_means_none AS P L lim mode o e i X a)
    found X a n limit i = absurd (n counts (told_as limit i))

    -- what is refused has the kind of a refusal
    kind_as : (m k : ℕ) → report_of r ≡ refusal_report m k → (x : defined.Result) → o.result ≡ x → 3 ≡ (report_of (Ok (solved_by x counts))).kind
    kind_as m k h x i = sym (ap (λ (y : Report). y.kind) h) ∙ ap (λ (y : Result Solved Refusal). (report_of y).kind) (told_as x i)

    taken : (m k : ℕ) → report_of r ≡ refusal_report m k → (x : defined.Result) → o.result ≡ x → ⊥
    taken m k h (answer X) i = let z = kind_as m k h (answer X) i in omega arith
    taken m k h no_answer i = let z = kind_as m k h no_answer i in omega arith
    taken m k h limit i = let z = kind_as m k h limit i in omega arith

    pub means : Meaning P.atoms AS lim old new r
    means = record {
      answers = λ k h. answers k h o.result refl;
      none = λ k h. nothing k h o.result refl;
      limited = λ k h. limited k h o.result refl;
      found = λ X a n. found X a n o.result refl;
      taken = λ m k h. taken m k h o.result refl;
    }

  -- where every propagation takes a pass, and none more than N + 1
  module _ (taken : (i : Interpretation) (r : ℕ → Levels) → (1 ≤ (P.propagate i r).passes) × ((P.propagate i r).passes ≤ suc P.atoms))
      (o : Outcome) (e : solve P jump lim ≡ some o) (told : r ≡ Ok (reported o)) (kept : new ≡ plan_after P.atoms o.result old) where
    counts : counts_of r ≡ counted o
    counts = ap counts_of told ∙ counts_by o.result (counted o)

    choices : (counts_of r).choices ≡ o.choices
    choices = ap (λ (k : Counts). k.choices) counts

    skips : (counts_of r).skips ≡ o.skips
    skips = ap (λ (k : Counts). k.skips) counts

    passes : (counts_of r).passes ≡ o.passes
    passes = ap (λ (k : Counts). k.passes) counts

    one : 1 ≤ o.passes
    one =
        let h = (passes_greatest P jump lim o e).0 (start P) (here refl) in
        let k = (taken (start P).interpretation (start P).reason).0 in
        omega arith

    -- a larger limit, or the same
    beside : (more : ℕ) → lim ≤ more → Beside AS P r o more
    beside more le =
        let q = theorems.search_ends AS P L more plain in
        let d = theorems.jump≤plain_beyond AS P L lim more le o q.0 e q.1 in
        let few = d.0 in
        record { ends = q.0; plainly = q.1; fewer = rw choices few; alike = d.1 }

    sooner : o.result ≡ limit → (p : Outcome) → solve P plain lim ≡ some p → p.result ≡ limit
    sooner i p f = at (theorems.jump≤plain AS P L lim o p e f).1
      where
        at : (p.result ≡ limit) ⊎ (o.result ≡ p.result) → p.result ≡ limit
        at (inl h) = h
        at (inr h) = sym h ∙ i

    pub searches : Searching AS P r o lim old new
    searches =
        let few = theorems.choices≤limit AS P L lim jump o e in
        let less = skips≤choices P jump lim o e in
        record {
          jumping = e;
          result = told;
          plan = kept;
          beside = λ more le. beside more le;
          sooner = sooner;
          skipped = theorems.skips_count AS P L lim jump o e ∙ sym skips;
          dead = λ b m. subst (λ (v : Bool). DeadBy v AS b) first (theorems.skipped_hold_none AS P L lim jump o e b m);
          passes = let w = one in let most = solve_passes P jump lim (suc P.atoms) (λ i s. (taken i s).1) o e in (rw passes w, rw passes most);
          bounded = (rw choices few, rw (skips, choices) less);
        }
