-- A result that reports what the defined listing ends with keeps the promises, over any answer sets and any problem that meet the laws of crate `search`, where a
-- choice tries true first; and each promise has one answer only. Assumes nothing.
--   lists_means         demand 2
--   lists_searches      demand 3
--   listing_unique      demand 3 fixes the result and the later rows
use mathlib.Core.Path.{◌≡◌, refl, sym, ◌∙◌, ap, subst}
use mathlib.Core.Logic.{◌⊎◌, inl, inr}
use mathlib.Core.Bool.{Bool, true}
use mathlib.Core.Option.{some}
use mathlib.Core.List.{List, ◌++◌}
use Rattle.std.specs.Prelude.{Result, Ok}
use Prim.Native.Nat.{ℕ, suc, ◌≤◌}
use native.Mathlib.Omega.{arith}
use lib.ListN.{length}
use Rattle.meaning.specs.Lists.{◌∈◌}
use Rattle.meaning.specs.Aggregates.{Atoms}
use Rattle.meaning.proofs.Cond.{some_inj}
use Rattle.results.specs.declared.Refusal.{Refusal}
use Rattle.results.specs.declared.Counts.{Counts}
use Rattle.results.specs.declared.Listed.{Listed}
use Rattle.results.specs.declared.Listed.TheVariants as listed
use Rattle.results.specs.Results.{ListReport, list_report_of, refusal_listing, listed_of, list_counts}
use Rattle.levels.specs.Levels.{Levels}
use Rattle.interpretation.specs.State.{Interpretation}
use Rattle.search.specs.Search as defined
use Rattle.search.specs.Search.{Problem, answer, no_answer, limit, jump, plain}
use Rattle.search.specs.Laws.{Left, Dead, DeadBy, Laws}
use Rattle.search.specs.Listing as listing
use Rattle.search.specs.Listing.{Jumped, list_all}
use Rattle.search.proofs.ListTheorems as theorems
use Rattle.search.proofs.Passes.{list_passes}
use Rattle.promises.specs.Listings.{rows_with, rooms, AllPlans, listed_by, listed_as, ListBeside, ListSearching}

-- the counts that are reported
abbrev pub counts_in : listing.Listed → Counts
counts_in o = record { choices = o.choices; skips = o.skips; passes = o.passes }

pub counts_told : (x : defined.Result) (m : ℕ) (k : Counts) → list_counts (Ok (listed_by x m k)) ≡ k
counts_told (answer X) m k = refl
counts_told no_answer m k = refl
counts_told limit m k = refl

pub number_told : (x : defined.Result) (m : ℕ) (k : Counts) → listed_of (Ok (listed_by x m k)) ≡ m
number_told (answer X) m k = refl
number_told no_answer m k = refl
number_told limit m k = refl

module _ (AS : Atoms → Type 0) (P : Problem) (L : Laws AS P) (first : P.first ≡ true) (lim : ℕ) (old new : List ℕ) (r : Result Listed Refusal) (o : listing.Listed) (e : list_all P jump lim (rooms old) ≡ some o)
    (told : r ≡ Ok (listed_as o)) (kept : new ≡ rows_with P.atoms o.plans old) where
  number : listed_of r ≡ length o.plans
  number = ap listed_of told ∙ number_told o.result (length o.plans) (counts_in o)

  -- by the result of the listing
  told_as : (x : defined.Result) → o.result ≡ x → r ≡ Ok (listed_by x (length o.plans) (counts_in o))
  told_as x i = told ∙ ap (λ (y : defined.Result). Ok (listed_by y (length o.plans) (counts_in o))) i

  -- the kind that is reported
  kind_as : (x : defined.Result) → o.result ≡ x → (list_report_of r).kind ≡ (list_report_of (Ok (listed_by x (length o.plans) (counts_in o)))).kind
  kind_as x i = ap (λ (y : Result Listed Refusal). (list_report_of y).kind) (told_as x i)

  kind_of_lem : (q : Result Listed Refusal) → r ≡ q → (list_report_of r).kind ≡ (list_report_of q).kind
  kind_of_lem q h = ap (λ (y : Result Listed Refusal). (list_report_of y).kind) h

  complete : (m : ℕ) (k : Counts) → r ≡ Ok (listed.Complete m k) → (x : defined.Result) → o.result ≡ x → (X : Atoms) → AS X → X ∈ o.plans
  complete m k h (answer Y) i X a = absurd (let u = kind_as (answer Y) i in let v = kind_of_lem (Ok (listed.Complete m k)) h in omega arith)
  complete m k h no_answer i X a = theorems.complete_means_all AS P L lim (rooms old) jump o e i X a
  complete m k h limit i X a = absurd (let u = kind_as limit i in let v = kind_of_lem (Ok (listed.Complete m k)) h in omega arith)

  full : (m : ℕ) (k : Counts) → r ≡ Ok (listed.Full m k) → (x : defined.Result) → o.result ≡ x → (m ≡ rooms old) × ((X : Atoms) × AS X × (X ∈ o.plans → ⊥))
  full m k h (answer Y) i =
      let t = theorems.full_means_more AS P L lim (rooms old) jump o e Y i in
      (sym (ap listed_of h) ∙ number ∙ t.0, (Y, t.1.0, t.1.1))
  full m k h no_answer i = absurd (let u = kind_as no_answer i in let v = kind_of_lem (Ok (listed.Full m k)) h in omega arith)
  full m k h limit i = absurd (let u = kind_as limit i in let v = kind_of_lem (Ok (listed.Full m k)) h in omega arith)

  limited : (m : ℕ) (k : Counts) → r ≡ Ok (listed.Limit m k) → (x : defined.Result) → o.result ≡ x → k.choices ≡ lim
  limited m k h (answer Y) i = absurd (let u = kind_as (answer Y) i in let v = kind_of_lem (Ok (listed.Limit m k)) h in omega arith)
  limited m k h no_answer i = absurd (let u = kind_as no_answer i in let v = kind_of_lem (Ok (listed.Limit m k)) h in omega arith)
  limited m k h limit i = sym (ap (λ (y : Result Listed Refusal). (list_counts y).choices) h) ∙ ap (λ (y : Result Listed Refusal). (list_counts y).choices) (told_as limit i) ∙ theorems.list_limit_is_reached AS P L lim (rooms old) jump o e i

  taken : (m k : ℕ) → list_report_of r ≡ refusal_listing m k → (x : defined.Result) → o.result ≡ x → ⊥
  taken m k h (answer X) i = let u = kind_as (answer X) i in let v = ap (λ (y : ListReport). y.kind) h in omega arith
  taken m k h no_answer i = let u = kind_as no_answer i in let v = ap (λ (y : ListReport). y.kind) h in omega arith
  taken m k h limit i = let u = kind_as limit i in let v = ap (λ (y : ListReport). y.kind) h in omega arith

  pub lists_means : AllPlans P.atoms AS lim old new r o.plans
  lists_means = record {
    rows = kept;
    number = number;
    fits = theorems.plans_fit AS P L lim (rooms old) jump o e;
    answers = theorems.listed_are_answers AS P L lim (rooms old) jump o e;
    order = theorems.listed_in_order AS P L lim (rooms old) jump o e first;
    once = theorems.listed_once AS P L lim (rooms old) jump o e;
    firsts = theorems.listed_come_first AS P L lim (rooms old) jump o e first;
    complete = λ m k h. complete m k h o.result refl;
    full = λ m k h. full m k h o.result refl;
    limited = λ m k h. limited m k h o.result refl;
    taken = λ m k h. taken m k h o.result refl;
  }

  -- ---- demand 3, where no propagation takes more than N + 1 passes

  counts : list_counts r ≡ counts_in o
  counts = ap list_counts told ∙ counts_told o.result (length o.plans) (counts_in o)

  choices : (list_counts r).choices ≡ o.choices
  choices = ap (λ (k : Counts). k.choices) counts

  skips : (list_counts r).skips ≡ o.skips
  skips = ap (λ (k : Counts). k.skips) counts

  passes : (list_counts r).passes ≡ o.passes
  passes = ap (λ (k : Counts). k.passes) counts

  -- a larger limit, or the same
  beside : (more : ℕ) → lim ≤ more → ListBeside AS P r o (rooms old) more
  beside more le =
      let q = theorems.listing_ends AS P L more (rooms old) plain in
      let d = theorems.list_jump≤plain_beyond AS P L lim more (rooms old) le o q.0 e q.1 in
      let few = d.0 in
      record { ends = q.0; plainly = q.1; fewer = rw choices few; alike = d.1 }

  sooner : o.result ≡ limit → (p : listing.Listed) → list_all P plain lim (rooms old) ≡ some p → p.result ≡ limit
  sooner i p f = at (theorems.list_jump≤plain AS P L lim (rooms old) o p e f).1
    where
      at : (p.result ≡ limit) ⊎ ((o.result ≡ p.result) × (o.plans ≡ p.plans)) → p.result ≡ limit
      at (inl h) = h
      at (inr h) = sym h.0 ∙ i

  dead : (j : Jumped) → j ∈ o.skipped → Dead (Left AS j.listed) j.branch × ((rest : List Atoms) × (o.plans ≡ j.listed ++ rest))
  dead j m =
      let t = theorems.list_skipped_hold_none AS P L lim (rooms old) jump o e j m in
      (subst (λ (v : Bool). DeadBy v (Left AS j.listed) j.branch) first t.0, t.1)

  pub lists_searches : ((i : Interpretation) (s : ℕ → Levels) → (P.propagate i s).passes ≤ suc P.atoms) → ListSearching AS P r o lim old new
  lists_searches most =
      let few = theorems.list_choices≤limit AS P L lim (rooms old) jump o e in
      let less = theorems.list_skips≤choices AS P L lim (rooms old) jump o e in
      let fewer = list_passes P jump lim (suc P.atoms) most (rooms old) o e in
      record {
        jumping = e;
        result = told;
        rows = kept;
        beside = λ more le. beside more le;
        sooner = sooner;
        skipped = theorems.list_skips_count AS P L lim (rooms old) jump o e ∙ sym skips;
        dead = dead;
        passes = rw passes fewer;
        bounded = (rw choices few, rw (skips, choices) less);
      }

-- ---- one answer only

pub listing_unique : (AS : Atoms → Type 0) (P : Problem) (lim : ℕ) (old new new' : List ℕ) (r r' : Result Listed Refusal) (o o' : listing.Listed)
    → ListSearching AS P r o lim old new → ListSearching AS P r' o' lim old new' → (r ≡ r') × (new ≡ new')
listing_unique AS P lim old new new' r r' o o' a b =
    let e : o ≡ o' = some_inj (sym a.jumping ∙ b.jumping) in
    (a.result ∙ ap (λ (x : listing.Listed). Ok (listed_as x)) e ∙ sym b.result, a.rows ∙ ap (λ (x : listing.Listed). rows_with P.atoms x.plans old) e ∙ sym b.rows)
