-- "the first row of a listing is what `solve` answers": of the same accepted table with the same limit, where there is room for a row. Assumes nothing.
--   first_row    where `solve` answers, a plan is listed, and the first row and the plan's bytes say the same atoms
--   row_answered where a plan is listed, `solve` answers
use Rattle.std.specs.Prelude.{Result, Ok}
use Prim.Native.Nat.{ℕ, zero, suc, ◌-◌, ◌*◌, ◌≤◌}
use mathlib.Core.Path.{◌≡◌, refl, sym, ◌∙◌, ap}
use mathlib.Core.Option.{some}
use mathlib.Core.List.{List, [], ◌∷◌, ◌++◌, append_assoc}
use native.Mathlib.Omega.{arith}
use lib.IntN.{ℤ}
use lib.ListN.{length, take, drop, replicate, length-append, length-replicate}
use lib.Seq.{take_at}
use Rattle.meaning.specs.Aggregates.{Atoms}
use Rattle.meaning.specs.Answers.{AnswerSet}
use Rattle.results.specs.declared.Refusal.{Refusal}
use Rattle.results.specs.declared.Ask.{Ask}
use Rattle.results.specs.declared.Counts.{Counts}
use Rattle.results.specs.declared.Listed.{Listed}
use Rattle.results.specs.declared.Solved.{Solved}
use Rattle.results.specs.declared.Solved.TheVariants as solved
use Rattle.results.specs.Results.{listed_of, kind_of}
use Rattle.search.specs.Search as defined
use Rattle.search.specs.Search.{answer, no_answer, limit, jump, Outcome}
use Rattle.smaller.specs.Cyclic.{base_by}
use Rattle.search.specs.Listing as listing
use Rattle.table.specs.Contents.{Contents, program}
use Rattle.judging.specs.declared.Buffer.TheVariants.{Plan, Rows}
use Rattle.judging.specs.Refusals.{AcceptedBy}
use Rattle.judging.proofs.Places.{ranges}
use Rattle.promises.specs.Plans.{bytes_from, plan_with}
use Rattle.promises.specs.Promises.{solved_by, counted, plan_after, Searching}
use Rattle.promises.specs.Listings.{row_of, rows_of, rows_with, rooms, ListSearching}
use Rattle.promises.proofs.Listed.{counts_in, number_told}
use Rattle.solver.specs.Solving.{Solving}
use Rattle.lister.specs.Listing.{Listing}
use Rattle.lister.proofs.FirstPlan.{first_plan, no_plan_lem}

bytes_length : (X : Atoms) (p n : ℕ) → length (bytes_from X p n) ≡ n
bytes_length X p zero = refl
bytes_length X p (suc n) = ap suc (bytes_length X (suc p) n)

row_length : (n : ℕ) → n ≤ 256 → (X : Atoms) → length (row_of n X) ≡ 256
row_length n le X = let a = bytes_length X 1 n in let b = length-replicate {A = ℕ} (256 - n) 0 in let c = length-append (bytes_from X 1 n) (replicate (256 - n) 0) in omega arith

-- the first row of a listing that begins with X
row_first : (n : ℕ) → n ≤ 256 → (X : Atoms) (rest : List Atoms) (old : List ℕ) → take 256 (rows_with n (X ∷ rest) old) ≡ row_of n X
row_first n le X rest old =
    ap (take 256) (append_assoc (row_of n X) (rows_of n rest) (drop (256 * length (X ∷ rest)) old))
    ∙ take_at (row_of n X) (rows_of n rest ++ drop (256 * length (X ∷ rest)) old) 256 (row_length n le X)

module _ (t : List ℤ) (ask : Ask) (old new : List ℕ) (r : Result Listed Refusal) (plan shown : List ℕ) (s : Result Solved Refusal) (c : Contents) (a : AcceptedBy ask.cycles t (Rows (length old)) c) (b : AcceptedBy ask.cycles t (Plan (length plan)) c)
    (room : 256 ≤ length old) (L : Listing t ask old new r) (S : Solving t ask plan shown s) where
  o : Outcome
  o = (S.searching c b).0

  searched : Searching (AnswerSet (program c)) (base_by ask.cycles (program c) c.atoms) s o ask.limit plan shown
  unfolding o
  searched = (S.searching c b).1

  q : listing.Listed
  q = (L.searching c a).0

  listed : ListSearching (AnswerSet (program c)) (base_by ask.cycles (program c) c.atoms) r q ask.limit old new
  unfolding q
  listed = (L.searching c a).1

  number : listed_of r ≡ length q.plans
  number = ap listed_of listed.result ∙ number_told q.result (length q.plans) (counts_in q)

  k : ℕ
  k = rooms old - 1

  lists : listing.list_all (base_by ask.cycles (program c) c.atoms) jump ask.limit (suc k) ≡ some q
  unfolding k
  lists = let e : rooms old ≡ suc (rooms old - 1) = omega arith in ap (listing.list_all (base_by ask.cycles (program c) c.atoms) jump ask.limit) (sym e) ∙ listed.jumping

  told : (x : defined.Result) → o.result ≡ x → s ≡ Ok (solved_by x (counted o))
  told x i = searched.result ∙ ap (λ (y : defined.Result). Ok (solved_by y (counted o))) i

  -- the plan that is listed first is the one that `solve` writes
  pub record Same : Type 0 where
    pub atoms : Atoms
    pub written : shown ≡ plan_with c.atoms atoms plan
    pub row : take 256 new ≡ row_of c.atoms atoms

  answered : (m : Counts) → s ≡ Ok (solved.Answer m) → (x : defined.Result) → o.result ≡ x → (1 ≤ listed_of r) × Same
  answered m h (answer X) i =
      let w = first_plan (base_by ask.cycles (program c) c.atoms) jump ask.limit k o searched.jumping q lists X i in
      let n : length q.plans ≡ suc (length w.0) = ap length w.1 in
      let e = number in (
        omega arith,
        record {
          atoms = X;
          written = searched.plan ∙ ap (λ (y : defined.Result). plan_after c.atoms y plan) i;
          row = ap (take 256) (listed.rows ∙ ap (λ (l : List Atoms). rows_with c.atoms l old) w.1) ∙ row_first c.atoms (ranges t c a.holds).few_atoms X w.0 old;
        },
      )
  answered m h no_answer i = absurd (let u = ap kind_of (sym h ∙ told no_answer i) in omega arith)
  answered m h limit i = absurd (let u = ap kind_of (sym h ∙ told limit i) in omega arith)

  pub first_row : (m : Counts) → s ≡ Ok (solved.Answer m) → (1 ≤ listed_of r) × Same
  first_row m h = answered m h o.result refl

  -- nothing is listed
  nothing : q.plans ≡ [] → 1 ≤ listed_of r → ⊥
  nothing e l = let u : length q.plans ≡ 0 = ap length e in let v = number in omega arith

  listed_by_lem : 1 ≤ listed_of r → (x : defined.Result) → o.result ≡ x → (m : Counts) × (s ≡ Ok (solved.Answer m))
  listed_by_lem l (answer X) i = (counted o, told (answer X) i)
  listed_by_lem l no_answer i = absurd (nothing (no_plan_lem (base_by ask.cycles (program c) c.atoms) jump ask.limit k o searched.jumping q lists no_answer i (λ X e. let z : ◌≡◌ {A = ℕ} 0 1 = cc in omega arith)) l)
  listed_by_lem l limit i = absurd (nothing (no_plan_lem (base_by ask.cycles (program c) c.atoms) jump ask.limit k o searched.jumping q lists limit i (λ X e. let z : ◌≡◌ {A = ℕ} 0 1 = cc in omega arith)) l)

  pub row_answered : 1 ≤ listed_of r → (m : Counts) × (s ≡ Ok (solved.Answer m))
  row_answered l = listed_by_lem l o.result refl
