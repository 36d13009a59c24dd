-- Each promise has one answer only: two results, and two later buffers, that meet it for the same input are equal. Assumes nothing.
--   solving_unique     of the promise of `solve` on result and plan;  explaining_unique: on rounds and rules;  solution_unique: of the whole
--                      of demand 2 alone: `meaning_unique` of crate `promises`
--   lent_unique        two calls of `solve_with` that differ only in what the lent memory holds
--   approving_unique   of the promise of `approve`
use mathlib.Core.Path.{◌≡◌, refl, sym, ◌∙◌, ap, subst}
use mathlib.Core.Logic.{◌≢◌, ◌⊎◌, inl, inr}
use mathlib.Core.Bool.{Bool, true, false}
use mathlib.Core.List.{List}
use Rattle.std.specs.Prelude.{Result, Ok, Err}
use Prim.Native.Nat.{ℕ}
use native.Mathlib.Omega.{arith}
use lib.IntN.{ℤ}
use lib.ListN.{length}
use Rattle.meaning.specs.Answers.{model, AnswerSet}
use Rattle.meaning.proofs.Tools.{clash}
use Rattle.meaning.proofs.Cond.{eq_case}
use Rattle.results.specs.declared.Refusal.{Refusal}
use Rattle.results.specs.Results.{number_of, place_of, kind_of, Report}
use Rattle.results.proofs.Determined.{report_determines, check_determines}
use Rattle.results.specs.declared.Ask.{Ask}
use Rattle.results.specs.declared.Solved.{Solved}
use Rattle.rounds.specs.declared.Why.{Why}
use Rattle.rounds.specs.Rounds.{no_whys}
use Rattle.rounds.proofs.Records.{recorded_one}
use Rattle.smaller.specs.Cyclic.{base_by}
use Rattle.promises.proofs.Unique.{searching_unique}
use Rattle.table.specs.Contents.{Contents, program}
use Rattle.judging.specs.declared.Buffer.TheVariants.{Plan}
use Rattle.judging.specs.Refusals.{AcceptedBy, RefusedBy}
use Rattle.judging.proofs.Judged.{DecidedBy, decided}
use Rattle.promises.specs.Plans.{plan_atoms}
use Rattle.solver.specs.Approving.{CheckRefusedBy, before, byte, Bits, BadByte, ApprovingBy}
use Rattle.solver.specs.Explaining.{ExplainingBy}
use Rattle.solver.specs.Plans.{passes_by}
use Rattle.solver.specs.declared.Solution.{Solution}
use Rattle.solver.proofs.Offered.{bad_or_good}
use Rattle.solver.proofs.Approved.{plan_range, tested_answer, answer_tested}
use Rattle.table.proofs.Accepted.{accepted_atoms}
use Rattle.solver.specs.Solving.{Solving}

module _ (t : List ℤ) (ask : Ask) (old : List ℕ) where
  unique_by : DecidedBy ask.cycles t (Plan (length old)) → (new new' : List ℕ) (r r' : Result Solved Refusal) → Solving t ask old new r → Solving t ask old new' r' → (r ≡ r') × (new ≡ new')
  unique_by (inl (f, h)) new new' r r' a b =
      let e = (a.refused (number_of f) (place_of f)).1 h in
      let i = (b.refused (number_of f) (place_of f)).1 h in
      (report_determines r r' (e ∙ sym i), a.untouched (number_of f) (place_of f) e ∙ sym (b.untouched (number_of f) (place_of f) i))
  unique_by (inr (c, h)) new new' r r' a b =
      let x = a.searching c h in
      let y = b.searching c h in
      searching_unique (AnswerSet (program c)) (base_by ask.cycles (program c) c.atoms) ask.limit old new new' r r' x.0 y.0 x.1 y.1

  pub solving_unique : (new new' : List ℕ) (r r' : Result Solved Refusal) → Solving t ask old new r → Solving t ask old new' r' → (r ≡ r') × (new ≡ new')
  solving_unique = unique_by (decided t (Plan (length old)))

-- ---- rounds and rules

-- what a refused table gives is no answer
refused_kind : (t : List ℤ) (ask : Ask) (old new : List ℕ) (r : Result Solved Refusal) → Solving t ask old new r → (n i : ℕ) → RefusedBy ask.cycles t (Plan (length old)) n i → kind_of r ≢ 0
refused_kind t ask old new r a n i h e =
    let k : kind_of r ≡ 3 = ap (λ (x : Report). x.kind) ((a.refused n i).1 h) in
    omega arith

module _ (t : List ℤ) (lim : ℕ) (old new : List ℕ) (r : Result Solved Refusal) (ws ws' : List Why) where
  -- where head cycles are taken there are none
  by_mode : (cycles : Bool) → Solving t (record { cycles = cycles; limit = lim }) old new r → ExplainingBy cycles t (Plan (length old)) new r ws → ExplainingBy cycles t (Plan (length old)) new r ws' → ws ≡ ws'
  by_mode true s a b = recorded_one ws ws' no_whys a b
  by_mode false s a b = at (decided t (Plan (length old))) (eq_case (kind_of r) 0)
    where
      at : DecidedBy false t (Plan (length old)) → (kind_of r ≡ 0) ⊎ (kind_of r ≢ 0) → ws ≡ ws'
      at d (inr n) = recorded_one ws ws' no_whys (a.others n) (b.others n)
      at (inl (f, h)) (inl e) = absurd (refused_kind t (record { cycles = false; limit = lim }) old new r s (number_of f) (place_of f) h e)
      at (inr (c, h)) (inl e) = recorded_one ws ws' _ (a.answers c h e).defined (b.answers c h e).defined

module _ (t : List ℤ) (ask : Ask) (old new : List ℕ) (r : Result Solved Refusal) (s : Solving t ask old new r) (ws ws' : List Why) (a : ExplainingBy ask.cycles t (Plan (length old)) new r ws)
    (b : ExplainingBy ask.cycles t (Plan (length old)) new r ws') where
  pub explaining_unique : ws ≡ ws'
  explaining_unique = by_mode t ask.limit old new r ws ws' ask.cycles s a b

-- two whole results
module _ (t : List ℤ) (ask : Ask) (old : List ℕ) where
  -- what is promised of a result
  abbrev pub Promised : List ℕ → Solution → Type 0
  Promised new r = Solving t ask old new r.solved × ExplainingBy ask.cycles t (Plan (length old)) new r.solved r.whys

  pub solution_unique : (new new' : List ℕ) (r r' : Solution) → Promised new r → Promised new' r' → (r ≡ r') × (new ≡ new')
  solution_unique new new' r r' a b =
      let u = solving_unique t ask old new new' r.solved r'.solved a.0 b.0 in
      let c = subst (λ (p : List ℕ). ExplainingBy ask.cycles t (Plan (length old)) p r.solved r'.whys) (sym u.1) (subst (λ (x : Result Solved Refusal). ExplainingBy ask.cycles t (Plan (length old)) new' x r'.whys) (sym u.0) b.1) in
      let w = explaining_unique t ask old new r.solved a.0 r.whys r'.whys a.1 c in
      (λ i. record { solved = u.0 i; whys = w i }, u.1)

  -- what the lent lists and candidates held before and hold after is in no promise: so two calls over any contents give the same
  pub lent_unique : (lists candidates lists' candidates' : List ℕ) (new new' : List ℕ) (r r' : Solution) → Promised new r → Promised new' r' → (r ≡ r') × (new ≡ new')
  lent_unique lists candidates lists' candidates' = solution_unique

-- ---- of the check

module _ (t : List ℤ) (plan : List ℕ) where
  pub approving_unique : {cycles : Bool} (r r' : Result Bool Refusal) → ApprovingBy cycles t plan r → ApprovingBy cycles t plan r' → r ≡ r'
  approving_unique {cycles} r r' a b = by_table (decided t (Plan (length plan)))
    where
      refused : (n i : ℕ) → CheckRefusedBy cycles t plan n i → r ≡ r'
      refused n i h = check_determines r r' ((a.refused n i).1 h ∙ sym ((b.refused n i).1 h))

      by_plan : (c : Contents) → AcceptedBy cycles t (Plan (length plan)) c → Bits c.atoms plan → (m f : Bool) → model (program c) (plan_atoms c.atoms plan) ≡ m → passes_by cycles (program c) c.atoms (plan_atoms c.atoms plan) ≡ f → r ≡ r'
      by_plan c h k true true m f =
          let x = tested_answer c.atoms (program c) (accepted_atoms t c h.holds) h.no_aggregate (plan_atoms c.atoms plan) (plan_range c.atoms plan) cycles h.no_head m f in
          (a.yes c h k).1 x ∙ sym ((b.yes c h k).1 x)
      by_plan c h k true false m f =
          let x : AnswerSet (program c) (plan_atoms c.atoms plan) → ⊥ = λ y. clash (answer_tested c.atoms (program c) (accepted_atoms t c h.holds) h.no_aggregate (plan_atoms c.atoms plan) (plan_range c.atoms plan) cycles h.no_head y).1 f in
          (a.no c h k).1 x ∙ sym ((b.no c h k).1 x)
      by_plan c h k false f m g =
          let x : AnswerSet (program c) (plan_atoms c.atoms plan) → ⊥ = λ y. clash y.is_model m in
          (a.no c h k).1 x ∙ sym ((b.no c h k).1 x)

      by_bytes : (c : Contents) → AcceptedBy cycles t (Plan (length plan)) c → ((i : ℕ) × BadByte c.atoms plan i) ⊎ Bits c.atoms plan → r ≡ r'
      by_bytes c h (inl (i, k)) = refused 11 i (byte c h k refl)
      by_bytes c h (inr k) = by_plan c h k (model (program c) (plan_atoms c.atoms plan)) (passes_by cycles (program c) c.atoms (plan_atoms c.atoms plan)) refl refl

      by_table : DecidedBy cycles t (Plan (length plan)) → r ≡ r'
      by_table (inl (f, h)) = refused (number_of f) (place_of f) (before h)
      by_table (inr (c, h)) = by_bytes c h (bad_or_good plan c.atoms)
