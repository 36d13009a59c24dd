-- The promise on rounds and rules: for a refused table, and for an accepted one by its result. The plan as it is written says the answer set, so what explains the
-- plan explains the answer. The answer may be the first of some answer sets only, as of those that agree with pins. Assumes nothing.
use mathlib.Core.Path.{◌≡◌, refl, sym, ◌∙◌, ap, subst, fun_ext}
use mathlib.Core.Logic.{◌⊎◌, inl, inr}
use mathlib.Core.Bool.{Bool, true, false}
use mathlib.Core.List.{List, [], ◌++◌}
use Rattle.std.specs.Prelude.{Ok, Err}
use Prim.Native.Nat.{ℕ, zero, suc, ◌+◌, ◌≤◌, ◌<◌}
use native.Mathlib.Omega.{arith}
use native.Mathlib.Numerals.{add-one}
use lib.Dec.{eqb}
use lib.IntN.{ℤ}
use lib.ListN.{length, get_or, drop}
use Rattle.meaning.specs.Lists.{Is}
use Rattle.meaning.specs.Aggregates.{Atoms}
use Rattle.meaning.specs.Program.{In, AtomsIn, Program}
use Rattle.meaning.specs.Answers.{AnswerSet}
use Rattle.meaning.proofs.Tools.{clash, contra}
use Rattle.meaning.proofs.Cond.{if_lt_yes, if_lt_no, lt_case}
use Rattle.interpretation.specs.State.{defined, true_atoms, AllDefined}
use Rattle.interpretation.specs.View.{view, cells, cell_by, blank, valued}
use Rattle.interpretation.specs.declared.Record.{Record}
use Rattle.interpretation.proofs.Laws.{cells_suc}
use Rattle.interpretation.proofs.Cells.{not_defined}
use Rattle.outcome.specs.declared.Ending.{Ending}
use Rattle.outcome.specs.declared.Ending.TheVariants as ending
use Rattle.outcome.specs.declared.Found.{Found}
use Rattle.jumping.specs.Jumping.{result_of}
use Rattle.results.specs.declared.Refusal.{Refusal}
use Rattle.results.specs.declared.Counts.{Counts}
use Rattle.results.specs.declared.Solved.{Solved}
use Rattle.results.specs.declared.Solved.TheVariants as solved
use Rattle.rounds.specs.declared.Why.{Why}
use Rattle.rounds.specs.Rounds.{no_whys, why_of, Recorded, Explained}
use Rattle.rounds.proofs.Records.{answer_recorded}
use Rattle.search.proofs.Joined.{answer_range}
use Rattle.search.proofs.Parts.{true_range}
use Rattle.table.specs.Contents.{Contents, program}
use Rattle.judging.specs.declared.Buffer.{Buffer}
use Rattle.judging.specs.declared.Buffer.TheVariants.{Plan}
use Rattle.judging.specs.Refusals.{AcceptedBy, Accepted}
use Rattle.judging.proofs.Refusals.{accepted_unique}
use Rattle.promises.specs.Plans.{bit_of, bytes_from, plan_with, plan_atoms}
use Rattle.promises.specs.Promises.{plan_after, solved_by, Meaning}
use Rattle.solver.specs.Explaining.{Explaining, ExplainingBy}
use Rattle.solver.specs.Plans.{report_of, buffer_of, is_answer, whys_for, whys_by}

-- ---- the atoms of the plan that was written

bit_back : (b : Bool) → eqb (bit_of b) 1 ≡ b
bit_back true = refl
bit_back false = refl

bytes_at : (X : Atoms) (p n i : ℕ) (rest : List ℕ) → i < n → get_or (bytes_from X p n ++ rest) i 0 ≡ bit_of (X (i + p))
bytes_at X p zero i rest h = absurd (omega arith)
bytes_at X p (suc n) zero rest h = let e : p ≡ 0 + p = omega arith in ap (λ (q : ℕ). bit_of (X q)) e
bytes_at X p (suc n) (suc i) rest h =
    let e : i + suc p ≡ suc i + p = omega arith in
    bytes_at X (suc p) n i rest (omega arith) ∙ ap (λ (q : ℕ). bit_of (X q)) e

pub plan_atoms_lem : (n : ℕ) (X : Atoms) (old : List ℕ) → ((p : ℕ) → Is (X p) → In n p) → plan_atoms n (plan_with n X old) ≡ X
plan_atoms_lem n X old range = fun_ext at
  where
    pick : (i : ℕ) → (i < n) ⊎ (n ≤ i) → plan_atoms n (plan_with n X old) (suc i) ≡ X (suc i)
    pick i (inl l) =
        if_lt_yes i n (eqb (get_or (plan_with n X old) i 0) 1) false l
        ∙ ap (λ (v : ℕ). eqb v 1) (bytes_at X 1 n i (drop n old) l)
        ∙ bit_back (X (i + 1))
        ∙ ap X (add-one i)
    pick i (inr l) =
        if_lt_no i n (eqb (get_or (plan_with n X old) i 0) 1) false l
        ∙ sym (contra (X (suc i)) {b = false} (λ h. let r = range (suc i) h in absurd (omega (arith, r.1))) refl)

    at : (p : ℕ) → plan_atoms n (plan_with n X old) p ≡ X p
    at zero = sym (contra (X 0) {b = false} (λ h. let r = range 0 h in absurd (omega (arith, r.0))) refl)
    at (suc i) = pick i (lt_case i n)

-- ---- the answer, as the search's interpretation has it

-- an atom that is defined is so by the values alone
pub whole_alone : (n : ℕ) (vs : List ℕ) (rs : List Record) → AllDefined n (cells vs rs) → AllDefined n (valued vs)
whole_alone n vs rs d zero h k = absurd (omega arith)
whole_alone n vs rs d (suc i) h k =
    let x = d (suc i) h k in
    let y = at (get_or vs i 0) x.0 x.1 (sym (cells_suc vs rs i) ∙ x.2) in
    (y.0, 0, cells_suc vs [] i ∙ y.1)
  where
    at : (v : ℕ) (b : Bool) (l : ℕ) → cell_by v (get_or rs i blank).level ≡ defined b l → (c : Bool) × (cell_by v (get_or {A = Record} [] i blank).level ≡ defined c 0)
    at zero b l e = absurd (not_defined refl e)
    at (suc zero) b l e = (true, refl)
    at (suc (suc v)) b l e = (false, refl)

ending_of : (e : Ending) (X : Atoms) (k : Counts) → is_answer (solved_by (result_of e X) k) ≡ true → e ≡ ending.Answer
ending_of ending.Answer X k h = refl
ending_of ending.Nothing X k h = absurd (clash {b = false} h refl)
ending_of ending.Limit X k h = absurd (clash {b = false} h refl)

-- what is reported as an answer was found as one
pub answer_ended : (n : ℕ) (r : Found) (q : Solved) → q ≡ report_of n r → is_answer q ≡ true → r.ending ≡ ending.Answer
answer_ended n r q e h = ending_of r.ending (true_atoms n (view r.it).cell) (record { choices = r.choices; skips = r.skips; passes = r.passes }) (ap is_answer (sym e) ∙ h)

-- what explains the answer explains the plan as it is written
whys_written_lem : (n : ℕ) (P : Program) (r : Found) (old new : List ℕ) (q : Solved) → q ≡ report_of n r → new ≡ buffer_of n r old
    → whys_for q (why_of P n (true_atoms n (view r.it).cell)) ≡ whys_for q (why_of P n (plan_atoms n new))
whys_written_lem n P r old new q e f =
    ap (λ (x : Solved). whys_for x (why_of P n X)) e ∙ at r.ending ∙ ap (λ (x : Solved). whys_for x (why_of P n (plan_atoms n (buffer_of n r old)))) (sym e)
    ∙ ap (λ (b : List ℕ). whys_for q (why_of P n (plan_atoms n b))) (sym f)
  where
    X : Atoms
    X = true_atoms n (view r.it).cell

    at : (x : Ending) → whys_for (solved_by (result_of x X) (record { choices = r.choices; skips = r.skips; passes = r.passes })) (why_of P n X)
        ≡ whys_for (solved_by (result_of x X) (record { choices = r.choices; skips = r.skips; passes = r.passes })) (why_of P n (plan_atoms n (plan_after n (result_of x X) old)))
    at ending.Answer = ap (why_of P n) (sym (plan_atoms_lem n X old (λ p h. true_range n (view r.it).cell p h)))
    at ending.Nothing = refl
    at ending.Limit = refl

-- ---- the promise

pub explaining_refused : (t : List ℤ) (b : Buffer) (plan : List ℕ) (f : Refusal) (ws : List Why) → Recorded ws no_whys → Explaining t b plan (Err f) ws
explaining_refused t b plan f ws r = record { answers = λ c a k. absurd (omega arith); others = λ n. r }

module _ (t : List ℤ) (lim : ℕ) (old new : List ℕ) (c : Contents) (a : Accepted t (Plan (length old)) c) (A : AtomsIn c.atoms (program c))
    (AS : Atoms → Type 0) (answers : (Y : Atoms) → AS Y → AnswerSet (program c) Y) (ws : List Why) where
  abbrev X : Atoms
  X = plan_atoms c.atoms new

  -- what the plan says is the answer set
  plan_answers : (k : Counts) → Meaning c.atoms AS lim old new (Ok (solved.Answer k)) → AnswerSet (program c) X
  plan_answers k m =
      let x = m.answers k refl in
      let n = c.atoms in
      subst (AnswerSet (program c)) (sym (ap (plan_atoms n) x.written ∙ plan_atoms_lem n x.atoms old (answer_range n (program c) A x.atoms (answers x.atoms x.is_answer)))) (answers x.atoms x.is_answer)

  pub explaining_accepted : (r : Solved) → Meaning c.atoms AS lim old new (Ok r) → Recorded ws (whys_for r (why_of (program c) c.atoms X)) → Explaining t (Plan (length old)) new (Ok r) ws
  explaining_accepted (solved.Answer k) m w = record {
    answers = λ d b e. subst (λ (x : Contents). Explained (program x) x.atoms (plan_atoms x.atoms new) ws) (accepted_unique t (Plan (length old)) c d a b)
        (answer_recorded c.atoms (program c) A a.no_head X (plan_answers k m) ws w);
    others = λ n. absurd (n refl);
  }
  explaining_accepted (solved.Nothing k) m w = record { answers = λ d b e. absurd (omega arith); others = λ n. w }
  explaining_accepted (solved.Limit k) m w = record { answers = λ d b e. absurd (omega arith); others = λ n. w }

-- ---- by the mode: where head cycles are taken there are no rounds

pub explains_refused : (cycles : Bool) (t : List ℤ) (b : Buffer) (plan : List ℕ) (f : Refusal) (ws : List Why) → Recorded ws no_whys → ExplainingBy cycles t b plan (Err f) ws
explains_refused false t b plan f ws r = explaining_refused t b plan f ws r
explains_refused true t b plan f ws r = r

pub explains_accepted : (cycles : Bool) (t : List ℤ) (lim : ℕ) (old new : List ℕ) (c : Contents) → AcceptedBy cycles t (Plan (length old)) c → AtomsIn c.atoms (program c)
    → (AS : Atoms → Type 0) → ((Y : Atoms) → AS Y → AnswerSet (program c) Y) → (ws : List Why) (r : Solved) → Meaning c.atoms AS lim old new (Ok r)
    → Recorded ws (whys_by cycles r (why_of (program c) c.atoms (plan_atoms c.atoms new))) → ExplainingBy cycles t (Plan (length old)) new (Ok r) ws
explains_accepted false t lim old new c a A AS answers ws r m w = explaining_accepted t lim old new c a A AS answers ws r m w
explains_accepted true t lim old new c a A AS answers ws r m w = w

-- what explains the answer explains the plan as it is written, by the mode
pub whys_written_by : (cycles : Bool) (n : ℕ) (P : Program) (r : Found) (old new : List ℕ) (q : Solved) → q ≡ report_of n r → new ≡ buffer_of n r old
    → whys_by cycles q (why_of P n (true_atoms n (view r.it).cell)) ≡ whys_by cycles q (why_of P n (plan_atoms n new))
whys_written_by false n P r old new q e f = whys_written_lem n P r old new q e f
whys_written_by true n P r old new q e f = refl
