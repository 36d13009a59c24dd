-- The promise of `approve`, in either mode: for a refused table, and for an accepted one by the offered bytes, the model test and the test of the mode. Assumes nothing.
use mathlib.Core.Path.{◌≡◌, refl, sym, ◌∙◌, ap, subst}
use mathlib.Core.Logic.{◌⊎◌, inl, inr, ◌↔◌}
use mathlib.Core.Bool.{Bool, true, false, not}
use mathlib.Core.List.{List}
use Rattle.std.specs.Prelude.{Option, Some, None, Result, Ok, Err}
use Prim.Native.Nat.{ℕ, zero, suc, ◌≤◌, ◌<◌}
use native.Mathlib.Omega.{arith}
use lib.Dec.{eqb}
use lib.IntN.{ℤ}
use lib.ListN.{length, get_or}
use Rattle.meaning.specs.Lists.{Is}
use Rattle.meaning.specs.Program.{Program, In, AtomsIn, Below}
use Rattle.meaning.specs.Aggregates.{Atoms}
use Rattle.meaning.specs.Answers.{model, AnswerSet}
use Rattle.meaning.specs.Dependency.{AggregateCycle, Free}
use Rattle.meaning.proofs.Tools.{clash, and_i, and_r}
use Rattle.meaning.proofs.Cond.{lt_case, if_lt_no}
use Rattle.meaning.proofs.Theorem.{founded↔answer}
use Rattle.meaning.proofs.Tested.{founded_test_lem}
use Rattle.smaller.specs.Cyclic.{has_smaller, checks}
use Rattle.smaller.proofs.Check.{checked}
use Rattle.results.specs.declared.Refusal.{Refusal}
use Rattle.results.specs.declared.Refusal.TheVariants as refusal
use Rattle.results.specs.Results.{number_of, place_of, CheckReport, check_report_of, refusal_check}
use Rattle.results.proofs.Determined.{check_refusal}
use Rattle.table.specs.Contents.{Contents, program}
use Rattle.judging.specs.declared.Buffer.{Buffer}
use Rattle.judging.specs.declared.Buffer.TheVariants.{Plan}
use Rattle.depend.specs.Cycles.{HeadCycleBy}
use Rattle.judging.specs.Refusals.{AcceptedBy}
use Rattle.judging.proofs.Refusals.{accepted_unique, refused_not_accepted, refused_unique}
use Rattle.promises.specs.Plans.{plan_atoms}
use Rattle.solver.specs.Approving.{CheckRefusedBy, before, byte, Bits, BadByte, ApprovingBy}
use Rattle.solver.specs.Plans.{bad_from, passes_by, checked_by}
use Rattle.solver.proofs.Offered.{bad_byte, good_bits}

-- ---- a plan's atoms are atoms of 1 to n

pub plan_range : (n : ℕ) (plan : List ℕ) (p : ℕ) → Is (plan_atoms n plan p) → In n p
plan_range n plan zero h = absurd (clash h refl)
plan_range n plan (suc i) h = at (lt_case i n)
  where
    at : (i < n) ⊎ (n ≤ i) → In n (suc i)
    at (inl l) = (omega arith, l)
    at (inr l) = absurd (clash h (if_lt_no i n (eqb (get_or plan i 0) 1) false l))

-- ---- model and passed: an answer set

module _ (n : ℕ) (P : Program) (A : AtomsIn n P) (no_aggregate : Free AggregateCycle P) (X : Atoms) (range : (p : ℕ) → Is (X p) → In n p) where
  below : Below (suc n) P
  below r m p h = let i = (A r m).heads p h in omega (arith, i.1)

  pub tested_answer : (cycles : Bool) → Free (HeadCycleBy cycles) P → Is (model P X) → Is (passes_by cycles P n X) → AnswerSet P X
  unfolding checks
  tested_answer false no_head m f = (founded↔answer (suc n) P below no_head no_aggregate X m).0 ((founded_test_lem P n X A range).0 f)
  tested_answer true no_head m f = (checked n P A X range).0 (and_i m f)

  pub answer_tested : (cycles : Bool) → Free (HeadCycleBy cycles) P → AnswerSet P X → Is (model P X) × Is (passes_by cycles P n X)
  unfolding checks
  answer_tested false no_head a = (a.is_model, (founded_test_lem P n X A range).1 ((founded↔answer (suc n) P below no_head no_aggregate X a.is_model).1 a))
  answer_tested true no_head a = (a.is_model, and_r (model P X) (not (has_smaller P n X)) ((checked n P A X range).1 a))

-- ---- refusals of the check

bad_unique : (n : ℕ) (plan : List ℕ) (i j : ℕ) → BadByte n plan i → BadByte n plan j → i ≡ j
bad_unique n plan i j a b = at (lt_case i j) (lt_case j i)
  where
    at : (i < j) ⊎ (j ≤ i) → (j < i) ⊎ (i ≤ j) → i ≡ j
    at (inl h) y = absurd (a.bad (b.before i h))
    at (inr h) (inl l) = absurd (b.bad (a.before j l))
    at (inr h) (inr l) = omega arith

module _ (cycles : Bool) (t : List ℤ) (plan : List ℕ) where
  abbrev room : Buffer
  room = Plan (length plan)

  pub check_unique : (n i m j : ℕ) → CheckRefusedBy cycles t plan n i → CheckRefusedBy cycles t plan m j → (n ≡ m) × (i ≡ j)
  check_unique n i m j (before a) (before b) = refused_unique t room n i m j a b
  check_unique n i m j (before a) (byte c b h e) = absurd (refused_not_accepted t room n i c a b)
  check_unique n i m j (byte c a h e) (before b) = absurd (refused_not_accepted t room m j c b a)
  check_unique n i m j (byte c a h e) (byte d b k w) =
      (e ∙ sym w, bad_unique c.atoms plan i j h (subst (λ (x : Contents). BadByte x.atoms plan j) (accepted_unique t room d c b a) k))

  -- an accepted table whose bytes are good is not refused
  pub good_not_refused : (c : Contents) → AcceptedBy cycles t room c → Bits c.atoms plan → (n i : ℕ) → CheckRefusedBy cycles t plan n i → ⊥
  good_not_refused c a b n i (before h) = refused_not_accepted t room n i c h a
  good_not_refused c a b n i (byte d e h w) = let k = subst (λ (x : Contents). BadByte x.atoms plan i) (accepted_unique t room d c e a) h in k.bad (b i k.inside)

  module _ (r : Result Bool Refusal) (f : Refusal) (h : CheckRefusedBy cycles t plan (number_of f) (place_of f)) (e : r ≡ Err f) where
    said : check_report_of r ≡ refusal_check (number_of f) (place_of f)
    said = ap check_report_of e

    row : (n i : ℕ) → check_report_of r ≡ refusal_check n i → CheckRefusedBy cycles t plan n i
    row n i k =
        let u : refusal_check (number_of f) (place_of f) ≡ refusal_check n i = sym said ∙ k in
        subst (λ (x : CheckReport). CheckRefusedBy cycles t plan x.number x.place) u h

    back : (n i : ℕ) → CheckRefusedBy cycles t plan n i → check_report_of r ≡ refusal_check n i
    back n i k =
        let u = check_unique (number_of f) (place_of f) n i h k in
        said ∙ ap (λ (m : ℕ). refusal_check m (place_of f)) u.0 ∙ ap (refusal_check n) u.1

    pub approving_refused : ApprovingBy cycles t plan r
    approving_refused = record {
      refused = λ n i. (row n i, back n i);
      yes = λ c a b. absurd (good_not_refused c a b (number_of f) (place_of f) h);
      no = λ c a b. absurd (good_not_refused c a b (number_of f) (place_of f) h);
    }

  module _ (c : Contents) (a : AcceptedBy cycles t room c) (A : AtomsIn c.atoms (program c)) where
    abbrev Answers : Type 0
    Answers = AnswerSet (program c) (plan_atoms c.atoms plan)

    -- yes exactly for an answer set, and no exactly else
    pub record Judges (r : Result Bool Refusal) : Type 0 where
      pub yes : (r ≡ Ok true) ↔ Answers
      pub no : (r ≡ Ok false) ↔ (Answers → ⊥)
      pub taken : (f : Refusal) → r ≡ Err f → ⊥

    tested : Is (model (program c) (plan_atoms c.atoms plan)) → Is (passes_by cycles (program c) c.atoms (plan_atoms c.atoms plan)) → Answers
    tested m f = tested_answer c.atoms (program c) A a.no_aggregate (plan_atoms c.atoms plan) (plan_range c.atoms plan) cycles a.no_head m f

    answers : Answers → Is (model (program c) (plan_atoms c.atoms plan)) × Is (passes_by cycles (program c) c.atoms (plan_atoms c.atoms plan))
    answers h = answer_tested c.atoms (program c) A a.no_aggregate (plan_atoms c.atoms plan) (plan_range c.atoms plan) cycles a.no_head h

    judges : (r : Result Bool Refusal) (m f : Bool) → model (program c) (plan_atoms c.atoms plan) ≡ m → passes_by cycles (program c) c.atoms (plan_atoms c.atoms plan) ≡ f
        → r ≡ checked_by None m f → Judges r
    judges r true true m f e = record {
      yes = (λ i. tested m f, λ h. e);
      no = (λ i. absurd (let z : ◌≡◌ {A = ℕ} 0 1 = cc in omega arith), λ h. absurd (h (tested m f)));
      taken = λ g i. (let z : ◌≡◌ {A = ℕ} 0 1 = cc in omega arith);
    }
    judges r true false m f e = record {
      yes = (λ i. absurd (let z : ◌≡◌ {A = ℕ} 0 1 = cc in omega arith), λ h. absurd (clash (answers h).1 f));
      no = (λ i h. clash (answers h).1 f, λ h. e);
      taken = λ g i. (let z : ◌≡◌ {A = ℕ} 0 1 = cc in omega arith);
    }
    judges r false f m g e = record {
      yes = (λ i. absurd (let z : ◌≡◌ {A = ℕ} 0 1 = cc in omega arith), λ h. absurd (clash (answers h).0 m));
      no = (λ i h. clash (answers h).0 m, λ h. e);
      taken = λ g i. (let z : ◌≡◌ {A = ℕ} 0 1 = cc in omega arith);
    }

    approves : (r : Result Bool Refusal) → Bits c.atoms plan → Judges r → ApprovingBy cycles t plan r
    approves r bits j = record {
      refused = λ n i. (λ h. let w = check_refusal r n i h in absurd (j.taken w.0 w.1), λ h. absurd (good_not_refused c a bits n i h));
      yes = λ d b k. subst (λ (x : Contents). (r ≡ Ok true) ↔ AnswerSet (program x) (plan_atoms x.atoms plan)) (accepted_unique t room c d a b) j.yes;
      no = λ d b k. subst (λ (x : Contents). (r ≡ Ok false) ↔ (AnswerSet (program x) (plan_atoms x.atoms plan) → ⊥)) (accepted_unique t room c d a b) j.no;
    }

    pub approving_accepted : (r : Result Bool Refusal)
        → r ≡ checked_by (bad_from plan 0 c.atoms) (model (program c) (plan_atoms c.atoms plan)) (passes_by cycles (program c) c.atoms (plan_atoms c.atoms plan)) → ApprovingBy cycles t plan r
    approving_accepted r e = at (bad_from plan 0 c.atoms) refl
      where
        by : (o : Option ℕ) → bad_from plan 0 c.atoms ≡ o → r ≡ checked_by o (model (program c) (plan_atoms c.atoms plan)) (passes_by cycles (program c) c.atoms (plan_atoms c.atoms plan))
        by o i = e ∙ ap (λ (x : Option ℕ). checked_by x (model (program c) (plan_atoms c.atoms plan)) (passes_by cycles (program c) c.atoms (plan_atoms c.atoms plan))) i

        at : (o : Option ℕ) → bad_from plan 0 c.atoms ≡ o → ApprovingBy cycles t plan r
        at (Some j) i = approving_refused r (refusal.PlanByte j) (byte c a (bad_byte plan c.atoms j i) refl) (by (Some j) i)
        at None i = approves r (good_bits plan c.atoms i) (judges r _ _ refl refl (by None i))
