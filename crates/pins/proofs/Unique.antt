-- Each promise has one answer only: two results, and two later memories or buffers, that meet it for the same input are equal. Assumes nothing.
--   opening_unique    of `open`;  changing_unique: of `pin` and `unpin`;  plans_unique: of `plan`
use mathlib.Core.Path.{◌≡◌, sym, ◌∙◌, ap, subst}
use mathlib.Core.Logic.{◌≢◌, ◌⊎◌, inl, inr}
use mathlib.Core.Bool.{Bool, true, false}
use mathlib.Core.List.{List}
use Rattle.std.specs.Prelude.{⊤, Result}
use Prim.Native.Nat.{ℕ}
use native.Mathlib.Omega.{arith}
use lib.IntN.{ℤ}
use lib.ListN.{length}
use Rattle.meaning.proofs.Cond.{eq_case}
use Rattle.results.specs.declared.Solved.{Solved}
use Rattle.results.specs.declared.Refusal.{Refusal}
use Rattle.results.specs.Results.{number_of, place_of, kind_of, Report}
use Rattle.results.proofs.Determined.{report_determines, pinned_determines}
use Rattle.rounds.specs.declared.Why.{Why}
use Rattle.rounds.specs.Rounds.{no_whys}
use Rattle.rounds.proofs.Records.{recorded_one}
use Rattle.smaller.specs.Cyclic.{problem_by}
use Rattle.promises.proofs.Unique.{searching_unique}
use Rattle.table.specs.Contents.{program}
use Rattle.judging.specs.declared.Buffer.TheVariants as lent
use Rattle.judging.proofs.Judged.{DecidedBy, decided}
use Rattle.solver.specs.Explaining.{ExplainingBy}
use Rattle.solver.specs.declared.Solution.{Solution}
use Rattle.sessions.specs.Sessions.{Pins, Call, pins_of, Agrees}
use Rattle.pins.specs.Memory.{table_in, pins_in, taken_of, cycles_in}
use Rattle.pins.specs.Session.{Opening, Changing, Planning, PlansOn, Plans}

-- ---- the calls that change a session

module _ (cycles : Bool) (t old new new' : List ℤ) (r r' : Result ⊤ Refusal) (a : Opening cycles t old new r) (b : Opening cycles t old new' r') where
  pub opening_unique : (r ≡ r') × (new ≡ new')
  opening_unique = at (decided t lent.Nothing)
    where
      at : DecidedBy cycles t lent.Nothing → (r ≡ r') × (new ≡ new')
      at (inl (f, h)) =
          let e = (a.refused (number_of f) (place_of f)).1 h in
          let i = (b.refused (number_of f) (place_of f)).1 h in
          (pinned_determines r r' (e ∙ sym i), a.untouched (number_of f) (place_of f) e ∙ sym (b.untouched (number_of f) (place_of f) i))
      at (inr (c, h)) = ((a.opened c h).done ∙ sym (b.opened c h).done, (a.opened c h).words ∙ sym (b.opened c h).words)

pub changing_unique : (call : Call) (old new new' : List ℤ) (r r' : Result ⊤ Refusal) → Changing call old new r → Changing call old new' r' → (r ≡ r') × (new ≡ new')
changing_unique call old new new' r r' a b = (pinned_determines r r' (a.told ∙ sym b.told), a.words ∙ sym b.words)

-- ---- a plan

-- the rounds and rules, by the mode
whys_unique : (cycles : Bool) (t : List ℤ) (pins : Pins) (lim : ℕ) (old new : List ℕ) (r : Result Solved Refusal) → Planning cycles t pins lim old new r → (ws ws' : List Why)
    → ExplainingBy cycles t (lent.Plan (length old)) new r ws → ExplainingBy cycles t (lent.Plan (length old)) new r ws' → ws ≡ ws'
whys_unique true t pins lim old new r s ws ws' a b = recorded_one ws ws' no_whys a b
whys_unique false t pins lim old new r s ws ws' a b = at (decided t (lent.Plan (length old))) (eq_case (kind_of r) 0)
  where
    at : DecidedBy false t (lent.Plan (length old)) → (kind_of r ≡ 0) ⊎ (kind_of r ≢ 0) → ws ≡ ws'
    at d (inr n) = recorded_one ws ws' no_whys (a.others n) (b.others n)
    at (inl (f, h)) (inl e) = absurd (let k = ap (λ (x : Report). x.kind) ((s.refused (number_of f) (place_of f)).1 h) in omega arith)
    at (inr (c, h)) (inl e) = recorded_one ws ws' _ (a.answers c h e).defined (b.answers c h e).defined

module _ (cycles : Bool) (t : List ℤ) (pins : Pins) (lim : ℕ) (old : List ℕ) where
  pub planning_unique : (new new' : List ℕ) (r r' : Result Solved Refusal) → Planning cycles t pins lim old new r → Planning cycles t pins lim old new' r' → (r ≡ r') × (new ≡ new')
  planning_unique new new' r r' a b = at (decided t (lent.Plan (length old)))
    where
      at : DecidedBy cycles t (lent.Plan (length old)) → (r ≡ r') × (new ≡ new')
      at (inl (f, h)) =
          let e = (a.refused (number_of f) (place_of f)).1 h in
          let i = (b.refused (number_of f) (place_of f)).1 h in
          (report_determines r r' (e ∙ sym i), a.untouched (number_of f) (place_of f) e ∙ sym (b.untouched (number_of f) (place_of f) i))
      at (inr (c, h)) =
          let x = a.searching c h in
          let y = b.searching c h in
          searching_unique (Agrees (program c) (taken_of c.atoms pins)) (problem_by cycles (program c) c.atoms (pins_of (taken_of c.atoms pins))) lim old new new' r r' x.0 y.0 x.1 y.1

  -- the result with its rounds and rules
  pub solution_unique : (new new' : List ℕ) (r r' : Solution) → PlansOn cycles t pins lim old new r → PlansOn cycles t pins lim old new' r' → (r ≡ r') × (new ≡ new')
  solution_unique new new' r r' a b =
      let u = planning_unique new new' r.solved r'.solved a.0 b.0 in
      let c = subst (λ (p : List ℕ). ExplainingBy cycles t (lent.Plan (length old)) p r.solved r'.whys) (sym u.1) (subst (λ (x : Result Solved Refusal). ExplainingBy cycles t (lent.Plan (length old)) new' x r'.whys) (sym u.0) b.1) in
      let w = whys_unique cycles t pins lim old new r.solved a.0 r.whys r'.whys a.1 c in
      (λ i. record { solved = u.0 i; whys = w i }, u.1)

pub plans_unique : (s : List ℤ) (lim : ℕ) (old new new' : List ℕ) (r r' : Solution) → Plans s lim old new r → Plans s lim old new' r' → (r ≡ r') × (new ≡ new')
plans_unique s lim old new new' r r' a b = solution_unique (cycles_in s) (table_in s) (pins_in s) lim old new new' r r' a b
