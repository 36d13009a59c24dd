-- The promises of the entries of a session have one answer only each. Assumes nothing.
use mathlib.Core.Path.{◌≡◌, sym, ◌∙◌, ap}
use mathlib.Core.List.{List}
use Rattle.std.specs.Prelude.{Result, ⊤}
use Prim.Native.Nat.{ℕ}
use lib.IntN.{ℤ}
use Rattle.results.specs.Results.{kind_of, pinned_kind}
use Rattle.results.specs.declared.Refusal.{Refusal}
use Rattle.solver.specs.declared.Solution.{Solution}
use Rattle.sessions.specs.Sessions.{Call}
use Rattle.pins.proofs.Unique.{opening_unique, changing_unique, plans_unique}
use Rattle.reports.specs.Report.{mode_of, first_of, second_of, third_of, reported, with_third}
use Rattle.reports.specs.Whys.{whys_written}
use Rattle.desk.specs.Session.{changed_first, changed_second, Opens, Changes, PlansInC}

pub opens_unique : (t : List ℤ) (mode : ℕ) (old new new' : List ℤ) (report told told' : List ℕ) (k k' : ℕ) → Opens t mode old new report told k → Opens t mode old new' report told' k' → (k ≡ k') × (new ≡ new') × (told ≡ told')
opens_unique t mode old new new' report told told' k k' a b =
    let u = opening_unique (mode_of mode) t old new new' a.result b.result a.opening b.opening in (
      a.kind ∙ ap pinned_kind u.0 ∙ sym b.kind,
      u.1,
      a.report ∙ ap (λ (r : Result ⊤ Refusal). reported (changed_first r) (changed_second r) report) u.0 ∙ sym b.report,
    )

pub changes_unique : (call : Call) (old new new' : List ℤ) (report told told' : List ℕ) (k k' : ℕ) → Changes call old new report told k → Changes call old new' report told' k'
    → (k ≡ k') × (new ≡ new') × (told ≡ told')
changes_unique call old new new' report told told' k k' a b =
    let u = changing_unique call old new new' a.result b.result a.changing b.changing in (
      a.kind ∙ ap pinned_kind u.0 ∙ sym b.kind,
      u.1,
      a.report ∙ ap (λ (r : Result ⊤ Refusal). reported (changed_first r) (changed_second r) report) u.0 ∙ sym b.report,
    )

pub plans_unique_in_c : (s : List ℤ) (lim : ℕ) (old report whys new new' told told' shown shown' : List ℕ) (k k' : ℕ) → PlansInC s lim old new report told whys shown k → PlansInC s lim old new' report told' whys shown' k'
    → (k ≡ k') × (new ≡ new') × (told ≡ told') × (shown ≡ shown')
plans_unique_in_c s lim old report whys new new' told told' shown shown' k k' a b =
    let u = plans_unique s lim old new new' a.result b.result a.plans b.plans in (
      a.kind ∙ ap (λ (r : Solution). kind_of r.solved) u.0 ∙ sym b.kind,
      u.1,
      a.report ∙ ap (λ (r : Solution). with_third (third_of r.solved) (reported (first_of r.solved) (second_of r.solved) report)) u.0 ∙ sym b.report,
      a.whys ∙ ap (λ (r : Solution). whys_written r.whys whys) u.0 ∙ sym b.whys,
    )
