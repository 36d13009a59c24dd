-- Each entry's promise has one answer only: the kind, the report, the later plan and the rounds and rules. Assumes nothing.
use mathlib.Core.Path.{◌≡◌, sym, ◌∙◌, ap}
use mathlib.Core.List.{List}
use Rattle.std.specs.Prelude.{Bool, Result}
use Prim.Native.Nat.{ℕ}
use lib.IntN.{ℤ}
use Rattle.results.specs.Results.{kind_of, check_kind}
use Rattle.results.specs.declared.Refusal.{Refusal}
use Rattle.solver.specs.declared.Solution.{Solution}
use Rattle.solver.proofs.Unique.{solution_unique, approving_unique}
use Rattle.reports.specs.Whys.{whys_written}
use Rattle.reports.specs.Report.{ask_of, first_of, second_of, third_of, reported, with_third}
use Rattle.dock.specs.Dock.{check_report, Solves, Approves}

module _ (t : List ℤ) (mode lim : ℕ) (old report whys : List ℕ) where
  pub solves_unique : (new new' told told' shown shown' : List ℕ) (k k' : ℕ) → Solves t mode lim old new report told whys shown k → Solves t mode lim old new' report told' whys shown' k'
      → (k ≡ k') × (new ≡ new') × (told ≡ told') × (shown ≡ shown')
  solves_unique new new' told told' shown shown' k k' a b =
      let u = solution_unique t (ask_of mode lim) old new new' (record { solved = a.result; whys = a.records }) (record { solved = b.result; whys = b.records }) (a.solving, a.explaining) (b.solving, b.explaining) in (
        a.kind ∙ ap (λ (r : Solution). kind_of r.solved) u.0 ∙ sym b.kind,
        u.1,
        a.report ∙ ap (λ (r : Solution). with_third (third_of r.solved) (reported (first_of r.solved) (second_of r.solved) report)) u.0 ∙ sym b.report,
        a.whys ∙ ap (λ (r : Solution). whys_written r.whys whys) u.0 ∙ sym b.whys,
      )

pub approves_unique : (t : List ℤ) (mode : ℕ) (plan report told told' : List ℕ) (k k' : ℕ) → Approves t mode plan report told k → Approves t mode plan report told' k' → (k ≡ k') × (told ≡ told')
approves_unique t mode plan report told told' k k' a b =
    let u = approving_unique t plan a.result b.result a.approving b.approving in
    (a.kind ∙ ap check_kind u ∙ sym b.kind, a.report ∙ ap (λ (r : Result Bool Refusal). check_report r report) u ∙ sym b.report)
