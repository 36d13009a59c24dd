-- The promise of `saucepebbly_relax` has one answer only. Assumes nothing.
use mathlib.Core.Path.{◌≡◌, sym, ◌∙◌, ap}
use mathlib.Core.List.{List}
use Rattle.std.specs.Prelude.{Result}
use Prim.Native.Nat.{ℕ}
use lib.IntN.{ℤ}
use Rattle.results.specs.declared.Refusal.{Refusal}
use Rattle.results.specs.declared.Relaxed.{Relaxed}
use Rattle.relaxer.proofs.Unique.{relaxing_unique}
use Rattle.reports.specs.Report.{ask_of, reported}
use Rattle.desk.specs.Giving.{relax_kind, relax_first, relax_second, GivesUpInC}

pub relax_unique_in_c : (t : List ℤ) (mode lim : ℕ) (list plan report : List ℕ) (list' plan' told list'' plan'' told' : List ℕ) (k k' : ℕ)
    → GivesUpInC t mode lim list list' plan plan' report told k → GivesUpInC t mode lim list list'' plan plan'' report told' k' → (k ≡ k') × (list' ≡ list'') × (plan' ≡ plan'') × (told ≡ told')
relax_unique_in_c t mode lim list plan report list' plan' told list'' plan'' told' k k' a b =
    let u = relaxing_unique t (ask_of mode lim) list plan list' plan' a.result list'' plan'' b.result a.relaxing b.relaxing in (
      a.kind ∙ ap relax_kind u.0 ∙ sym b.kind,
      u.1,
      u.2,
      a.report ∙ ap (λ (r : Result Relaxed Refusal). reported (relax_first r) (relax_second r) report) u.0 ∙ sym b.report,
    )
