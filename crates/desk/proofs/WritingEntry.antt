-- The promise of `saucepebbly_write_aspif` has one answer only. Assumes nothing.
use mathlib.Core.Path.{◌≡◌, sym, ◌∙◌, ap}
use mathlib.Core.List.{List}
use Rattle.std.specs.Prelude.{Result}
use Prim.Native.Nat.{ℕ}
use lib.IntN.{ℤ}
use Rattle.results.specs.declared.Refusal.{Refusal}
use Rattle.aspif_write.proofs.Unique.{writes_unique}
use Rattle.reports.specs.Report.{reported}
use Rattle.desk.specs.Reading.{read_kind, read_first, read_second}
use Rattle.desk.specs.Writing.{WritesAspif}

pub write_unique_in_c : (words : List ℤ) (old new new' report told told' : List ℕ) (k k' : ℕ) → WritesAspif words old new report told k → WritesAspif words old new' report told' k'
    → (k ≡ k') × (new ≡ new') × (told ≡ told')
write_unique_in_c words old new new' report told told' k k' a b =
    let u = writes_unique words old new new' a.result b.result a.writes b.writes in (
      a.kind ∙ ap read_kind u.0 ∙ sym b.kind,
      u.1,
      a.report ∙ ap (λ (r : Result ℕ Refusal). reported (read_first r) (read_second r) report) u.0 ∙ sym b.report,
    )
