-- The promise of `saucepebbly_read_aspif` has one answer only. Assumes nothing.
use mathlib.Core.Path.{◌≡◌, sym, ◌∙◌, ap}
use mathlib.Core.List.{List}
use Rattle.std.specs.Prelude.{Result}
use Prim.Native.Nat.{ℕ}
use lib.IntN.{ℤ}
use Rattle.results.specs.declared.Refusal.{Refusal}
use Rattle.aspif_read.proofs.Contract.{reads_unique}
use Rattle.reports.specs.Report.{reported}
use Rattle.desk.specs.Reading.{read_kind, read_first, read_second, ReadsAspif}

pub read_unique_in_c : (text : List ℕ) (old new new' : List ℤ) (report told told' : List ℕ) (k k' : ℕ) → ReadsAspif text old new report told k → ReadsAspif text old new' report told' k'
    → (k ≡ k') × (new ≡ new') × (told ≡ told')
read_unique_in_c text old new new' report told told' k k' a b =
    let u = reads_unique text old a.result b.result new new' a.reads b.reads in (
      a.kind ∙ ap read_kind u.0 ∙ sym b.kind,
      u.1,
      a.report ∙ ap (λ (r : Result ℕ Refusal). reported (read_first r) (read_second r) report) u.0 ∙ sym b.report,
    )
