-- The promises of `saucepebbly_store` and `saucepebbly_restore` have one answer only each. Assumes nothing.
use mathlib.Core.Path.{◌≡◌, sym, ◌∙◌, ap}
use mathlib.Core.List.{List}
use Rattle.std.specs.Prelude.{Result}
use Prim.Native.Nat.{ℕ}
use lib.IntN.{ℤ}
use Rattle.results.specs.declared.Refusal.{Refusal}
use Rattle.stored.proofs.Unique.{stores_unique, restores_unique}
use Rattle.reports.specs.Report.{reported}
use Rattle.desk.specs.Reading.{read_kind, read_first, read_second}
use Rattle.desk.specs.Storing.{StoresTable, RestoresTable}

pub store_unique_in_c : (words : List ℤ) (old new new' report told told' : List ℕ) (k k' : ℕ) → StoresTable words old new report told k → StoresTable words old new' report told' k'
    → (k ≡ k') × (new ≡ new') × (told ≡ told')
store_unique_in_c words old new new' report told told' k k' a b =
    let u = stores_unique words old new new' a.result b.result a.stores b.stores in (
      a.kind ∙ ap read_kind u.0 ∙ sym b.kind,
      u.1,
      a.report ∙ ap (λ (r : Result ℕ Refusal). reported (read_first r) (read_second r) report) u.0 ∙ sym b.report,
    )

pub restore_unique_in_c : (bytes : List ℕ) (old new new' : List ℤ) (report told told' : List ℕ) (k k' : ℕ) → RestoresTable bytes old new report told k → RestoresTable bytes old new' report told' k'
    → (k ≡ k') × (new ≡ new') × (told ≡ told')
restore_unique_in_c bytes old new new' report told told' k k' a b =
    let u = restores_unique bytes old new new' a.result b.result a.restores b.restores in (
      a.kind ∙ ap read_kind u.0 ∙ sym b.kind,
      u.1,
      a.report ∙ ap (λ (r : Result ℕ Refusal). reported (read_first r) (read_second r) report) u.0 ∙ sym b.report,
    )
