-- Four stores make the report of a listing, where there is room; and the promise of `saucepebbly_list` has one answer only. Assumes nothing.
use mathlib.Core.Path.{◌≡◌, refl, sym, ◌∙◌, ap}
use mathlib.Core.List.{List, [], ◌∷◌}
use Rattle.std.specs.Prelude.{Result}
use Prim.Native.Nat.{ℕ, ◌≤◌, ◌<◌}
use native.Mathlib.Omega.{arith}
use lib.IntN.{ℤ}
use lib.ListN.{length, get_or, set}
use Rattle.results.specs.Results.{list_kind}
use Rattle.results.specs.declared.Refusal.{Refusal}
use Rattle.results.specs.declared.Listed.{Listed}
use Rattle.lister.proofs.Unique.{lists_unique}
use Rattle.reports.specs.Report.{ask_of}
use Rattle.desk.specs.List.{numbers_of, four_written, ListsPlans}

pub four_short : (four l : List ℕ) → length l < 4 → l ≡ four_written four l
four_short four [] h = refl
four_short four (a ∷ []) h = refl
four_short four (a ∷ b ∷ []) h = refl
four_short four (a ∷ b ∷ c ∷ []) h = refl
four_short four (a ∷ b ∷ c ∷ d ∷ l) h = absurd (omega arith)

pub four_stored : (four l : List ℕ) → length four ≡ 4 → 4 ≤ length l → set (set (set (set l 0 (get_or four 0 0)) 1 (get_or four 1 0)) 2 (get_or four 2 0)) 3 (get_or four 3 0) ≡ four_written four l
four_stored (w ∷ x ∷ y ∷ z ∷ []) (a ∷ b ∷ c ∷ d ∷ l) e h = refl
four_stored [] l e h = absurd (omega arith)
four_stored (w ∷ []) l e h = absurd (omega arith)
four_stored (w ∷ x ∷ []) l e h = absurd (omega arith)
four_stored (w ∷ x ∷ y ∷ []) l e h = absurd (omega arith)
four_stored (w ∷ x ∷ y ∷ z ∷ v ∷ rest) l e h = absurd (omega arith)
four_stored (w ∷ x ∷ y ∷ z ∷ []) [] e h = absurd (omega arith)
four_stored (w ∷ x ∷ y ∷ z ∷ []) (a ∷ []) e h = absurd (omega arith)
four_stored (w ∷ x ∷ y ∷ z ∷ []) (a ∷ b ∷ []) e h = absurd (omega arith)
four_stored (w ∷ x ∷ y ∷ z ∷ []) (a ∷ b ∷ c ∷ []) e h = absurd (omega arith)

pub list_unique_in_c : (t : List ℤ) (mode lim : ℕ) (old report new new' told told' : List ℕ) (k k' : ℕ) → ListsPlans t mode lim old new report told k → ListsPlans t mode lim old new' report told' k'
    → (k ≡ k') × (new ≡ new') × (told ≡ told')
list_unique_in_c t mode lim old report new new' told told' k k' a b =
    let u = lists_unique t (ask_of mode lim) old new new' a.result b.result a.listing b.listing in (
      a.kind ∙ ap list_kind u.0 ∙ sym b.kind,
      u.1,
      a.report ∙ ap (λ (r : Result Listed Refusal). four_written (numbers_of r) report) u.0 ∙ sym b.report,
    )
