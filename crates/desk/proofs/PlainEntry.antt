-- The promise of `saucepebbly_plain` has one answer only, and the place that it reports is the refusal's own. Assumes nothing.
use mathlib.Core.Path.{◌≡◌, sym, ◌∙◌, ap}
use mathlib.Core.List.{List}
use Rattle.std.specs.Prelude.{Result, Err}
use Prim.Native.Nat.{ℕ, ◌≤◌}
use native.Mathlib.Omega.{arith}
use lib.IntN.{ℤ}
use lib.ListN.{length}
use Rattle.results.specs.Results.{number_of, place_of, kind_of, report_of}
use Rattle.results.specs.declared.Refusal.{Refusal}
use Rattle.results.specs.declared.Solved.{Solved}
use Rattle.judging.specs.declared.Buffer.TheVariants.{Plan}
use Rattle.judging.proofs.Places.{place_small}
use Rattle.plain.proofs.Unique.{plainly_unique}
use Rattle.reports.specs.Report.{ask_of, narrow, first_of, second_of, reported}
use Rattle.desk.specs.Plain.{SolvesPlainly}

pub plainly_unique_in_c : (t : List ℤ) (mode lim : ℕ) (old report : List ℕ) (new new' told told' : List ℕ) (k k' : ℕ) → SolvesPlainly t mode lim old new report told k → SolvesPlainly t mode lim old new' report told' k'
    → (k ≡ k') × (new ≡ new') × (told ≡ told')
plainly_unique_in_c t mode lim old report new new' told told' k k' a b =
    let u = plainly_unique t (ask_of mode lim) old new new' a.result b.result a.solving b.solving in (
      a.kind ∙ ap kind_of u.0 ∙ sym b.kind,
      u.1,
      a.report ∙ ap (λ (r : Result Solved Refusal). reported (first_of r) (second_of r) report) u.0 ∙ sym b.report,
    )

kept : (n : ℕ) → n ≤ 16384 → narrow n ≡ n
kept n h = omega (arith, h)

pub plain_place : (t : List ℤ) (mode lim : ℕ) (old new report told : List ℕ) (k : ℕ) (s : SolvesPlainly t mode lim old new report told k) (f : Refusal) → s.result ≡ Err f
    → told ≡ reported (number_of f) (place_of f) report
plain_place t mode lim old new report told k s f e =
    s.report ∙ ap (λ (r : Result Solved Refusal). reported (first_of r) (second_of r) report) e
    ∙ ap (λ (n : ℕ). reported (number_of f) n report) (kept (place_of f) (place_small t (Plan (length old)) (number_of f) (place_of f) ((s.solving.refused (number_of f) (place_of f)).0 (ap report_of e))))
