-- The place that an entry reports is the refusal's own: in 32 bits nothing of it is lost. Assumes nothing.
use mathlib.Core.Path.{◌≡◌, ap, ◌∙◌}
use mathlib.Core.List.{List}
use Rattle.std.specs.Prelude.{Bool, Result, Err}
use Prim.Native.Nat.{ℕ, ◌≤◌}
use native.Mathlib.Omega.{arith}
use lib.IntN.{ℤ}
use lib.ListN.{length}
use Rattle.results.specs.Results.{place_of, number_of, report_of, check_report_of}
use Rattle.results.specs.declared.Refusal.{Refusal}
use Rattle.results.specs.declared.Solved.{Solved}
use Rattle.judging.specs.declared.Buffer.TheVariants.{Plan}
use Rattle.judging.proofs.Places.{place_small}
use Rattle.solver.proofs.Places.{check_place_small}
use Rattle.reports.specs.Report.{narrow, first_of, second_of, third_of, reported, with_third}
use Rattle.dock.specs.Dock.{check_report, Solves, Approves}

kept : (n : ℕ) → n ≤ 16384 → narrow n ≡ n
kept n h = omega (arith, h)

pub solves_place : (t : List ℤ) (mode lim : ℕ) (old new report told whys shown : List ℕ) (k : ℕ) (s : Solves t mode lim old new report told whys shown k) (f : Refusal) → s.result ≡ Err f
    → told ≡ with_third 0 (reported (number_of f) (place_of f) report)
solves_place t mode lim old new report told whys shown k s f e =
    s.report ∙ ap (λ (r : Result Solved Refusal). with_third (third_of r) (reported (first_of r) (second_of r) report)) e ∙ ap (λ (n : ℕ). with_third 0 (reported (number_of f) n report)) (kept (place_of f) (place_small t (Plan (length old)) (number_of f) (place_of f) ((s.solving.refused (number_of f) (place_of f)).0 (ap report_of e))))

pub approves_place : (t : List ℤ) (mode : ℕ) (plan report told : List ℕ) (k : ℕ) (s : Approves t mode plan report told k) (f : Refusal) → s.result ≡ Err f
    → told ≡ reported (number_of f) (place_of f) report
approves_place t mode plan report told k s f e =
    s.report ∙ ap (λ (r : Result Bool Refusal). check_report r report) e ∙ ap (λ (n : ℕ). reported (number_of f) n report) (kept (place_of f) (check_place_small t plan (number_of f) (place_of f) ((s.approving.refused (number_of f) (place_of f)).0 (ap check_report_of e))))
