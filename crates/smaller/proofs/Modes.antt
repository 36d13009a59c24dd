-- The search in either mode: with 01's foundedness test, or with the second search where the call takes head cycles.
--   old_base       without head cycles the problem is 01's
--   test_spends    what a test spends is at most what is left
--   mode_laws      the laws of the search; head cycles are excluded in 01's mode only. `mode_base_laws` without pins
-- That the two end alike on a program without head cycles is `same_as_base` of `Cyclic.antt`.
-- Assumes nothing.
use Prim.Native.Nat.{ℕ, ◌≤◌}
use native.Mathlib.Omega.{arith}
use mathlib.Core.Path.{◌≡◌, refl}
use mathlib.Core.Bool.{Bool, true, false}
use mathlib.Core.Option.{Option}
use Rattle.meaning.specs.Aggregates.{Atoms}
use Rattle.meaning.specs.Program.{Program, AtomsIn}
use Rattle.meaning.specs.Foundedness.{founded}
use Rattle.meaning.specs.Answers.{AnswerSet}
use Rattle.meaning.specs.Dependency.{HeadCycle, AggregateCycle, Free}
use Rattle.search.specs.Search.{Tested, passed, failed, exhausted}
use Rattle.search.specs.Laws.{Laws}
use Rattle.search.specs.Base.{PinsIn, Agreeing, verdict_of, base}
use Rattle.search.proofs.Base.{laws, pinned_laws}
use Rattle.smaller.specs.Smaller.{smaller_test}
use Rattle.smaller.specs.Cyclic.{test_by, problem_by, base_by}
use Rattle.smaller.proofs.Exact.{smaller_exact}
use Rattle.smaller.proofs.Cyclic.{cyclic_laws, cyclic_base_laws}

-- "head cycle" is refused in 01's mode only
abbrev pub HeadsFree : Bool → Program → Type 0
HeadsFree cycles P = cycles ≡ false → Free HeadCycle P

pub old_base : (n : ℕ) (P : Program) → base_by false P n ≡ base P n
old_base n P = refl

-- ---- the choices of the final test

abbrev pub spent_by : Tested → ℕ
spent_by (passed k) = k
spent_by (failed k) = k
spent_by exhausted = 0

founded_spends : (b : Bool) (left : ℕ) → spent_by (verdict_of b) ≤ left
founded_spends true left = omega arith
founded_spends false left = omega arith

module _ (n : ℕ) (P : Program) (A : AtomsIn n P) (left : ℕ) (X : Atoms) where
  smaller_spends : (x : Tested) → smaller_test P n left X ≡ x → spent_by x ≤ left
  smaller_spends (passed k) e = (smaller_exact n P A).spends_p left k X e
  smaller_spends (failed k) e = (smaller_exact n P A).spends_f left k X e
  smaller_spends exhausted e = omega arith

  pub test_spends : (cycles : Bool) → spent_by (test_by cycles P n left X) ≤ left
  test_spends false = founded_spends (founded P n X) left
  test_spends true = smaller_spends (smaller_test P n left X) refl

-- ---- the laws

pub mode_laws : (cycles : Bool) (n : ℕ) (P : Program) → AtomsIn n P → HeadsFree cycles P → Free AggregateCycle P → (pins : ℕ → Option Bool) → PinsIn n pins → Laws (Agreeing P pins) (problem_by cycles P n pins)
mode_laws false n P A no_head noAgg pins inside = pinned_laws n P A (no_head refl) noAgg pins inside
mode_laws true n P A no_head noAgg pins inside = cyclic_laws n P A pins inside

pub mode_base_laws : (cycles : Bool) (n : ℕ) (P : Program) → AtomsIn n P → HeadsFree cycles P → Free AggregateCycle P → Laws (AnswerSet P) (base_by cycles P n)
mode_base_laws false n P A no_head noAgg = laws n P A (no_head refl) noAgg
mode_base_laws true n P A no_head noAgg = cyclic_base_laws n P A
