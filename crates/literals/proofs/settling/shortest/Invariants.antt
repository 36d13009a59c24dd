-- `literals::settling::shortest` meets its contract. Assumes nothing.
use mathlib.Core.Path.{◌≡◌}
use mathlib.Core.Bool.{Bool}
use mathlib.Core.List.{List}
use Prim.Native.Nat.{ℕ, ◌+◌, ◌*◌, ◌≤◌}
use lib.IntN.{ℤ}
use lib.ListN.{drop}
use Rattle.levels.specs.Levels.{Levels}
use Rattle.levels.specs.View.{row, rows}
use Rattle.interpretation.specs.View.{valued}
use Rattle.layout.specs.Layout.{pairs}
use Rattle.literals.specs.Settled.{whole_of, Told, run_of}
use Rattle.meaning.specs.declared.Comparison.{Comparison}
use Rattle.literals.proofs.settling.shortest.Given as goal

-- what is left of the walk, from element i on
abbrev pub from : List ℤ → Bool → Bool → Comparison → ℕ → ℕ → List ℕ → List (List ℕ) → ℕ → ℕ → Levels → Told
from w sign count c k high values reasons i x A = run_of sign count c k high (valued values) (rows reasons) (pairs (drop (2 * i) w)) x A

abbrev pub invariant-loop-value : goal.invariant-loop-value
invariant-loop-value l =
    (l.x + whole_of l.count (pairs (drop (2 * l.value-index) l.w)) ≤ l.high)
    × (from l.w l.sign l.count l.c l.k l.high l.values l.reasons l.value-index l.x (row l.acc) ≡ run_of l.sign l.count l.c l.k l.high (valued l.values) (rows l.reasons) (pairs l.w) 0 (row l.initial.acc))
