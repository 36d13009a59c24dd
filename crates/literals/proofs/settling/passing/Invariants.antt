-- `literals::settling::passing` meets its contract. Assumes nothing.
use mathlib.Core.Path.{◌≡◌}
use Prim.Native.Nat.{◌+◌, ◌*◌, ◌≤◌}
use lib.ListN.{drop}
use Rattle.layout.specs.Layout.{pairs}
use Rattle.literals.specs.Settled.{passing_of}
use Rattle.literals.proofs.settling.passing.Given as goal

abbrev pub invariant-loop-value : goal.invariant-loop-value
invariant-loop-value l = (l.x ≤ l.value-index) × (l.x + passing_of l.c l.k (pairs (drop (2 * l.value-index) l.w)) ≡ passing_of l.c l.k (pairs l.w))
