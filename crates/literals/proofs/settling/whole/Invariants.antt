-- `literals::settling::whole` meets its contract. Assumes nothing.
use mathlib.Core.Path.{◌≡◌}
use Prim.Native.Nat.{◌+◌, ◌*◌, ◌≤◌}
use lib.ListN.{drop}
use Rattle.layout.specs.Layout.{pairs}
use Rattle.literals.specs.Settled.{whole_of}
use Rattle.literals.proofs.settling.whole.Given as goal

abbrev pub invariant-loop-value : goal.invariant-loop-value
invariant-loop-value l = (l.x ≤ 65535 * l.value-index) × (l.x + whole_of l.count (pairs (drop (2 * l.value-index) l.w)) ≡ whole_of l.count (pairs l.w))
