-- `literals::aggregates::totals_of` meets its contract. Assumes nothing.
use mathlib.Core.Path.{◌≡◌}
use Prim.Native.Nat.{◌+◌, ◌*◌, ◌≤◌}
use lib.ListN.{drop}
use Rattle.interpretation.specs.View.{valued}
use Rattle.layout.specs.Layout.{pairs}
use Rattle.literals.specs.Elements.{totals_of}
use Rattle.literals.proofs.aggregates.totals_of.Given as goal

abbrev pub invariant-loop-value : goal.invariant-loop-value
invariant-loop-value l =
    (l.t.low ≤ 65535 * l.value-index) × (l.t.high ≤ 65535 * l.value-index)
    × (l.t.low + (totals_of l.count (valued l.values) (pairs (drop (2 * l.value-index) l.w))).low ≡ (totals_of l.count (valued l.values) (pairs l.w)).low)
    × (l.t.high + (totals_of l.count (valued l.values) (pairs (drop (2 * l.value-index) l.w))).high ≡ (totals_of l.count (valued l.values) (pairs l.w)).high)
