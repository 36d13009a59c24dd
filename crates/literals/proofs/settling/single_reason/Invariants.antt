-- `literals::settling::single_reason` meets its contract. Assumes nothing.
use mathlib.Core.Path.{◌≡◌}
use Prim.Native.Nat.{◌*◌}
use lib.ListN.{drop}
use Rattle.levels.specs.View.{row, rows}
use Rattle.interpretation.specs.View.{valued}
use Rattle.layout.specs.Layout.{pairs}
use Rattle.literals.specs.Settled.{single_from, single_of}
use Rattle.literals.proofs.settling.single_reason.Given as goal

abbrev pub invariant-loop-value : goal.invariant-loop-value
invariant-loop-value l =
    single_from l.each l.c l.k l.pass l.fail (valued l.values) (rows l.reasons) (row l.more) (pairs (drop (2 * l.value-index) l.w)) (row l.falses) (row l.all) l.may ≡ single_of l.each l.c l.k (valued l.values) (rows l.reasons) (pairs l.w) (row l.more)
