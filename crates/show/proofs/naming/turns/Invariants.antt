-- `show::naming::turns` meets its contract. Assumes nothing.
use mathlib.Core.Path.{◌≡◌}
use Prim.Native.Nat.{◌≤◌}
use lib.ListN.{length, drop}
use Rattle.notation.specs.Notation.{turns}
use Rattle.show.proofs.naming.turns.Given as goal

abbrev pub invariant-loop-i : goal.invariant-loop-i
invariant-loop-i l =
    (l.i ≤ length l.l) × (turns l.d l.next (drop l.i l.l) ≡ turns l.d l.e l.l)
