-- `read_notation::scan::value` meets its contract. The invariant of its loop: the digits that are left, after the sum so far, come to what they all come to, as far as it is below the cap. Assumes nothing.
use mathlib.Core.Path.{◌≡◌}
use Prim.Native.Nat.{◌≤◌, min}
use lib.ListN.{drop}
use Rattle.read_notation.specs.Scanning.{value_from}
use Rattle.read_notation.proofs.scan.value.Given as goal

abbrev pub invariant-loop-i : goal.invariant-loop-i
invariant-loop-i l = (l.sum ≤ 4194305) × (min (value_from l.sum (drop l.i l.text)) 4194305 ≡ min (value_from 0 (drop l.from l.text)) 4194305)
