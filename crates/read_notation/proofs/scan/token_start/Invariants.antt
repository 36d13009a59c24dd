-- `read_notation::scan::token_start` meets its contract. The invariant of its loop: from `i` on it is as far as from `from` on. Assumes nothing.
use mathlib.Core.Path.{◌≡◌}
use Prim.Native.Nat.{◌+◌}
use lib.ListN.{drop}
use mathlib.Core.Bool.{false}
use Rattle.read_notation.specs.Scanning.{gap}
use Rattle.read_notation.proofs.scan.token_start.Given as goal

abbrev pub invariant-loop-i : goal.invariant-loop-i
invariant-loop-i l = l.i + gap l.comment (drop l.i l.text) ≡ l.from + gap false (drop l.from l.text)
