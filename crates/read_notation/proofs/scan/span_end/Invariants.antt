-- `read_notation::scan::span_end` meets its contract. The invariant of its loop: from `i` on it is as far as from `from` on. Assumes nothing.
use mathlib.Core.Path.{◌≡◌}
use Prim.Native.Nat.{◌+◌}
use lib.ListN.{drop}
use Rattle.read_notation.specs.Scanning.{among, span}
use Rattle.read_notation.proofs.scan.span_end.Given as goal

abbrev pub invariant-loop-i : goal.invariant-loop-i
invariant-loop-i l = l.i + span (among l.low l.high) (drop l.i l.text) ≡ l.from + span (among l.low l.high) (drop l.from l.text)
