-- `text::scan::run_start` meets its contract. The invariant of its loop: from `i` on it is as far as from `from` on. Assumes nothing.
use mathlib.Core.Path.{◌≡◌}
use Prim.Native.Nat.{◌+◌, ◌≤◌, max}
use lib.ListN.{length, drop}
use Rattle.text.specs.Scan.{skipped}
use Rattle.text.proofs.scan.run_start.Given as goal

abbrev pub invariant-loop-i : goal.invariant-loop-i
invariant-loop-i l = (l.i ≤ max l.from (length l.bytes)) × (l.i + skipped (drop l.i l.bytes) ≡ l.from + skipped (drop l.from l.bytes))
