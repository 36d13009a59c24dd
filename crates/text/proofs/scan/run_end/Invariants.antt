-- `text::scan::run_end` meets its contract. The invariant of its loop: from `i` on it is as far as from `from` on. Assumes nothing.
use mathlib.Core.Path.{◌≡◌}
use Prim.Native.Nat.{◌+◌, ◌≤◌, max}
use lib.ListN.{length, drop}
use Rattle.text.specs.Scan.{spanned}
use Rattle.text.proofs.scan.run_end.Given as goal

abbrev pub invariant-loop-i : goal.invariant-loop-i
invariant-loop-i l = (l.i ≤ max l.from (length l.bytes)) × (l.i + spanned (drop l.i l.bytes) ≡ l.from + spanned (drop l.from l.bytes))
