-- `aspif_scan::marks::count` meets its contract. Assumes nothing.
use Rattle.aspif_scan.specs.Marks.{row_from}
use lib.ListN.{length}
use mathlib.Core.Path.{◌≡◌}
use Prim.Native.Nat.{suc, ◌+◌, ◌*◌, ◌-◌, ◌≤◌}
use Rattle.aspif_scan.proofs.marks.count.Given as goal

abbrev pub invariant-loop-i : goal.invariant-loop-i
invariant-loop-i l = (l.n ≤ l.i) × (l.n + length (row_from l.marks (l.row * 256 + l.i) (suc l.i) (256 - l.i)) ≡ length (row_from l.marks (l.row * 256) 1 256))
