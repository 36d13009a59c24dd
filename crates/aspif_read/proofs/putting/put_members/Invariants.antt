-- `aspif_read::putting::put_members` meets its contract. Assumes nothing.
use Rattle.aspif_scan.specs.Marks.{row_from}
use Rattle.aspif_read.specs.Writing.{Put}
use lib.ListN.{length}
use lib.IntN.{ℤ, pos}
use mathlib.Core.List.{List, map}
use Prim.Native.Nat.{ℕ, ◌+◌, ◌*◌, ◌-◌, ◌≤◌}
use mathlib.Core.Path.{◌≡◌}
use Rattle.aspif_read.proofs.putting.put_members.Given as goal

abbrev pub invariant-loop-i : goal.invariant-loop-i
invariant-loop-i l = (l.to ≤ length l.words) × (length l.words ≡ length l.initial.words)
    × ((r : ℕ) (new : List ℤ) → Put l.words l.to (map pos (row_from l.marks (l.row * 256 + l.i) (l.i + 1) (256 - l.i))) r new → Put l.initial.words l.at (map pos (row_from l.marks (l.row * 256) 1 256)) r new)
