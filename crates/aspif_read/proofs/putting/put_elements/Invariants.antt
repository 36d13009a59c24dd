-- `aspif_read::putting::put_elements` meets its contract. Assumes nothing.
use Rattle.table.specs.Contents.{encode_elements}
use Rattle.aspif_scan.specs.Marks.{weights_from}
use Rattle.aspif_read.specs.Writing.{Put}
use lib.ListN.{length}
use lib.IntN.{ℤ}
use mathlib.Core.List.{List}
use Prim.Native.Nat.{ℕ, ◌+◌, ◌-◌, ◌≤◌}
use mathlib.Core.Path.{◌≡◌}
use Rattle.aspif_read.proofs.putting.put_elements.Given as goal

abbrev pub invariant-loop-i : goal.invariant-loop-i
invariant-loop-i l = (l.to ≤ length l.words) × (length l.words ≡ length l.initial.words)
    × ((r : ℕ) (new : List ℤ) → Put l.words l.to (encode_elements (weights_from l.marks (768 + l.i) (l.i + 1) (256 - l.i))) r new → Put l.initial.words l.at (encode_elements (weights_from l.marks 768 1 256)) r new)
