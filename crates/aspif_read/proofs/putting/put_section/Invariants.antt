-- `aspif_read::putting::put_section` meets its contract. Assumes nothing.
use Rattle.aspif_read.specs.Writing.{Put, weighed_in, section_from}
use Rattle.aspif.specs.Lines.{lines_of}
use lib.ListN.{length, drop}
use lib.IntN.{ℤ}
use mathlib.Core.List.{List}
use Prim.Native.Nat.{ℕ, ◌+◌, ◌-◌, ◌≤◌}
use mathlib.Core.Path.{◌≡◌}
use Rattle.aspif_read.proofs.putting.put_section.Given as goal

abbrev pub invariant-loop-start : goal.invariant-loop-start
invariant-loop-start l = (l.start ≤ length l.text) × (l.to.at ≤ length l.words) × (length l.words ≡ length l.initial.words) × (l.to.before + weighed_in (lines_of (drop l.start l.text)) ≤ 64)
    × ((r : ℕ) (new : List ℤ) → Put l.words l.to.at (section_from l.rules l.to.before (lines_of (drop l.start l.text))) r new → Put l.initial.words l.at (section_from l.rules 0 (lines_of (drop l.from l.text))) r new)

abbrev pub decreases-loop-start : goal.decreases-loop-start
decreases-loop-start l = length l.text - l.start
