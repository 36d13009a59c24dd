-- `aspif_uses::mark` meets its contract. The invariant of its loop: the marks with the literals left are those of the whole list. Assumes nothing.
use mathlib.Core.Path.{◌≡◌}
use Prim.Native.Nat.{◌≤◌}
use lib.ListN.{length, drop}
use Rattle.aspif_parts.specs.Uses.{mark_all}
use Rattle.aspif_uses.proofs.mark.Given as goal

abbrev pub invariant-loop-i : goal.invariant-loop-i
invariant-loop-i l = (l.i ≤ length l.l) × (length l.marks ≡ 128) × (mark_all l.marks (drop l.i l.l) ≡ mark_all l.initial.marks l.l)
