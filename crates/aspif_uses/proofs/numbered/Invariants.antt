-- `aspif_uses::numbered` meets its contract. The invariant of its loop: the places passed have their numbers, and those left get the free ones from `next` on. Assumes nothing.
use mathlib.Core.Path.{◌≡◌}
use mathlib.Core.List.{◌++◌}
use Prim.Native.Nat.{suc, ◌+◌, ◌≤◌}
use lib.ListN.{length, take, drop}
use Rattle.aspif_parts.specs.Uses.{numbered_by}
use Rattle.aspif_uses.proofs.numbered.Given as goal

abbrev pub invariant-loop-i : goal.invariant-loop-i
invariant-loop-i l =
    (l.i ≤ 128) × (length l.marks ≡ 128) × (l.next ≤ l.n + 1 + l.i) × (take l.i l.marks ++ numbered_by l.next (drop l.i l.marks) ≡ numbered_by (suc l.n) l.initial.marks)
