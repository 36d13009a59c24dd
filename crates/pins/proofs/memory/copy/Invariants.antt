-- `pins::memory::copy` meets its contract. Assumes nothing.
use mathlib.Core.Path.{◌≡◌}
use mathlib.Core.List.{◌++◌}
use lib.ListN.{length, take, drop}
use Rattle.pins.proofs.memory.copy.Given as goal

-- the first i words are copied
abbrev pub invariant-loop-i : goal.invariant-loop-i
invariant-loop-i l = (length l.s ≡ length l.initial.s) × (l.s ≡ take l.i l.words ++ drop l.i l.initial.s)
