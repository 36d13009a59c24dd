-- `pins::memory::is_held` meets its contract. Assumes nothing.
use mathlib.Core.Path.{◌≡◌}
use Rattle.sessions.specs.Sessions.{is_held}
use Rattle.pins.specs.Memory.{pins_to}
use Rattle.pins.proofs.memory.is_held.Given as goal

-- none of the pins from i on is of the atom
abbrev pub invariant-loop-i : goal.invariant-loop-i
invariant-loop-i l = is_held l.p (pins_to l.s l.i) ≡ is_held l.p (pins_to l.s l.held)
