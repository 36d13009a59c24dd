-- `pins::setting::start` meets its contract. Assumes nothing.
use mathlib.Core.Path.{◌≡◌}
use Rattle.interpretation.specs.View.{view}
use Rattle.sessions.specs.Sessions.{held, settings}
use Rattle.pins.specs.Memory.{pins_to}
use Rattle.pins.specs.Setting.{start_with}
use Rattle.pins.proofs.setting.start.Given as goal

-- the first i pins are set
abbrev pub invariant-loop-i : goal.invariant-loop-i
invariant-loop-i l = view l.it ≡ start_with (Rattle.sessions.specs.Sessions.held l.n (settings (pins_to l.s l.i)))
