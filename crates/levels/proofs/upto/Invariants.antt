-- `levels::upto` meets its contract. Assumes nothing.
use mathlib.Core.Path.{◌≡◌}
use Rattle.levels.specs.Levels.{up_to}
use Rattle.levels.specs.View.{row}
use Rattle.levels.proofs.upto.Given as goal

abbrev pub invariant-loop-below : goal.invariant-loop-below
invariant-loop-below l = row l.a ≡ up_to l.below
