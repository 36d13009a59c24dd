-- `levels::highest` meets its contract. Assumes nothing.
use mathlib.Core.Path.{◌≡◌}
use Rattle.levels.specs.Levels.{highest}
use Rattle.levels.specs.View.{row}
use Rattle.levels.proofs.highest.Given as goal

abbrev pub invariant-loop-l : goal.invariant-loop-l
invariant-loop-l l = highest (row l.a) l.l ≡ highest (row l.a) l.k
