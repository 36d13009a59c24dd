-- `literals::atoms_reason` meets its contract. Assumes nothing.
use mathlib.Core.Path.{◌≡◌}
use lib.ListN.{drop}
use Rattle.levels.specs.Levels.{union}
use Rattle.levels.specs.View.{row, rows}
use Rattle.interpretation.specs.View.{valued}
use Rattle.layout.specs.Layout.{atoms}
use Rattle.literals.specs.Scan.{atoms_reason}
use Rattle.literals.proofs.atoms_reason.Given as goal

abbrev pub invariant-loop-w : goal.invariant-loop-w
invariant-loop-w l =
    union (atoms_reason (valued l.values) (rows l.reasons) (atoms (drop l.w-index l.l))) (row l.acc) ≡ union (atoms_reason (valued l.values) (rows l.reasons) (atoms l.l)) (row l.fn.more)
