-- `rules::atoms_ask` meets its contract. The invariant of its loop: the atoms from index i on, beside the one undefined atom passed, ask what all of them
-- ask, so the others passed are true as literals. At each atom two ways meet: it is
-- the first undefined one, or it is true; `came` says that with either the invariant goes on.
-- Assumes nothing.
use mathlib.Core.Path.{◌≡◌}
use lib.ListN.{drop}
use Rattle.interpretation.specs.View.{valued}
use Rattle.literals.specs.Scan.{atom_lits}
use Rattle.rules.specs.Demand.{together, asks}
use Rattle.rules.proofs.Scanned.{only_asks}
use Rattle.rules.proofs.atoms_ask.Given as goal

abbrev pub invariant-loop-i : goal.invariant-loop-i
invariant-loop-i l = together (only_asks l.sign l.only) (asks (valued l.values) (atom_lits l.sign (drop l.i l.l))) ≡ asks (valued l.values) (atom_lits l.sign l.l)
