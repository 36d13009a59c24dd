-- `support::atoms::first_with` meets its contract. The invariant of its loop: what is found from the present atom on is what is found in all of the list.
-- Assumes nothing.
use mathlib.Core.Path.{◌≡◌}
use lib.ListN.{drop}
use Rattle.interpretation.specs.View.{valued}
use Rattle.layout.specs.Layout.{atoms}
use Rattle.support.specs.Asking.{values_of, first_with}
use Rattle.support.proofs.atoms.first_with.Given as goal

abbrev pub invariant-loop-w : goal.invariant-loop-w
invariant-loop-w l = first_with (values_of (valued l.values)) l.v (atoms (drop l.w-index l.l)) ≡ first_with (values_of (valued l.values)) l.v (atoms l.l)
