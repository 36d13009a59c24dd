-- `support::atoms::other_true` meets its contract. The invariant of its loop: what is found from the present atom on is what is found in all of the list.
-- Assumes nothing.
use mathlib.Core.Path.{◌≡◌}
use lib.ListN.{drop}
use Rattle.interpretation.specs.View.{valued}
use Rattle.layout.specs.Layout.{atoms}
use Rattle.support.specs.Asking.{values_of, other_true}
use Rattle.support.proofs.atoms.other_true.Given as goal

abbrev pub invariant-loop-k : goal.invariant-loop-k
invariant-loop-k l = other_true (values_of (valued l.values)) l.p (atoms (drop l.k l.l)) ≡ other_true (values_of (valued l.values)) l.p (atoms l.l)
