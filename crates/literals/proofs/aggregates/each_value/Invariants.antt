-- `literals::aggregates::each_value` meets its contract. The invariant of its loop: of the pairs walked, no true element fails, and the three
-- flags are the other marks. Assumes nothing.
use mathlib.Core.Path.{◌≡◌}
use Rattle.interpretation.specs.View.{valued}
use Rattle.literals.proofs.Bytes.{marks_from, unfailed}
use Rattle.literals.proofs.aggregates.each_value.Given as goal

abbrev pub invariant-loop-i : goal.invariant-loop-i
invariant-loop-i l = marks_from l.w l.c l.k (valued l.values) l.i ≡ unfailed l.passed l.passable l.failable
