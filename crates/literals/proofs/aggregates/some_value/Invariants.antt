-- `literals::aggregates::some_value` meets its contract. The invariant of its loop: of the pairs walked, no true element passes, and `passable`
-- says whether one that could be true does. Assumes nothing.
use mathlib.Core.Path.{◌≡◌}
use mathlib.Core.Bool.{false}
use Rattle.interpretation.specs.View.{valued}
use Rattle.literals.proofs.Bytes.{marks_from}
use Rattle.literals.proofs.aggregates.some_value.Given as goal

abbrev pub invariant-loop-i : goal.invariant-loop-i
invariant-loop-i l =
    ((marks_from l.w l.c l.k (valued l.values) l.i).passed ≡ false) × ((marks_from l.w l.c l.k (valued l.values) l.i).passable ≡ l.passable)
