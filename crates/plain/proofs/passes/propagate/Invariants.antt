-- `plain::passes::propagate` meets its contract. The invariant of its loop: f passes from the values at hand come to what all passes come to, up to levels and reasons,
-- f being above the number of undefined atoms, which is the measure. A pass that changes something leaves fewer of them.
-- Assumes nothing.
use Prim.Native.Nat.{ℕ, suc, ◌<◌}
use mathlib.Core.Path.{◌≡◌}
use mathlib.Core.Bool.{false}
use Rattle.interpretation.specs.View.{valued}
use Rattle.layout.specs.Layout.{program_of}
use Rattle.steps.specs.Steps.{passes}
use Rattle.plain.specs.Passes.{Like, work_of, undefined_to}
use Rattle.plain.proofs.passes.propagate.Given as goal

abbrev pub invariant-loop-side : goal.invariant-loop-side
invariant-loop-side l =
    (l.side.conflict ≡ false)
    × ((f : ℕ) × (undefined_to l.t.places.atoms (valued l.side.values) < f)
    × Like (passes (program_of l.t.words.now l.t.places) l.t.places.atoms f (work_of l.side)) (passes (program_of l.t.words.now l.t.places) l.t.places.atoms (suc l.t.places.atoms) (work_of l.initial.side)))
    × (l.side.choices ≡ l.initial.side.choices)

abbrev pub decreases-loop-side : goal.decreases-loop-side
decreases-loop-side l = undefined_to l.t.places.atoms (valued l.side.values)
