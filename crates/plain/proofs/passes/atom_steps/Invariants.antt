-- `plain::passes::atom_steps` meets its contract. The invariant of its loop: what the atoms from p on make of the pass is like what all atoms make of the first one.
-- A conflict ends the code's loop at once, and the defined steps do nothing after it.
-- Assumes nothing.
use Prim.Native.Nat.{suc, ◌-◌}
use mathlib.Core.Path.{◌≡◌}
use mathlib.Core.Bool.{false}
use Rattle.layout.specs.Layout.{program_of}
use Rattle.steps.specs.Steps.{atom_pass}
use Rattle.plain.specs.Passes.{Like, work_of}
use Rattle.plain.proofs.passes.atom_steps.Given as goal

abbrev pub invariant-loop-p : goal.invariant-loop-p
invariant-loop-p l =
    (l.side.conflict ≡ false)
    × Like (atom_pass (program_of l.t.words.now l.t.places) (suc l.t.places.atoms - l.p) l.p (work_of l.side)) (atom_pass (program_of l.t.words.now l.t.places) l.t.places.atoms 1 (work_of l.initial.side)) × (l.side.choices ≡ l.initial.side.choices)
