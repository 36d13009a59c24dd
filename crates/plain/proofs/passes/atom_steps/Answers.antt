-- `plain::passes::atom_steps` meets its contract. The invariant of its loop: what the atoms from p on make of the pass is like what all atoms make of the first one.
-- A conflict ends the code's loop at once, and the defined steps do nothing after it.
-- Assumes nothing.
use native.Mathlib.Omega.{arith}
use mathlib.Core.Path.{sym, ◌∙◌}
use Rattle.plain.proofs.passes.atom_steps.Goals.{in-Nothing, in-Unset, in-Sole}
use mathlib.Core.Bool.{true}
use Rattle.interpretation.specs.View.{valued}
use Rattle.layout.specs.Layout.{program_of}
use Rattle.steps.specs.Steps.{step_atom}
use Rattle.support.proofs.Atom.{sole_lies}
use Rattle.plain.specs.declared.passes.Side.{Side}
use Rattle.plain.specs.Passes.{work_of}
use Rattle.plain.proofs.Stepping.{Stepped, moved, refuted_like, atom_nothing, atom_refutes, atom_unsets, atom_forces}
use Rattle.plain.proofs.Walking.{atoms_next, atoms_end, atoms_over}
use Rattle.plain.proofs.passes.atom_steps.Goals as goal

-- a conflict
pub returns-in-Conflict : goal.returns-in-Conflict
returns-in-Conflict c =
    let a = c.args in
    let s = c.loop-p.side in
    let free = c.loop-p.invariant.0 in
    let x = atom_refutes s free a.t.now.words.now a.t.now.places c.loop-p.p (sym c.asked-ask.ensures ∙ c.in-Conflict.is) in
    record {
      like =
          atoms_end (program_of a.t.now.words.now a.t.now.places) a.t.now.places.atoms c.loop-p.p (work_of s) _ c.loop-p.invariant.1 (omega (arith, c.loop-p-test.true))
          (record { values = s.values; choices = s.choices; changed = s.changed; conflict = true }) x.0 x.1 (refuted_like s free x.0);
      kept = c.loop-p.invariant.2;
    }

pub forced_by-side-requires : goal.forced_by-side-requires
forced_by-side-requires c =
    let a = c.args in
    let L = c.args.t.now.laid in
    sole_lies a.t.now.words.now a.t.now.places (valued c.loop-p.side.values) c.loop-p.p c.in-Sole.at (sym c.asked-ask.ensures ∙ c.in-Sole.is) L

pub loop-p-preserved : goal.loop-p-preserved
loop-p-preserved c =
    let Came : Side → Type 0 = λ s. Stepped c.loop-p.side s (step_atom (program_of c.args.t.now.words.now c.args.t.now.places) c.loop-p.p (work_of c.loop-p.side)) in
    let came : Came c.match-ask.side =
    let s = c.loop-p.side in
    let free = c.loop-p.invariant.0 in
    let t = c.args.t.now.words.now in
    let tb = c.args.t.now.places in
    let p = c.loop-p.p in
    elim c.match-ask.branch [
      | in-Nothing w ↦ moved w.side-is (atom_nothing s free t tb p (sym c.asked-ask.ensures ∙ w.in-Nothing.is))
      | in-Unset w ↦ moved w.side-is (atom_unsets s free t tb p w.set-side.result (sym c.asked-ask.ensures ∙ w.in-Unset.is) w.set-side.ensures)
      | in-Sole w ↦ moved w.side-is (atom_forces s free t tb p w.in-Sole.at w.forced_by-side.result (sym c.asked-ask.ensures ∙ w.in-Sole.is) w.forced_by-side.ensures)
    ] in
    let a = c.args in
    let x = came in (
      x.free,
      atoms_next (program_of a.t.now.words.now a.t.now.places) a.t.now.places.atoms c.loop-p.p (work_of c.loop-p.side) _ c.loop-p.invariant.1 (omega (arith, c.loop-p-test.true)) c.match-ask.side x.like,
      x.kept ∙ c.loop-p.invariant.2,
    )

pub returns : goal.returns
returns c =
    let a = c.args in
    record { like = atoms_over (program_of a.t.now.words.now a.t.now.places) a.t.now.places.atoms c.loop-p.p (work_of c.loop-p.side) _ c.loop-p.invariant.1 (omega (arith, c.loop-p-test.false)); kept = c.loop-p.invariant.2 }
