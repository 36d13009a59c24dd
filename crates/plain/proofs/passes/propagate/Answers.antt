-- `plain::passes::propagate` meets its contract. The invariant of its loop: f passes from the values at hand come to what all passes come to, up to levels and reasons,
-- f being above the number of undefined atoms, which is the measure. A pass that changes something leaves fewer of them.
-- Assumes nothing.
use borrow.Author.Tests.{not-true, not-false}
use Prim.Native.Nat.{suc, ◌-◌, ◌<◌}
use native.Mathlib.Omega.{arith}
use mathlib.Core.Path.{◌≡◌, refl, sym, ◌∙◌}
use Rattle.interpretation.specs.View.{valued}
use Rattle.layout.specs.Layout.{program_of}
use Rattle.layout.proofs.Inside.{atoms_in_lem}
use Rattle.steps.specs.Steps.{pass}
use Rattle.plain.specs.Passes.{Like, work_of, undefined_to}
use Rattle.plain.proofs.Liking.{like_refl, like_then, like_atoms}
use Rattle.plain.proofs.Undefined.{undefined_top, undefined_alike, undefined_pass}
use Rattle.plain.proofs.Walking.{ruled, pass_conflict, pass_rests, pass_again}
use Rattle.plain.proofs.passes.propagate.Goals as goal

pub loop-side-init : goal.loop-side-init
loop-side-init c = let a = c.args in let h = undefined_top (valued a.side.values) a.t.now.places.atoms in (c.requires.1, (suc a.t.now.places.atoms, omega arith, like_refl _), refl)

-- the rules met a conflict
pub returns-then-side : goal.returns-then-side
returns-then-side c =
    let a = c.args in
    let P = program_of a.t.now.words.now a.t.now.places in
    let n = a.t.now.places.atoms in
    let w = work_of c.loop-side.side in
    let i = c.loop-side.invariant.1 in
    let h = i.1 in
    let s = c.rule_steps-side.result in
    let fuel : 0 < i.0 = omega (arith, h) in
    record {
      like = pass_conflict P n i.0 w _ fuel i.2 s (ruled P n i.0 w _ fuel i.2 s c.if-side.true c.rule_steps-side.ensures.like) c.if-side.true;
      kept = c.rule_steps-side.ensures.kept ∙ c.loop-side.invariant.2;
    }

-- the atoms met a conflict
pub returns-then-side-2 : goal.returns-then-side-2
returns-then-side-2 c =
    let passed : let a = c.args in
    Like (work_of c.atom_steps-side.result) (pass (program_of a.t.now.words.now a.t.now.places) a.t.now.places.atoms (work_of c.loop-side.side)) =
    let a = c.args in
    like_then c.atom_steps-side.ensures.like (like_atoms (program_of a.t.now.words.now a.t.now.places) a.t.now.places.atoms 1 c.rule_steps-side.ensures.like) in
    let counted : c.atom_steps-side.result.choices ≡ c.args.side.choices = c.atom_steps-side.ensures.kept ∙ c.rule_steps-side.ensures.kept ∙ c.loop-side.invariant.2 in
    let a = c.args in
    let i = c.loop-side.invariant.1 in
    let h = i.1 in
    record {
      like = pass_conflict (program_of a.t.now.words.now a.t.now.places) a.t.now.places.atoms i.0 (work_of c.loop-side.side) _ (omega (arith, h)) i.2 c.atom_steps-side.result passed c.if-side-2.true;
      kept = counted;
    }

-- the pass changed nothing
pub returns-then-not-side : goal.returns-then-not-side
returns-then-not-side c =
    let passed : let a = c.args in
    Like (work_of c.atom_steps-side.result) (pass (program_of a.t.now.words.now a.t.now.places) a.t.now.places.atoms (work_of c.loop-side.side)) =
    let a = c.args in
    like_then c.atom_steps-side.ensures.like (like_atoms (program_of a.t.now.words.now a.t.now.places) a.t.now.places.atoms 1 c.rule_steps-side.ensures.like) in
    let counted : c.atom_steps-side.result.choices ≡ c.args.side.choices = c.atom_steps-side.ensures.kept ∙ c.rule_steps-side.ensures.kept ∙ c.loop-side.invariant.2 in
    let a = c.args in
    let i = c.loop-side.invariant.1 in
    let h = i.1 in
    record {
      like = pass_rests (program_of a.t.now.words.now a.t.now.places) a.t.now.places.atoms i.0 (work_of c.loop-side.side) _ (omega (arith, h)) i.2 c.atom_steps-side.result passed c.if-side-2.false (not-true _ c.if-not-side.true);
      kept = counted;
    }

pub loop-side-smaller : goal.loop-side-smaller
loop-side-smaller c =
    let passed : let a = c.args in
    Like (work_of c.atom_steps-side.result) (pass (program_of a.t.now.words.now a.t.now.places) a.t.now.places.atoms (work_of c.loop-side.side)) =
    let a = c.args in
    like_then c.atom_steps-side.ensures.like (like_atoms (program_of a.t.now.words.now a.t.now.places) a.t.now.places.atoms 1 c.rule_steps-side.ensures.like) in
    let falls : let n = c.args.t.now.places.atoms in
    undefined_to n (valued c.atom_steps-side.result.values) < undefined_to n (valued c.loop-side.side.values) =
    let a = c.args in
    let P = program_of a.t.now.words.now a.t.now.places in
    let n = a.t.now.places.atoms in
    let w = work_of c.loop-side.side in
    let s = c.atom_steps-side.result in
    let g = passed in
    let k = undefined_alike (valued s.values) (pass P n w).cell g.cells n in
    let h = undefined_pass n P (atoms_in_lem a.t.now.words.now a.t.now.places c.args.t.now.laid) w (sym g.moved ∙ not-false _ c.if-not-side.false) in
    omega (arith, k, h) in
    falls

pub loop-side-preserved : goal.loop-side-preserved
loop-side-preserved c =
    let passed : let a = c.args in
    Like (work_of c.atom_steps-side.result) (pass (program_of a.t.now.words.now a.t.now.places) a.t.now.places.atoms (work_of c.loop-side.side)) =
    let a = c.args in
    like_then c.atom_steps-side.ensures.like (like_atoms (program_of a.t.now.words.now a.t.now.places) a.t.now.places.atoms 1 c.rule_steps-side.ensures.like) in
    let falls : let n = c.args.t.now.places.atoms in
    undefined_to n (valued c.atom_steps-side.result.values) < undefined_to n (valued c.loop-side.side.values) =
    let a = c.args in
    let P = program_of a.t.now.words.now a.t.now.places in
    let n = a.t.now.places.atoms in
    let w = work_of c.loop-side.side in
    let s = c.atom_steps-side.result in
    let g = passed in
    let k = undefined_alike (valued s.values) (pass P n w).cell g.cells n in
    let h = undefined_pass n P (atoms_in_lem a.t.now.words.now a.t.now.places c.args.t.now.laid) w (sym g.moved ∙ not-false _ c.if-not-side.false) in
    omega (arith, k, h) in
    let counted : c.atom_steps-side.result.choices ≡ c.args.side.choices = c.atom_steps-side.ensures.kept ∙ c.rule_steps-side.ensures.kept ∙ c.loop-side.invariant.2 in
    let a = c.args in
    let i = c.loop-side.invariant.1 in
    let h = i.1 in
    let k = falls in (
      c.if-side-2.false,
      (
        i.0 - 1,
        omega (arith, h, k),
        pass_again (program_of a.t.now.words.now a.t.now.places) a.t.now.places.atoms i.0 (work_of c.loop-side.side) _ (omega (arith, h)) i.2 c.atom_steps-side.result passed c.if-side-2.false (not-false _ c.if-not-side.false),
      ),
      counted,
    )
