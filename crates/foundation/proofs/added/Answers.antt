-- `foundation::added` meets its contract. The invariant of its loop: what is marked is added, and a rule that could add an atom not yet marked is among the
-- candidates (`Between`, here said of any (program_of of.args.t.now of.args.tb) which it holds before the first walk). The measure is the number of candidates: a walk that
-- leaves them all shows that the marks are closed, so they hold all that is added.
-- Assumes nothing.
use mathlib.Core.Path.{sym, subst, ◌∙◌}
use mathlib.Core.Logic.{◌↔◌}
use mathlib.Core.List.{List}
use Prim.Native.Nat.{ℕ}
use native.Mathlib.Omega.{arith}
use lib.ListN.{take}
use lib.Seq.{length-take-le}
use Rattle.meaning.specs.Lists.{Is}
use Rattle.meaning.specs.Aggregates.{Atoms}
use Rattle.meaning.specs.Program.{AtomsIn}
use Rattle.meaning.specs.Foundedness.{Added}
use Rattle.interpretation.specs.State.{true_atoms}
use Rattle.interpretation.specs.View.{valued}
use Rattle.layout.specs.Layout.{program_of}
use Rattle.layout.proofs.Inside.{atoms_in_lem}
use Rattle.foundation.specs.Walk.{marked, walk_marks}
use Rattle.foundation.proofs.Words.{marked_none}
use Rattle.foundation.proofs.Walks.{Between, between_start, between_fits, between_on, between_end, left_fewer}
use Rattle.foundation.proofs.added.Goals as goal

pub walk-left-requires : goal.walk-left-requires
walk-left-requires c =
    let a = valued c.args.values.now in
    let P = program_of c.args.t.now.words.now c.args.t.now.places in
    let A : AtomsIn c.args.t.now.places.atoms P = atoms_in_lem c.args.t.now.words.now c.args.t.now.places c.args.t.now.laid in
    let B : Between c.args.t.now.places.atoms a c.requires P A c.args.t.now.words.now (marked c.loop-number.marks) (take c.loop-number.number c.loop-number.list) =
    c.loop-number.invariant.2 c.args.t.now.places.atoms c.requires P A
    (subst (Between c.args.t.now.places.atoms a c.requires P A c.args.t.now.words.now _) (sym c.collect-number.ensures.same)
    (between_start c.args.t.now.words.now c.args.t.now.places c.args.t.now.laid a c.requires _ (marked_none 256))) in
    (between_fits c.args.t.now.places.atoms a c.requires P A c.args.t.now.words.now (marked c.loop-number.marks) (take c.loop-number.number c.loop-number.list) B, c.loop-number.invariant.0, c.loop-number.invariant.1)

pub returns-then-left-number : goal.returns-then-left-number
returns-then-left-number c =
    let a = valued c.args.values.now in
    let P = program_of c.args.t.now.words.now c.args.t.now.places in
    let A : AtomsIn c.args.t.now.places.atoms P = atoms_in_lem c.args.t.now.words.now c.args.t.now.places c.args.t.now.laid in
    let B : Between c.args.t.now.places.atoms a c.requires P A c.args.t.now.words.now (marked c.loop-number.marks) (take c.loop-number.number c.loop-number.list) =
    c.loop-number.invariant.2 c.args.t.now.places.atoms c.requires P A
    (subst (Between c.args.t.now.places.atoms a c.requires P A c.args.t.now.words.now _) (sym c.collect-number.ensures.same)
    (between_start c.args.t.now.words.now c.args.t.now.places c.args.t.now.laid a c.requires _ (marked_none 256))) in
    let X = true_atoms c.args.t.now.places.atoms a in
    subst (λ (H : Atoms). (p : ℕ) → Is (H p) ↔ Added P X p) (sym c.walk-left.ensures.0)
    (between_end c.args.t.now.places.atoms a c.requires P A c.args.t.now.words.now (marked c.loop-number.marks) (take c.loop-number.number c.loop-number.list) B
    (sym c.walk-left.ensures.1.number ∙ c.if-left-number.true ∙ sym (length-take-le c.loop-number.number c.loop-number.list (omega (arith, c.loop-number.invariant.0, c.loop-number.invariant.1)))))

pub loop-number-smaller : goal.loop-number-smaller
loop-number-smaller c =
    let n = c.if-left-number.false in
    omega (arith, n, left_fewer c.args.t.now.words.now (take c.loop-number.number c.loop-number.list) (marked c.loop-number.marks), c.walk-left.ensures.1.number, (length-take-le c.loop-number.number c.loop-number.list (omega (arith, c.loop-number.invariant.0, c.loop-number.invariant.1))))

pub loop-number-preserved : goal.loop-number-preserved
loop-number-preserved c =
    let t = c.args.t.now.words.now in
    let a = valued c.args.values.now in
    let e = c.walk-left.ensures.1 in (
      e.few,
      e.sized,
      λ n D P A k. subst (λ (H : Atoms). Between n a D P A t H (take c.walk-left.result c.walk-left.new.list)) (sym c.walk-left.ensures.0)
          (subst (λ (l : List ℕ). Between n a D P A t (walk_marks t (take c.loop-number.number c.loop-number.list) (marked c.loop-number.marks)) l) (sym e.same)
          (between_on n a D P A t (marked c.loop-number.marks) (take c.loop-number.number c.loop-number.list) (c.loop-number.invariant.2 n D P A k))),
    )
