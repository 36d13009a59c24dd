-- `aspif_aggregates::passing` meets its contract. The invariant of its loop: those counted with those that pass among the elements left are all that pass. Assumes nothing.
use mathlib.Core.Path.{◌≡◌, sym, ap, ◌∙◌}
use mathlib.Core.Bool.{true, false}
use Prim.Native.Nat.{◌+◌, ◌*◌}
use native.Mathlib.Omega.{arith}
use Rattle.aspif_parts.specs.Parts.{passes_by}
use Rattle.aspif_parts.proofs.Elements.{passing_on, passing_off}
use Rattle.aspif_aggregates.proofs.passing.Goals as goal
use Rattle.aspif_aggregates.proofs.passing.Goals.{then-passes, else-passes}

pub loop-j-preserved : goal.loop-j-preserved
loop-j-preserved c =
    let a = c.args in
    let e = c.passes.ensures ∙ ap (passes_by a.test.comparison a.test.bound) c.atom.ensures in
    let i = 2 * c.loop-j.j in
    let k : 2 * (c.loop-j.j + 1) ≡ i + 2 = omega arith in
    elim c.if-passes.branch [
      | then-passes w ↦ let p = passing_on a.test a.l.now i c.loop-j.n true (omega arith) (sym w.if-passes.true ∙ e) in rw (w.n-is, k) (omega arith, p ∙ c.loop-j.invariant.1)
      | else-passes w ↦ let p = passing_on a.test a.l.now i c.loop-j.n false (omega arith) (sym w.if-passes.false ∙ e) in rw (w.n-is, k) (omega arith, omega arith)
    ]

pub returns : goal.returns
returns c =
    (sym (passing_off c.args.test c.args.l.now (2 * c.loop-j.j) c.loop-j.n (omega arith)) ∙ c.loop-j.invariant.1, omega arith)
