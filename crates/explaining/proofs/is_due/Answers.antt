-- `explaining::is_due` meets its contract: the three tests, one after the other. Assumes nothing.
use mathlib.Core.Path.{sym, ap, ◌∙◌}
use mathlib.Core.List.{List}
use native.Mathlib.Omega.{arith}
use lib.IntN.{ℤ}
use Rattle.meaning.specs.Lists.{all}
use Rattle.layout.specs.Layout.{atoms}
use Rattle.rounds.specs.Marks.{earlier}
use Rattle.rounds.specs.Rounds.{whys_in}
use Rattle.explaining.proofs.Arrays.{due_marked, due_open}
use Rattle.explaining.proofs.is_due.Goals as goal

pub returns-then-marks-i-ne0 : goal.returns-then-marks-i-ne0
returns-then-marks-i-ne0 c =
    let h = c.if-marks-i-ne0.true in
    sym (due_marked c.args.t.now c.args.round c.args.c c.args.marks.now c.if-c-eq0.false (λ z. omega (arith, h)))

pub returns : goal.returns
returns c =
    let h = c.if-marks-i-ne0.false in
    c.all_earlier.ensures
    ∙ ap (λ (l : List ℤ). all (earlier (whys_in c.args.marks.now) c.args.round) (atoms l)) c.part-positive.ensures
    ∙ sym (due_open c.args.t.now c.args.round c.args.c c.args.marks.now c.if-c-eq0.false (omega (arith, h)))
