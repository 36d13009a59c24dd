-- `foundation::could_add` meets its contract: the only true head atom, where there is one, if the rest of the body is true. Assumes nothing.
use mathlib.Core.Path.{sym, ap, ◌∙◌}
use mathlib.Core.Bool.{Bool}
use mathlib.Core.List.{List}
use lib.IntN.{ℤ}
use Rattle.interpretation.specs.View.{valued}
use Rattle.layout.specs.Layout.{atoms}
use Rattle.foundation.specs.Walk.{add_if, sole_of}
use Rattle.foundation.proofs.Reading.{could_none, could_atom, then_if}
use Rattle.foundation.proofs.could_add.Goals as goal

pub returns-in_err-p : goal.returns-in_err-p
returns-in_err-p c =
    let a = valued c.args.values.now in
    let found = ap (λ (l : List ℤ). sole_of a (atoms l)) (sym c.part-head.ensures) in
    c.from_residual.ensures ∙ sym (could_none a c.args.t.now.words.now c.args.at (found ∙ sym c.sole.ensures ∙ c.in_err-p.was))

pub returns : goal.returns
returns c =
    let a = valued c.args.values.now in
    let found = ap (λ (l : List ℤ). sole_of a (atoms l)) (sym c.part-head.ensures) in
    c.then_some.ensures
    ∙ then_if c.rest_true.result c.in_ok-p.p
    ∙ ap (λ (b : Bool). add_if b c.in_ok-p.p) c.rest_true.ensures
    ∙ sym (could_atom a c.args.t.now.words.now c.args.at c.in_ok-p.p (found ∙ sym c.sole.ensures ∙ c.in_ok-p.was))
