-- `support::witness_of` meets its contract. Assumes nothing.
use mathlib.Core.Path.{◌≡◌, sym, ap, ◌∙◌}
use mathlib.Core.List.{List}
use lib.IntN.{ℤ}
use Rattle.interpretation.specs.View.{valued}
use Rattle.layout.specs.Layout.{atoms, part_at}
use Rattle.support.specs.Asking.{values_of, other_true}
use Rattle.support.proofs.Lists.{witness_head, witness_body}
use Rattle.support.proofs.witness_of.Goals as goal

pub returns-in-Some : goal.returns-in-Some
returns-in-Some c =
    let headed : let a = c.args in
    c.other_true.result ≡ other_true (values_of (valued a.values.now)) a.p (atoms (part_at a.t.now.words.now a.at)) =
    let a = c.args in
    c.other_true.ensures ∙ ap (λ (l : List ℤ). other_true (values_of (valued a.values.now)) a.p (atoms l)) c.plain_part-head.ensures in
    let a = c.args in
    sym (witness_head (valued a.values.now) a.t.now.words.now a.at a.p c.in-Some.q (sym (headed) ∙ c.in-Some.is))

pub returns : goal.returns
returns c =
    let headed : let a = c.args in
    c.other_true.result ≡ other_true (values_of (valued a.values.now)) a.p (atoms (part_at a.t.now.words.now a.at)) =
    let a = c.args in
    c.other_true.ensures ∙ ap (λ (l : List ℤ). other_true (values_of (valued a.values.now)) a.p (atoms l)) c.plain_part-head.ensures in
    let a = c.args in
    c.body_witness.ensures ∙ sym (witness_body (valued a.values.now) a.t.now.words.now a.at a.p (sym (headed) ∙ c.in_default.is))
