-- `support::forced` meets its contract: its three lists one after the other. Assumes nothing.
use mathlib.Core.Path.{◌≡◌, sym, ap, ◌∙◌}
use mathlib.Core.List.{List}
use lib.IntN.{ℤ}
use Rattle.interpretation.specs.View.{valued}
use Rattle.interpretation.specs.declared.Value.TheVariants.{Undefined}
use Rattle.layout.specs.Layout.{atoms, part_at, past_at, pos_at, neg_at}
use Rattle.support.specs.Asking.{values_of, first_with}
use Rattle.support.proofs.Lists.{forced_head, forced_pos, forced_neg}
use Rattle.support.proofs.forced.Goals as goal

-- src/lib.rt:141:9
pub returns-in-Some : goal.returns-in-Some
returns-in-Some c =
    let first : let a = c.args in
    c.first_with.result ≡ first_with (values_of (valued a.values.now)) Undefined (atoms (part_at a.t.now.words.now a.at)) =
    let a = c.args in
    c.first_with.ensures ∙ ap (λ (l : List ℤ). first_with (values_of (valued a.values.now)) Undefined (atoms l)) c.plain_part-head.ensures in
    let a = c.args in
    sym (forced_head (valued a.values.now) a.t.now.words.now a.at c.in-Some.q (sym (first) ∙ c.in-Some.is))

-- src/lib.rt:146:9
pub returns-in-Some-first_with : goal.returns-in-Some-first_with
returns-in-Some-first_with c =
    let first : let a = c.args in
    c.first_with.result ≡ first_with (values_of (valued a.values.now)) Undefined (atoms (part_at a.t.now.words.now a.at)) =
    let a = c.args in
    c.first_with.ensures ∙ ap (λ (l : List ℤ). first_with (values_of (valued a.values.now)) Undefined (atoms l)) c.plain_part-head.ensures in
    let second : let a = c.args in
    c.first_with-2.result ≡ first_with (values_of (valued a.values.now)) Undefined (atoms (part_at a.t.now.words.now (pos_at a.t.now.words.now a.at))) =
    let a = c.args in
    c.first_with-2.ensures
    ∙ ap (λ (l : List ℤ). first_with (values_of (valued a.values.now)) Undefined (atoms l)) (c.plain_part-plain.ensures ∙ ap (part_at a.t.now.words.now) c.plain_past-second.ensures) in
    let a = c.args in
    sym (forced_pos (valued a.values.now) a.t.now.words.now a.at (sym (first) ∙ c.in_default.is) c.in-Some-first_with.q (sym (second) ∙ c.in-Some-first_with.is))

-- src/lib.rt:151:9
pub returns-in-Some-first_with-2 : goal.returns-in-Some-first_with-2
returns-in-Some-first_with-2 c =
    let first : let a = c.args in
    c.first_with.result ≡ first_with (values_of (valued a.values.now)) Undefined (atoms (part_at a.t.now.words.now a.at)) =
    let a = c.args in
    c.first_with.ensures ∙ ap (λ (l : List ℤ). first_with (values_of (valued a.values.now)) Undefined (atoms l)) c.plain_part-head.ensures in
    let second : let a = c.args in
    c.first_with-2.result ≡ first_with (values_of (valued a.values.now)) Undefined (atoms (part_at a.t.now.words.now (pos_at a.t.now.words.now a.at))) =
    let a = c.args in
    c.first_with-2.ensures
    ∙ ap (λ (l : List ℤ). first_with (values_of (valued a.values.now)) Undefined (atoms l)) (c.plain_part-plain.ensures ∙ ap (part_at a.t.now.words.now) c.plain_past-second.ensures) in
    let neg-place : let a = c.args in
    c.plain_past-third.result ≡ neg_at a.t.now.words.now a.at =
    let a = c.args in
    c.plain_past-third.ensures ∙ ap (past_at a.t.now.words.now) c.plain_past-second.ensures in
    let third : let a = c.args in
    c.first_with-3.result ≡ first_with (values_of (valued a.values.now)) Undefined (atoms (part_at a.t.now.words.now (neg_at a.t.now.words.now a.at))) =
    let a = c.args in
    c.first_with-3.ensures
    ∙ ap (λ (l : List ℤ). first_with (values_of (valued a.values.now)) Undefined (atoms l)) (c.plain_part-negated.ensures ∙ ap (part_at a.t.now.words.now) (neg-place)) in
    let a = c.args in
    sym (forced_neg (valued a.values.now) a.t.now.words.now a.at (sym (first) ∙ c.in_default.is) (sym (second) ∙ c.in_default-first_with.is)
    _ (sym (third) ∙ c.in-Some-first_with-2.is))

-- src/lib.rt:135:1
pub returns : goal.returns
returns c =
    let first : let a = c.args in
    c.first_with.result ≡ first_with (values_of (valued a.values.now)) Undefined (atoms (part_at a.t.now.words.now a.at)) =
    let a = c.args in
    c.first_with.ensures ∙ ap (λ (l : List ℤ). first_with (values_of (valued a.values.now)) Undefined (atoms l)) c.plain_part-head.ensures in
    let second : let a = c.args in
    c.first_with-2.result ≡ first_with (values_of (valued a.values.now)) Undefined (atoms (part_at a.t.now.words.now (pos_at a.t.now.words.now a.at))) =
    let a = c.args in
    c.first_with-2.ensures
    ∙ ap (λ (l : List ℤ). first_with (values_of (valued a.values.now)) Undefined (atoms l)) (c.plain_part-plain.ensures ∙ ap (part_at a.t.now.words.now) c.plain_past-second.ensures) in
    let neg-place : let a = c.args in
    c.plain_past-third.result ≡ neg_at a.t.now.words.now a.at =
    let a = c.args in
    c.plain_past-third.ensures ∙ ap (past_at a.t.now.words.now) c.plain_past-second.ensures in
    let third : let a = c.args in
    c.first_with-3.result ≡ first_with (values_of (valued a.values.now)) Undefined (atoms (part_at a.t.now.words.now (neg_at a.t.now.words.now a.at))) =
    let a = c.args in
    c.first_with-3.ensures
    ∙ ap (λ (l : List ℤ). first_with (values_of (valued a.values.now)) Undefined (atoms l)) (c.plain_part-negated.ensures ∙ ap (part_at a.t.now.words.now) (neg-place)) in
    let a = c.args in
    sym (forced_neg (valued a.values.now) a.t.now.words.now a.at (sym (first) ∙ c.in_default.is) (sym (second) ∙ c.in_default-first_with.is)
    _ (sym (third) ∙ c.in_default-first_with-2.is))
