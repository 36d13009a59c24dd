-- `support::body_witness` meets its contract. Assumes nothing.
use mathlib.Core.Path.{◌≡◌, sym, ap, ◌∙◌}
use mathlib.Core.List.{List}
use lib.IntN.{ℤ}
use Rattle.interpretation.specs.View.{valued}
use Rattle.interpretation.specs.declared.Value.TheVariants.{True, False}
use Rattle.layout.specs.Layout.{atoms, part_at, past_at, pos_at, neg_at, aggs_at}
use Rattle.literals.specs.Scan.{literal_lits, first_false}
use Rattle.support.specs.Asking.{values_of, first_with, refuted_by}
use Rattle.support.proofs.Lists.{body_pos, body_neg, body_aggs}
use Rattle.support.proofs.body_witness.Goals as goal

pub returns-in-Some : goal.returns-in-Some
returns-in-Some c =
    let first : let a = c.args in
    c.first_with.result ≡ first_with (values_of (valued a.values.now)) False (atoms (part_at a.t.now.words.now (pos_at a.t.now.words.now a.at))) =
    let a = c.args in
    c.first_with.ensures
    ∙ ap (λ (l : List ℤ). first_with (values_of (valued a.values.now)) False (atoms l)) (c.plain_part-plain.ensures ∙ ap (part_at a.t.now.words.now) c.plain_past-second.ensures) in
    let a = c.args in
    sym (body_pos (valued a.values.now) a.t.now.words.now a.at c.in-Some.q (sym (first) ∙ c.in-Some.is))

pub returns-in-Some-first_with : goal.returns-in-Some-first_with
returns-in-Some-first_with c =
    let first : let a = c.args in
    c.first_with.result ≡ first_with (values_of (valued a.values.now)) False (atoms (part_at a.t.now.words.now (pos_at a.t.now.words.now a.at))) =
    let a = c.args in
    c.first_with.ensures
    ∙ ap (λ (l : List ℤ). first_with (values_of (valued a.values.now)) False (atoms l)) (c.plain_part-plain.ensures ∙ ap (part_at a.t.now.words.now) c.plain_past-second.ensures) in
    let neg-place : let a = c.args in c.plain_past-third.result ≡ neg_at a.t.now.words.now a.at = let a = c.args in c.plain_past-third.ensures ∙ ap (past_at a.t.now.words.now) c.plain_past-second.ensures in
    let second : let a = c.args in
    c.first_with-2.result ≡ first_with (values_of (valued a.values.now)) True (atoms (part_at a.t.now.words.now (neg_at a.t.now.words.now a.at))) =
    let a = c.args in
    c.first_with-2.ensures
    ∙ ap (λ (l : List ℤ). first_with (values_of (valued a.values.now)) True (atoms l)) (c.plain_part-negated.ensures ∙ ap (part_at a.t.now.words.now) (neg-place)) in
    let a = c.args in
    sym (body_neg (valued a.values.now) a.t.now.words.now a.at (sym (first) ∙ c.in_default.is) c.in-Some-first_with.q (sym (second) ∙ c.in-Some-first_with.is))

pub returns : goal.returns
returns c =
    let neg-place : let a = c.args in c.plain_past-third.result ≡ neg_at a.t.now.words.now a.at = let a = c.args in c.plain_past-third.ensures ∙ ap (past_at a.t.now.words.now) c.plain_past-second.ensures in
    let aggs-place : let a = c.args in c.plain_past-fourth.result ≡ aggs_at a.t.now.words.now a.at = let a = c.args in c.plain_past-fourth.ensures ∙ ap (past_at a.t.now.words.now) (neg-place) in
    let third : let a = c.args in
    c.false_literal.result ≡ refuted_by (first_false (valued a.values.now) (literal_lits a.t.now.words.now (part_at a.t.now.words.now (aggs_at a.t.now.words.now a.at)))) =
    let a = c.args in
    c.false_literal.ensures
    ∙ ap (λ (l : List ℤ). refuted_by (first_false (valued a.values.now) (literal_lits a.t.now.words.now l))) (c.part-aggregates.ensures ∙ ap (part_at a.t.now.words.now) (aggs-place)) in
    let first : let a = c.args in
    c.first_with.result ≡ first_with (values_of (valued a.values.now)) False (atoms (part_at a.t.now.words.now (pos_at a.t.now.words.now a.at))) =
    let a = c.args in
    c.first_with.ensures
    ∙ ap (λ (l : List ℤ). first_with (values_of (valued a.values.now)) False (atoms l)) (c.plain_part-plain.ensures ∙ ap (part_at a.t.now.words.now) c.plain_past-second.ensures) in
    let second : let a = c.args in
    c.first_with-2.result ≡ first_with (values_of (valued a.values.now)) True (atoms (part_at a.t.now.words.now (neg_at a.t.now.words.now a.at))) =
    let a = c.args in
    c.first_with-2.ensures
    ∙ ap (λ (l : List ℤ). first_with (values_of (valued a.values.now)) True (atoms l)) (c.plain_part-negated.ensures ∙ ap (part_at a.t.now.words.now) (neg-place)) in
    let a = c.args in
    third
    ∙ sym (body_aggs (valued a.values.now) a.t.now.words.now a.at (sym (first) ∙ c.in_default.is) (sym (second) ∙ c.in_default-first_with.is))
