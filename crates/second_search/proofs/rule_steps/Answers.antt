-- `second_search::rule_steps` meets its contract. The invariant of its loop: what the reduct's rules from the i-th place on make of the arrays at hand is what all of them
-- make of the first ones, up to reasons. Assumes nothing.
use native.Mathlib.Omega.{arith}
use mathlib.Core.Path.{sym, ◌∙◌}
use lib.ListN.{get_or}
use Rattle.meaning.specs.Answers.{body}
use Rattle.interpretation.specs.State.{true_atoms}
use Rattle.interpretation.specs.View.{valued}
use Rattle.layout.specs.Layout.{rule_at, RuleLies}
use Rattle.layout.proofs.Inside.{rule_in_lem}
use Rattle.second_search.proofs.Sets.{asked_set}
use Rattle.second_search.proofs.Walking.{rules_nothing, rules_refuted, rules_set, rules_over}
use Rattle.second_search.proofs.rule_steps.Goals as goal
use Rattle.second_search.proofs.rule_steps.Goals.{in-Nothing, in-Set}

pub returns-in-Conflict : goal.returns-in-Conflict
returns-in-Conflict c =
    let a = c.args in
    let X = true_atoms a.t.now.places.atoms (valued a.candidate.now) in (
      c.loop-place.invariant.0,
      rules_refuted X a.t.now.words.now a.places.now c.loop-place.place-index a.level c.loop-place.values c.loop-place.levels c.loop-place.changed _ c.loop-place.invariant.1 c.loop-place-test.true (sym c.asked-step.ensures ∙ c.in-Conflict.is),
    )

pub set-requires : goal.set-requires
set-requires c =
    let a = c.args in
    let X = true_atoms a.t.now.places.atoms (valued a.candidate.now) in
    let i = get_or a.places.now c.loop-place.place-index 0 in
    let lies : RuleLies a.t.now.places.atoms a.t.now.places.aggregates a.t.now.words.now i = c.requires.0 c.loop-place.place-index c.loop-place-test.true in
    let L = c.args.t.now.laid in
    let h = (asked_set a.t.now.places.atoms (valued c.loop-place.values) (rule_at a.t.now.words.now i) (body X (rule_at a.t.now.words.now i)) c.in-Set.p c.in-Set.v
    (rule_in_lem a.t.now.words.now a.t.now.places L i lies) (sym c.asked-step.ensures ∙ c.in-Set.is)).1 in
    (h.0, omega (arith, h.1, L.few_atoms), c.loop-place.invariant.0)

pub loop-place-preserved : goal.loop-place-preserved
loop-place-preserved c =
    let a = c.args in
    let X = true_atoms a.t.now.places.atoms (valued a.candidate.now) in
    elim c.match-step.branch [
      | in-Nothing w ↦ rw (w.values-is, w.levels-is, w.changed-is) (c.loop-place.invariant.0, rules_nothing X a.t.now.words.now a.places.now c.loop-place.place-index a.level c.loop-place.values c.loop-place.levels c.loop-place.changed _ c.loop-place.invariant.1 c.loop-place-test.true (sym c.asked-step.ensures ∙ w.in-Nothing.is))
      | in-Set w ↦ rw (w.values-is, w.levels-is, w.changed-is) (w.set.ensures.0, rules_set X a.t.now.words.now a.places.now c.loop-place.place-index a.level c.loop-place.values c.loop-place.levels c.loop-place.changed _ c.loop-place.invariant.1 c.loop-place-test.true w.in-Set.p w.in-Set.v (sym c.asked-step.ensures ∙ w.in-Set.is) _ w.set.ensures.1)
    ]

pub returns : goal.returns
returns c =
    let a = c.args in
    let X = true_atoms a.t.now.places.atoms (valued a.candidate.now) in
    (c.loop-place.invariant.0, rules_over X a.t.now.words.now a.places.now c.loop-place.place-index a.level c.loop-place.values c.loop-place.levels c.loop-place.changed _ c.loop-place.invariant.1 c.loop-place-test.false)
