-- `foundation::is_model` meets its contract. The invariant of its loop: the true atoms are a model of all rules exactly if they are one of the rules
-- from `at` on.
-- Assumes nothing.
use mathlib.Core.Path.{◌≡◌, sym, ap, subst, ◌∙◌}
use Prim.Native.Nat.{ℕ, ◌+◌, ◌-◌, ◌<◌}
use native.Mathlib.Omega.{arith}
use Rattle.std.proofs.Common.{rules}
use Rattle.meaning.specs.Answers.{model}
use Rattle.interpretation.specs.State.{true_atoms}
use Rattle.interpretation.specs.View.{valued}
use Rattle.layout.specs.Layout.{rules_from, program_of, RulesLie}
use Rattle.layout.proofs.Rounds.{lies_on}
use Rattle.rules.specs.declared.Step.TheVariants.{Conflict}
use Rattle.rules.specs.Demand.{is_conflict}
use Rattle.foundation.proofs.Rules.{model_fails, model_on, model_none}
use mathlib.Core.Bool.{false}
use Rattle.rules.proofs.Asks.{conflict_other}
use Rattle.foundation.proofs.is_model.Goals as goal

pub demand-requires : goal.demand-requires
demand-requires c =
    let a = c.args in
    let left : 0 < a.t.now.places.rules - c.loop.counter = omega arith in
    (lies_on a.t.now.words.now c.loop.at a.t.now.places.atoms a.t.now.places.aggregates (a.t.now.places.rules - c.loop.counter) left c.loop.invariant.0).0

pub returns-then-eq : goal.returns-then-eq
returns-then-eq c =
    let a = c.args in
    let n = a.t.now.places.rules - c.loop.counter in
    let left : 0 < n = omega arith in
    let told : c.demand.result ≡ Conflict = search rules in
    sym (model_fails a.t.now.words.now c.loop.at a.t.now.places c.args.t.now.laid (valued a.values.now) c.requires (lies_on a.t.now.words.now c.loop.at a.t.now.places.atoms a.t.now.places.aggregates n left c.loop.invariant.0).0 n left (ap is_conflict (sym c.demand.ensures ∙ told)))
    ∙ c.loop.invariant.1

pub past_rule-at-requires : goal.past_rule-at-requires
past_rule-at-requires c =
    let a = c.args in
    let left : 0 < a.t.now.places.rules - c.loop.counter = omega arith in
    (lies_on a.t.now.words.now c.loop.at a.t.now.places.atoms a.t.now.places.aggregates (a.t.now.places.rules - c.loop.counter) left c.loop.invariant.0).0.aggs.fits

pub loop-preserved : goal.loop-preserved
loop-preserved c =
    let a = c.args in
    let n = a.t.now.places.rules - c.loop.counter in
    let left : 0 < n = omega arith in
    let lies = lies_on a.t.now.words.now c.loop.at a.t.now.places.atoms a.t.now.places.aggregates n left c.loop.invariant.0 in
    let holds : is_conflict c.demand.result ≡ false = conflict_other c.demand.result (λ e. search rules) in
    let e = c.past_rule-at.ensures in
    let s : n - 1 ≡ a.t.now.places.rules - (c.loop.counter + 1) = omega arith in
    subst (λ (m : ℕ). RulesLie a.t.now.places.atoms a.t.now.places.aggregates a.t.now.words.now c.past_rule-at.result m × (model (rules_from a.t.now.words.now c.past_rule-at.result m) (true_atoms a.t.now.places.atoms (valued a.values.now)) ≡ model (program_of a.t.now.words.now a.t.now.places) (true_atoms a.t.now.places.atoms (valued a.values.now)))) s (
      subst (λ (j : ℕ). RulesLie a.t.now.places.atoms a.t.now.places.aggregates a.t.now.words.now j (n - 1)) (sym e) lies.1,
      ap (λ (j : ℕ). model (rules_from a.t.now.words.now j (n - 1)) (true_atoms a.t.now.places.atoms (valued a.values.now))) e
          ∙ sym (model_on a.t.now.words.now c.loop.at a.t.now.places c.args.t.now.laid (valued a.values.now) c.requires lies.0 n left (ap is_conflict (sym c.demand.ensures) ∙ holds))
          ∙ c.loop.invariant.1,
    )

pub returns : goal.returns
returns c =
    let a = c.args in
    sym (model_none a.t.now.words.now c.loop.at (true_atoms a.t.now.places.atoms (valued a.values.now)) (a.t.now.places.rules - c.loop.counter) (omega arith)) ∙ c.loop.invariant.1
