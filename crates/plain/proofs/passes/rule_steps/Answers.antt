-- `plain::passes::rule_steps` meets its contract. The invariant of its loop: what the rules from `at` on make of the pass is like what all rules make of the first
-- one. A conflict ends the code's loop at once, and the defined steps do nothing after it.
-- Assumes nothing.
use Prim.Native.Nat.{ℕ, ◌+◌, ◌-◌, ◌≤◌}
use native.Mathlib.Omega.{arith}
use mathlib.Core.Path.{◌≡◌, sym, ◌∙◌, subst}
use Rattle.plain.proofs.passes.rule_steps.Goals.{in-Nothing, in-Set}
use mathlib.Core.Bool.{true}
use Rattle.interpretation.specs.View.{valued}
use Rattle.layout.specs.Layout.{past_rule, rule_at, rules_from, program_of, RuleLies, RulesLie}
use Rattle.layout.proofs.Rounds.{lies_on}
use Rattle.layout.proofs.Inside.{rule_in_lem}
use Rattle.steps.specs.Steps.{rule_pass, step_rule, rule_reason}
use Rattle.rules.proofs.Rule.{demand_open}
use Rattle.plain.specs.declared.passes.Side.{Side}
use Rattle.plain.specs.Passes.{Like, work_of}
use Rattle.plain.proofs.Stepping.{Stepped, moved, refuted_like, rule_nothing, rule_refutes, rule_sets}
use Rattle.plain.proofs.Walking.{rules_next, rules_end, rules_over}
use Rattle.plain.proofs.passes.rule_steps.Goals as goal

pub demand-step-requires : goal.demand-step-requires
demand-step-requires c =
    let lies : let a = c.args in
    RuleLies a.t.now.places.atoms a.t.now.places.aggregates a.t.now.words.now c.loop-rule.at
    × RulesLie a.t.now.places.atoms a.t.now.places.aggregates a.t.now.words.now (past_rule a.t.now.words.now c.loop-rule.at) (c.args.t.now.places.rules - c.loop-rule._rule - 1) = let a = c.args in lies_on a.t.now.words.now c.loop-rule.at a.t.now.places.atoms a.t.now.places.aggregates (c.args.t.now.places.rules - c.loop-rule._rule) (omega (arith, c.loop-rule-test.true)) c.loop-rule.invariant.0 in
    lies.0

pub set-side-requires : goal.set-side-requires
set-side-requires c =
    let lies : let a = c.args in
    RuleLies a.t.now.places.atoms a.t.now.places.aggregates a.t.now.words.now c.loop-rule.at
    × RulesLie a.t.now.places.atoms a.t.now.places.aggregates a.t.now.words.now (past_rule a.t.now.words.now c.loop-rule.at) (c.args.t.now.places.rules - c.loop-rule._rule - 1) = let a = c.args in lies_on a.t.now.words.now c.loop-rule.at a.t.now.places.atoms a.t.now.places.aggregates (c.args.t.now.places.rules - c.loop-rule._rule) (omega (arith, c.loop-rule-test.true)) c.loop-rule.invariant.0 in
    let aim : (1 ≤ c.in-Set.p) × (c.in-Set.p ≤ 256) =
    let a = c.args in
    let L = c.args.t.now.laid in
    let h = (demand_open a.t.now.places.atoms (valued c.loop-rule.side.values) (rule_at a.t.now.words.now c.loop-rule.at) c.in-Set.p c.in-Set.v
    (rule_in_lem a.t.now.words.now a.t.now.places L c.loop-rule.at lies.0) (sym c.demand-step.ensures ∙ c.in-Set.is)).1 in
    (h.0, omega (arith, h.1, L.few_atoms)) in
    aim

-- a conflict
pub returns-in-Conflict : goal.returns-in-Conflict
returns-in-Conflict c =
    let t = c.args.t.now.words.now in
    let s = c.loop-rule.side in
    let free = c.loop-rule.invariant.1 in
    let rule = rule_at t c.loop-rule.at in
    record {
      like =
          rules_end t c.loop-rule.at (c.args.t.now.places.rules - c.loop-rule._rule) (work_of s) _ c.loop-rule.invariant.2 (omega (arith, c.loop-rule-test.true)) (record { values = s.values; choices = s.choices; changed = s.changed; conflict = true }) (rule_reason rule (work_of s))
          (rule_refutes s free rule (sym c.demand-step.ensures ∙ c.in-Conflict.is)) (refuted_like s free (rule_reason rule (work_of s)));
      kept = c.loop-rule.invariant.3;
    }

pub past_rule-at-requires : goal.past_rule-at-requires
past_rule-at-requires c =
    let lies : let a = c.args in
    RuleLies a.t.now.places.atoms a.t.now.places.aggregates a.t.now.words.now c.loop-rule.at
    × RulesLie a.t.now.places.atoms a.t.now.places.aggregates a.t.now.words.now (past_rule a.t.now.words.now c.loop-rule.at) (c.args.t.now.places.rules - c.loop-rule._rule - 1) = let a = c.args in lies_on a.t.now.words.now c.loop-rule.at a.t.now.places.atoms a.t.now.places.aggregates (c.args.t.now.places.rules - c.loop-rule._rule) (omega (arith, c.loop-rule-test.true)) c.loop-rule.invariant.0 in
    lies.0.aggs.fits

pub loop-rule-preserved : goal.loop-rule-preserved
loop-rule-preserved c =
    let Came : Side → Type 0 = λ s. Stepped c.loop-rule.side s (step_rule (rule_at c.args.t.now.words.now c.loop-rule.at) (work_of c.loop-rule.side)) in
    let came : Came c.match-step.side =
    let s = c.loop-rule.side in
    let free = c.loop-rule.invariant.1 in
    let rule = rule_at c.args.t.now.words.now c.loop-rule.at in
    elim c.match-step.branch [
      | in-Nothing w ↦ moved w.side-is (rule_nothing s free rule (sym c.demand-step.ensures ∙ w.in-Nothing.is))
      | in-Set w ↦ moved w.side-is (rule_sets s free rule w.in-Set.p w.in-Set.v w.set-side.result (sym c.demand-step.ensures ∙ w.in-Set.is) w.set-side.ensures)
    ] in
    let lies : let a = c.args in
    RuleLies a.t.now.places.atoms a.t.now.places.aggregates a.t.now.words.now c.loop-rule.at
    × RulesLie a.t.now.places.atoms a.t.now.places.aggregates a.t.now.words.now (past_rule a.t.now.words.now c.loop-rule.at) (c.args.t.now.places.rules - c.loop-rule._rule - 1) = let a = c.args in lies_on a.t.now.words.now c.loop-rule.at a.t.now.places.atoms a.t.now.places.aggregates (c.args.t.now.places.rules - c.loop-rule._rule) (omega (arith, c.loop-rule-test.true)) c.loop-rule.invariant.0 in
    let a = c.args in
    let t = a.t.now.words.now in
    let x = came in
    let e = c.past_rule-at.ensures in
    let less : a.t.now.places.rules - (c.loop-rule._rule + 1) ≡ a.t.now.places.rules - c.loop-rule._rule - 1 = omega arith in (
      subst (λ (j : ℕ). RulesLie a.t.now.places.atoms a.t.now.places.aggregates t j (a.t.now.places.rules - (c.loop-rule._rule + 1))) (sym e) (subst (RulesLie a.t.now.places.atoms a.t.now.places.aggregates t (past_rule t c.loop-rule.at)) (sym less) lies.1),
      x.free,
      subst (λ (k : ℕ). Like (rule_pass (rules_from t c.past_rule-at.result k) (work_of c.match-step.side)) (rule_pass (program_of t a.t.now.places) (work_of a.side))) (sym less)
          (subst (λ (j : ℕ). Like (rule_pass (rules_from t j (a.t.now.places.rules - c.loop-rule._rule - 1)) (work_of c.match-step.side)) (rule_pass (program_of t a.t.now.places) (work_of a.side))) (sym e)
          (rules_next t c.loop-rule.at (c.args.t.now.places.rules - c.loop-rule._rule) (work_of c.loop-rule.side) _ c.loop-rule.invariant.2 (omega (arith, c.loop-rule-test.true)) c.match-step.side x.like)),
      x.kept ∙ c.loop-rule.invariant.3,
    )

pub returns : goal.returns
returns c =
    record { like = rules_over c.args.t.now.words.now c.loop-rule.at (c.args.t.now.places.rules - c.loop-rule._rule) (work_of c.loop-rule.side) _ c.loop-rule.invariant.2 (omega (arith, c.loop-rule-test.false)); kept = c.loop-rule.invariant.3 }
