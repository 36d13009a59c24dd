-- `plain::passes::rule_steps` meets its contract. The invariant of its loop: what the rules from `at` on make of the pass is like what all rules make of the first
-- one. A conflict ends the code's loop at once, and the defined steps do nothing after it.
-- Assumes nothing.
use Prim.Native.Nat.{◌-◌}
use mathlib.Core.Path.{◌≡◌}
use mathlib.Core.Bool.{false}
use Rattle.layout.specs.Layout.{rules_from, program_of, RulesLie}
use Rattle.steps.specs.Steps.{rule_pass}
use Rattle.plain.specs.Passes.{Like, work_of}
use Rattle.plain.proofs.passes.rule_steps.Given as goal

abbrev pub invariant-loop-rule : goal.invariant-loop-rule
invariant-loop-rule l =
    RulesLie l.t.places.atoms l.t.places.aggregates l.t.words.now l.at (l.t.places.rules - l._rule) × (l.side.conflict ≡ false)
    × Like (rule_pass (rules_from l.t.words.now l.at (l.t.places.rules - l._rule)) (work_of l.side)) (rule_pass (program_of l.t.words.now l.t.places) (work_of l.initial.side)) × (l.side.choices ≡ l.initial.side.choices)
