-- `foundation::is_model` meets its contract. The invariant of its loop: the true atoms are a model of all rules exactly if they are one of the rules
-- from `at` on.
-- Assumes nothing.
use mathlib.Core.Path.{◌≡◌}
use Prim.Native.Nat.{◌-◌}
use Rattle.meaning.specs.Answers.{model}
use Rattle.interpretation.specs.State.{true_atoms}
use Rattle.interpretation.specs.View.{valued}
use Rattle.layout.specs.Layout.{rules_from, program_of, RulesLie}
use Rattle.foundation.proofs.is_model.Given as goal

abbrev pub invariant-loop : goal.invariant-loop
invariant-loop l =
    RulesLie l.t.places.atoms l.t.places.aggregates l.t.words.now l.at (l.t.places.rules - l.counter)
    × (model (rules_from l.t.words.now l.at (l.t.places.rules - l.counter)) (true_atoms l.t.places.atoms (valued l.values)) ≡ model (program_of l.t.words.now l.t.places) (true_atoms l.t.places.atoms (valued l.values)))
