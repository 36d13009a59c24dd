-- `second_search::rule_steps` meets its contract. The invariant of its loop: what the reduct's rules from the i-th place on make of the arrays at hand is what all of them
-- make of the first ones, up to reasons. Assumes nothing.
use mathlib.Core.Bool.{false}
use mathlib.Core.List.{map}
use lib.ListN.{drop}
use Rattle.meaning.specs.Answers.{reduct}
use Rattle.interpretation.specs.State.{true_atoms}
use Rattle.interpretation.specs.View.{valued}
use Rattle.layout.specs.Layout.{rule_at}
use Rattle.steps.specs.Steps.{rule_pass, pass}
use Rattle.second_search.specs.Looking.{Like, cells_at, work_of, Whole}
use Rattle.second_search.proofs.rule_steps.Given as goal

abbrev pub invariant-loop-place : goal.invariant-loop-place
invariant-loop-place l =
    Whole l.values l.levels
    × Like (rule_pass (reduct (map (rule_at l.t.words.now) (drop l.place-index l.places)) (true_atoms l.t.places.atoms (valued l.candidate))) (work_of l.level (cells_at l.values l.levels) l.changed false))
    (pass (reduct (map (rule_at l.t.words.now) l.places) (true_atoms l.t.places.atoms (valued l.candidate))) 0 (work_of l.level (cells_at l.initial.values l.initial.levels) false false))
