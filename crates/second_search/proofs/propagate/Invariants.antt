-- `second_search::propagate` meets its contract. The invariant of its loop: the passes that are left come, from the arrays at hand, to what all passes come to, up
-- to reasons. Assumes nothing.
use Prim.Native.Nat.{suc, ◌-◌}
use mathlib.Core.Bool.{false}
use mathlib.Core.List.{map}
use Rattle.meaning.specs.Answers.{reduct}
use Rattle.interpretation.specs.State.{true_atoms}
use Rattle.interpretation.specs.View.{valued}
use Rattle.layout.specs.Layout.{rule_at}
use Rattle.steps.specs.Steps.{passes}
use Rattle.second_search.specs.Looking.{Like, cells_at, work_of, Whole}
use Rattle.second_search.proofs.propagate.Given as goal

abbrev pub invariant-loop-pass : goal.invariant-loop-pass
invariant-loop-pass l =
    Whole l.values l.levels
    × Like (passes (reduct (map (rule_at l.t.words.now) l.places) (true_atoms l.t.places.atoms (valued l.candidate))) 0 (suc l.t.places.atoms - l._pass) (work_of l.level (cells_at l.values l.levels) l.changed false))
    (passes (reduct (map (rule_at l.t.words.now) l.places) (true_atoms l.t.places.atoms (valued l.candidate))) 0 (suc l.t.places.atoms) (work_of l.level (cells_at l.initial.values l.initial.levels) false false))
