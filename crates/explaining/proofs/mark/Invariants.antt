-- `explaining::mark` meets its contract. The invariant of its loop: the marks are those of the rounds so far. A round that adds nothing is the last one.
-- Assumes nothing.
use mathlib.Core.Path.{◌≡◌}
use Rattle.interpretation.specs.State.{true_atoms}
use Rattle.interpretation.specs.View.{valued}
use Rattle.layout.specs.Layout.{program_of}
use Rattle.rounds.specs.Marks.{marks_after}
use Rattle.rounds.specs.Rounds.{whys_in}
use Rattle.explaining.proofs.mark.Given as goal

abbrev pub invariant-loop-k : goal.invariant-loop-k
invariant-loop-k l =
    whys_in l.marks ≡ marks_after (program_of l.t.words.now l.t.places) (true_atoms l.t.places.atoms (valued l.values)) l.k
