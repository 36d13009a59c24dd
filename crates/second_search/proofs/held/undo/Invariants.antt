-- `second_search::held::undo` meets its contract. The invariant of its loop: the cells up to index i are undone, the others as they were. Assumes nothing.
use mathlib.Core.Path.{◌≡◌}
use Rattle.interpretation.proofs.Laws.{partly}
use Rattle.second_search.specs.Looking.{cells_at, Whole}
use Rattle.second_search.proofs.held.undo.Given as goal

abbrev pub invariant-loop-i : goal.invariant-loop-i
invariant-loop-i l = Whole l.values l.levels × (cells_at l.values l.levels ≡ partly l.m l.i (cells_at l.initial.values l.initial.levels))
