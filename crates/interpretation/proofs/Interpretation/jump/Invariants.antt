-- `interpretation::Interpretation::jump` meets its contract. Assumes nothing.
use mathlib.Core.Path.{◌≡◌}
use lib.ListN.{length}
use Rattle.interpretation.specs.View.{cells}
use Rattle.interpretation.proofs.Laws.{partly}
use Rattle.interpretation.proofs.Interpretation.jump.Given as goal

abbrev pub invariant-loop-i : goal.invariant-loop-i
invariant-loop-i l =
    (length l.self.values ≡ 256) × (length l.self.records ≡ 256) × (l.self.chosen ≡ l.initial.self.chosen) × (l.self.depth ≡ l.initial.self.depth) × (cells l.self.values l.self.records ≡ partly l.m l.i (cells l.initial.self.values l.initial.self.records))
