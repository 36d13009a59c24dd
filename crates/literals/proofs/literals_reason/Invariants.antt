-- `literals::literals_reason` meets its contract. Assumes nothing.
use mathlib.Core.Path.{◌≡◌}
use lib.ListN.{drop}
use Rattle.interpretation.specs.View.{valued}
use Rattle.levels.specs.Levels.{union}
use Rattle.levels.specs.View.{row, rows}
use Rattle.valuing.specs.Reasons.{reasons_of}
use Rattle.literals.specs.Scan.{literal_lits}
use Rattle.literals.proofs.literals_reason.Given as goal

abbrev pub invariant-loop-k : goal.invariant-loop-k
invariant-loop-k l =
    union (reasons_of (valued l.values) (rows l.reasons) (literal_lits l.t.words.now (drop l.k l.l))) (row l.acc) ≡ union (reasons_of (valued l.values) (rows l.reasons) (literal_lits l.t.words.now l.l)) (row l.fn.more)
