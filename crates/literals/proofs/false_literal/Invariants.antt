-- `literals::false_literal` meets its contract. Assumes nothing.
use mathlib.Core.Path.{◌≡◌}
use lib.ListN.{drop}
use Rattle.interpretation.specs.View.{valued}
use Rattle.literals.specs.Scan.{literal_lits, first_from, first_false}
use Rattle.literals.proofs.false_literal.Given as goal

abbrev pub invariant-loop-k : goal.invariant-loop-k
invariant-loop-k l = first_from (valued l.values) l.k (literal_lits l.t.words.now (drop l.k l.l)) ≡ first_false (valued l.values) (literal_lits l.t.words.now l.l)
