-- `table::grammar::rules_at` meets its contract. The invariant of its loop: the rules still to come, from `at` on, come to the same as all rules.
-- Assumes nothing.
use mathlib.Core.Path.{◌≡◌}
use Prim.Native.Nat.{◌-◌}
use lib.ListN.{drop}
use Rattle.table.specs.Roles.{run}
use Rattle.table.specs.Grammar.{times, rule}
use Rattle.table.specs.Places.{part_of}
use Rattle.table.proofs.grammar.rules_at.Given as goal

abbrev pub invariant-loop : goal.invariant-loop
invariant-loop l =
    part_of (run (times (l.n - l.counter) (rule l.top l.most)) l.at (drop l.at l.t)) ≡ part_of (run (times l.n (rule l.top l.most)) l.i (drop l.i l.t))
