-- `table::grammar::members_at` meets its contract. The invariant of its loop: the members still to come, from `at` on, come to the same as all
-- members. Assumes nothing.
use mathlib.Core.Path.{◌≡◌}
use Prim.Native.Nat.{◌-◌}
use lib.ListN.{drop}
use Rattle.table.specs.Roles.{run}
use Rattle.table.specs.Grammar.{members}
use Rattle.table.specs.Places.{part_of}
use Rattle.table.proofs.grammar.members_at.Given as goal

abbrev pub invariant-loop : goal.invariant-loop
invariant-loop l =
    part_of (run (members l.signed l.top l.previous (l.n - l.counter)) l.at (drop l.at l.t)) ≡ part_of (run (members l.signed l.top 0 l.n) l.i (drop l.i l.t))
