use Rattle.std.proofs.Common.{◌≤◌}
use Rattle.run_tables.proofs.print_all.Given as goal

abbrev pub invariant-loop-code : goal.invariant-loop-code
invariant-loop-code g l = l.found ≤ l.code
