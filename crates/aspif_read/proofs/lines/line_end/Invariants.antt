-- `aspif_read::lines::line_end` meets its contract. Assumes nothing.
use Rattle.aspif_read.specs.Survey.{line_length}
use lib.ListN.{drop}
use Prim.Native.Nat.{◌+◌}
use mathlib.Core.Path.{◌≡◌}
use Rattle.aspif_read.proofs.lines.line_end.Given as goal

abbrev pub invariant-loop-i : goal.invariant-loop-i
invariant-loop-i l = l.i + line_length (drop l.i l.text) ≡ l.from + line_length (drop l.from l.text)
