-- `aspif_scan::scan::scan` meets its contract. Assumes nothing.
use Rattle.aspif_scan.specs.Scan.{numbers_in}
use Rattle.aspif_scan.specs.Marks.{marks_by}
use Rattle.aspif_scan.specs.Machine.{start_of, read_by}
use Rattle.text.proofs.Runs.{Starts}
use lib.ListN.{length, drop}
use mathlib.Core.Path.{◌≡◌}
use Prim.Native.Nat.{◌-◌}
use Rattle.aspif_scan.proofs.scan.scan.Given as goal

abbrev pub invariant-loop-at : goal.invariant-loop-at
invariant-loop-at l = Starts l.line l.at × (read_by l.s (numbers_in (drop l.at l.line)) ≡ read_by start_of (numbers_in l.line))
    × (marks_by l.s (numbers_in (drop l.at l.line)) l.marks ≡ marks_by start_of (numbers_in l.line) l.initial.marks)

abbrev pub decreases-loop-at : goal.decreases-loop-at
decreases-loop-at l = length l.line - l.at
