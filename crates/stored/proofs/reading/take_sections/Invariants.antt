-- `stored::reading::take_sections` meets its contract. The invariant of its loop is `Taking`; the measure is the number of bytes left. Assumes nothing.
use Prim.Native.Nat.{◌-◌}
use lib.ListN.{length}
use Rattle.stored.proofs.Scanning.{Taking}
use Rattle.stored.proofs.reading.take_sections.Given as goal

abbrev pub invariant-loop-what : goal.invariant-loop-what
invariant-loop-what l = Taking l.bytes l.top l.at l.initial.words l.words l.to l.k l.point

abbrev pub decreases-loop-what : goal.decreases-loop-what
decreases-loop-what l = length l.bytes - l.to
