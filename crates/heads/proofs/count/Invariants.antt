-- `heads::count` meets its contract. The invariant of its loop: `counted` rules are counted, from the last on. Assumes nothing.
use lib.ListN.{drop}
use Rattle.heads.specs.Heads.{places_of, Counts}
use Rattle.heads.proofs.count.Given as goal

abbrev pub invariant-loop-r : goal.invariant-loop-r
invariant-loop-r l = Counts l.t.words.now l.fn.t.places (drop l.r (places_of l.t.words.now l.fn.t.places)) l.lists
