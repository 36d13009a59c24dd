-- `heads::put_rules` meets its contract. The invariant of its loop: `done` rules are put into their lists, from the last on (`Placed`). Assumes nothing.
use lib.ListN.{drop}
use Rattle.heads.specs.Heads.{places_of}
use Rattle.heads.proofs.Placing.{Placed}
use Rattle.heads.proofs.put_rules.Given as goal

abbrev pub invariant-loop-last : goal.invariant-loop-last
invariant-loop-last l = Placed l.t.words.now l.fn.t.places (drop l.last (places_of l.t.words.now l.fn.t.places)) l.lists
