-- `bytes_out::put` meets its contract. The invariant of its loop: to lay the bytes left from here is to lay all from the start. Assumes nothing.
use lib.ListN.{drop}
use Rattle.bytes_out.proofs.Laws.{Left}
use Rattle.bytes_out.proofs.put.Given as goal

abbrev pub invariant-loop-b : goal.invariant-loop-b
invariant-loop-b l = Left l.initial.out l.at l.text l.out l.to (drop l.b-index l.text)
