-- `text::printer::put` meets its contract. The invariant of its loop: the bytes passed have been put. Assumes nothing.
use lib.ListN.{take}
use Rattle.text.specs.Putting.{Put}
use Rattle.text.proofs.printer.put.Given as goal

abbrev pub invariant-loop-b : goal.invariant-loop-b
invariant-loop-b l = Put l.initial.out l.at (take l.b-index l.text) l.to l.out
