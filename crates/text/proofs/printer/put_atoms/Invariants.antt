-- `text::printer::put_atoms` meets its contract. The invariant of its loop: the atoms passed have been put. Assumes nothing.
use lib.ListN.{take}
use Rattle.text.specs.Line.{atoms_from}
use Rattle.text.specs.Putting.{Put}
use Rattle.text.proofs.printer.put_atoms.Given as goal

abbrev pub invariant-loop-i : goal.invariant-loop-i
invariant-loop-i l = Put l.initial.out l.at (atoms_from 1 (take l.i l.shown)) l.to l.out
