-- `show::parts::put_elements` meets its contract. The invariant of its loop: to lay the elements left from here is to lay all from the start. Assumes nothing.
use mathlib.Core.Bool.{false}
use mathlib.Core.List.{map}
use Prim.Native.Nat.{◌*◌}
use lib.ListN.{drop}
use Rattle.layout.specs.Layout.{pairs}
use Rattle.bytes_out.proofs.Laws.{Left}
use Rattle.notation.specs.Notation.{comma, joined_from, element_text}
use Rattle.show.proofs.parts.put_elements.Given as goal

abbrev pub invariant-loop-j : goal.invariant-loop-j
invariant-loop-j l =
    Left l.initial.out l.at (joined_from comma false (map element_text (pairs l.l))) l.out l.to (joined_from comma l.follows (map element_text (pairs (drop (2 * l.j) l.l))))
