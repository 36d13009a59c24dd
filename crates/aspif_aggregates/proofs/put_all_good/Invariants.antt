-- `aspif_aggregates::put_all_good` meets its contract. The invariant of its loop: to lay the lines of the elements left from here is to lay all from the start. Assumes nothing.
use Prim.Native.Nat.{◌*◌}
use lib.ListN.{drop}
use Rattle.layout.specs.Layout.{pairs}
use Rattle.bytes_out.proofs.Laws.{Left}
use Rattle.aspif_parts.specs.Parts.{lines_text, element_bodies, stating_all}
use Rattle.aspif_aggregates.proofs.put_all_good.Given as goal

abbrev pub invariant-loop-j : goal.invariant-loop-j
invariant-loop-j l =
    Left l.initial.out l.at (lines_text (stating_all l.p (element_bodies l.good l.bad (pairs l.l) (pairs l.l)))) l.out l.to (lines_text (stating_all l.p (element_bodies l.good l.bad (pairs l.l) (pairs (drop (2 * l.j) l.l)))))
