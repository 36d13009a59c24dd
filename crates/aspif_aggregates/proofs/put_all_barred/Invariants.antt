-- `aspif_aggregates::put_all_barred` meets its contract. The invariant of its loop: to lay the elements left from here is to lay all from the start. Assumes nothing.
use Prim.Native.Nat.{◌*◌}
use lib.ListN.{drop}
use Rattle.layout.specs.Layout.{pairs}
use Rattle.bytes_out.proofs.Laws.{Left}
use Rattle.aspif_parts.specs.Parts.{literals_text, barred_by, AtomsFrom1}
use Rattle.aspif_aggregates.proofs.put_all_barred.Given as goal

abbrev pub invariant-loop-j : goal.invariant-loop-j
invariant-loop-j l =
    AtomsFrom1 (drop (2 * l.j) l.l) × Left l.initial.out l.at (literals_text (barred_by l.test (pairs l.l))) l.out l.to (literals_text (barred_by l.test (pairs (drop (2 * l.j) l.l))))
