-- `aspif_aggregates::put_weights` meets its contract. The invariant of its loop: to lay the elements left from here is to lay all from the start. Assumes nothing.
use Prim.Native.Nat.{◌*◌}
use lib.ListN.{drop}
use Rattle.layout.specs.Layout.{pairs}
use Rattle.bytes_out.proofs.Laws.{Left}
use Rattle.aspif_parts.specs.Parts.{pairs_text, weights_by}
use Rattle.aspif_aggregates.proofs.put_weights.Given as goal

abbrev pub invariant-loop-j : goal.invariant-loop-j
invariant-loop-j l =
    Left l.initial.out l.at (pairs_text (weights_by l.test l.count (pairs l.l))) l.out l.to (pairs_text (weights_by l.test l.count (pairs (drop (2 * l.j) l.l))))
