-- `listing::write_row` meets its contract. The invariant of its loop: the first i bytes of the row are written. Assumes nothing.
use mathlib.Core.Path.{◌≡◌}
use lib.ListN.{length}
use Rattle.interpretation.specs.State.{true_atoms}
use Rattle.interpretation.specs.View.{valued}
use Rattle.listing.specs.Rows.{row_put}
use Rattle.listing.proofs.write_row.Given as goal

abbrev pub invariant-loop-i : goal.invariant-loop-i
invariant-loop-i l = (length l.rows ≡ length l.initial.rows) × (l.rows ≡ row_put (true_atoms l.n (valued l.values)) l.at l.i l.initial.rows)
