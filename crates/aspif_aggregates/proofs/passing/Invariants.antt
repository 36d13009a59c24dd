-- `aspif_aggregates::passing` meets its contract. The invariant of its loop: those counted with those that pass among the elements left are all that pass. Assumes nothing.
use mathlib.Core.Path.{◌≡◌}
use Prim.Native.Nat.{◌+◌, ◌*◌, ◌≤◌}
use lib.ListN.{length, drop}
use Rattle.meaning.specs.Lists.{keep}
use Rattle.layout.specs.Layout.{pairs}
use Rattle.aspif_parts.specs.Parts.{pass_of}
use Rattle.aspif_aggregates.proofs.passing.Given as goal

abbrev pub invariant-loop-j : goal.invariant-loop-j
invariant-loop-j l = (l.n ≤ l.j) × (l.n + length (keep (pass_of l.test) (pairs (drop (2 * l.j) l.l))) ≡ length (keep (pass_of l.test) (pairs l.l)))
