-- `listing::list_by` meets its contract. The invariant of its loop: whatever the defined listing ends with from the present state, with the plans listed so far, it ends with from the
-- start; the rows of these plans are written. The measure is that of the defined search. Assumes nothing.
use Prim.Native.Nat.{suc, ◌+◌, ◌-◌, ◌*◌, ◌/◌, ◌≤◌}
use mathlib.Core.Path.{◌≡◌}
use lib.ListN.{length}
use Rattle.heads.specs.Heads.{taking}
use Rattle.smaller.specs.Cyclic.{base_by}
use Rattle.jumping.specs.Jumping.{Ready}
use Rattle.listing.proofs.Listing.{Done}
use Rattle.listing.proofs.list_by.Given as goal

abbrev pub invariant-loop-plan : goal.invariant-loop-plan
invariant-loop-plan l =
    Ready l.t.places.atoms l.limit l.from × (l.number ≤ length l.initial.rows / 256) × (length l.rows ≡ length l.initial.rows)
    × Done (base_by l.cycles (taking l.t.words.now l.lists) l.t.places.atoms) l.limit (length l.initial.rows / 256) l.initial.rows l.rows l.from l.reasons l.number

abbrev pub decreases-loop-plan : goal.decreases-loop-plan
decreases-loop-plan l = (l.limit - l.from.choices) * suc l.t.places.atoms + l.from.it.depth
