-- `table::starts::starts_at` meets its contract. The invariant of its loop: the places of the aggregates still to come, put behind those found,
-- are the places of all. Assumes nothing.
use mathlib.Core.Path.{◌≡◌}
use Prim.Native.Nat.{◌-◌}
use lib.ListN.{drop}
use Rattle.table.specs.Roles.{run}
use Rattle.table.specs.Grammar.{times, aggregate}
use Rattle.table.specs.Places.{no_starts, places_from}
use Rattle.table.proofs.starts.starts_at.Given as goal

abbrev pub invariant-loop-k : goal.invariant-loop-k
invariant-loop-k l =
    places_from l.k l.at l.starts (run (times (l.n - l.k) (aggregate l.top)) l.at (drop l.at l.t)) ≡ places_from 0 l.i no_starts (run (times l.n (aggregate l.top)) l.i (drop l.i l.t))
