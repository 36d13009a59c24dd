-- `stored::reading::names_at` meets its contract. Assumes nothing.
use Prim.Native.Nat.{◌-◌, ◌≤◌}
use lib.ListN.{length}
use Rattle.stored.proofs.NamesTold.{Naming}
use Rattle.stored.proofs.reading.names_at.Given as goal

abbrev pub invariant-loop : goal.invariant-loop
invariant-loop l = (l.to ≤ length l.bytes) × Naming l.bytes l.n l.at l.any (l.n - l.counter) l.to
