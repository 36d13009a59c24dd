-- `stored::writing::put_names` meets its contract. The invariant of its loop: to lay the names left from here is to lay all from the start. Assumes nothing.
use Prim.Native.Nat.{◌-◌}
use Rattle.bytes_out.proofs.Laws.{Left}
use Rattle.stored.specs.Bytes.{names_bytes, no_names}
use Rattle.stored.proofs.writing.put_names.Given as goal

abbrev pub invariant-loop : goal.invariant-loop
invariant-loop l = Left l.initial.out l.at (names_bytes (no_names l.n)) l.out l.to (names_bytes (no_names (l.n - l.counter)))
