-- `read_notation::places::place_of` meets its contract. The invariant of its loop: the place after the bytes that are left is that after all of them. Assumes nothing.
use mathlib.Core.Path.{◌≡◌}
use Prim.Native.Nat.{◌+◌, ◌-◌, ◌≤◌}
use lib.ListN.{length, take, drop}
use Rattle.notation.specs.Tokens.{place_after, place_of}
use Rattle.read_notation.proofs.Placing.{placed}
use Rattle.read_notation.proofs.places.place_of.Given as goal

abbrev pub invariant-loop-i : goal.invariant-loop-i
invariant-loop-i l = (l.at ≤ length l.text) × (l.line ≤ l.i + 1) × (l.column ≤ l.i + 1) × (place_after (placed l.line l.column) (take (l.at - l.i) (drop l.i l.text)) ≡ place_of l.text l.at)
