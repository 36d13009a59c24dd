-- `text::number::digits_of` meets its contract. The invariant of its loop: the digits that are left, after the value so far, come to what
-- they all come to, as far as it is below 2 to the 64 less 1. Assumes nothing.
use mathlib.Core.Path.{◌≡◌}
use Prim.Native.Nat.{◌≤◌}
use lib.ListN.{drop}
use Rattle.text.specs.Text.{digits, digits_from}
use Rattle.text.specs.Scan.{held}
use Rattle.text.proofs.number.digits_of.Given as goal

abbrev pub invariant-loop-b : goal.invariant-loop-b
invariant-loop-b l = (l.value ≤ 18446744073709551615) × (held (digits_from l.value (drop l.b-index l.run)) ≡ held (digits l.run))
