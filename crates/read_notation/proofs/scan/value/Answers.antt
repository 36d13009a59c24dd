-- `read_notation::scan::value` meets its contract. The invariant of its loop: the digits that are left, after the sum so far, come to what they all come to, as far as it is below the cap. Assumes nothing.
use mathlib.Core.Path.{sym, ◌∙◌}
use native.Mathlib.Omega.{arith}
use Rattle.read_notation.proofs.Scanning.{held_on, held_stop, held_end}
use Rattle.read_notation.proofs.scan.value.Goals as goal

pub returns-then-not-digit : goal.returns-then-not-digit
returns-then-not-digit c =
    held_stop _ c.loop-i.i c.loop-i-test.true c.loop-i.sum (sym c.digit.ensures ∙ c.if-not-digit.true) c.loop-i.invariant.0 ∙ c.loop-i.invariant.1

pub loop-i-preserved : goal.loop-i-preserved
loop-i-preserved c =
    rw c.add_digit-sum.ensures
    (omega arith, held_on _ c.loop-i.i c.loop-i-test.true c.loop-i.sum (sym c.digit.ensures ∙ c.if-not-digit.false) ∙ c.loop-i.invariant.1)

pub returns : goal.returns
returns c = held_end _ c.loop-i.i c.loop-i.sum c.loop-i-test.false c.loop-i.invariant.0 ∙ c.loop-i.invariant.1
