-- `text::number::digits_of` meets its contract. The invariant of its loop: the digits that are left, after the value so far, come to what
-- they all come to, as far as it is below 2 to the 64 less 1. Assumes nothing.
use mathlib.Core.Path.{◌≡◌, sym, ◌∙◌}
use Prim.Native.Nat.{◌+◌, ◌-◌, ◌*◌, min}
use native.Mathlib.Omega.{arith}
use lib.ListN.{get_or}
use Rattle.text.proofs.Numbers.{held_on, held_off, held_end, digit_is}
use Rattle.text.proofs.number.digits_of.Goals as goal

pub returns-then-not-is_ascii_digit : goal.returns-then-not-is_ascii_digit
returns-then-not-is_ascii_digit c =
    held_off _ c.loop-b.b-index c.loop-b-test.true c.loop-b.value (sym (digit_is _) ∙ sym c.is_ascii_digit.ensures.value ∙ c.if-not-is_ascii_digit.true) ∙ c.loop-b.invariant.1

pub loop-b-preserved : goal.loop-b-preserved
loop-b-preserved c =
    let b = get_or c.args.run.now c.loop-b.b-index 0 in
    let e : c.saturating_add-value.result ≡ min (c.loop-b.value * 10 + (b - 48)) 18446744073709551615 = omega (arith, c.saturating_mul.ensures, c.saturating_add-value.ensures, c.from.ensures) in
    (omega arith, rw e (held_on _ c.loop-b.b-index c.loop-b-test.true c.loop-b.value (sym (digit_is _) ∙ sym c.is_ascii_digit.ensures.value ∙ c.if-not-is_ascii_digit.false) ∙ c.loop-b.invariant.1))

pub returns : goal.returns
returns c = held_end _ c.loop-b.b-index c.loop-b.value c.loop-b-test.false c.loop-b.invariant.0 ∙ c.loop-b.invariant.1
