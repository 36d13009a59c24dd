-- `text::number::word_of` meets its contract: by the first byte, the digits after it, and the range of their value. Assumes nothing.
use mathlib.Core.Path.{◌≡◌, sym, ◌∙◌}
use lib.IntN.{pos}
use mir.Syntax.{w32}
use mir.Val.{to_z, of_z}
use mir.ValLaws.{to_z-of_z}
use Rattle.text.proofs.Numbers.{word_bad_minus, word_long_minus, word_is_minus, word_bad_plain, word_past_plain, word_low_plain, pos_fits32}
use Rattle.text.proofs.number.word_of.Goals as goal

pub returns-in_err-digits_of : goal.returns-in_err-digits_of
returns-in_err-digits_of c =
    let d = c.in-Some.ensures.cases in
    c.from_residual.ensures ∙ word_bad_minus _ _ d.0 d.1 _ c.digits_of.ensures c.in_err-digits_of.was

pub returns-in_err-size : goal.returns-in_err-size
returns-in_err-size c =
    let d = c.in-Some.ensures.cases in
    c.from_residual-in_err-size.ensures ∙ word_long_minus _ _ d.0 d.1 _ c.digits_of.ensures _ c.in_ok-digits_of.was _ c.try_from.ensures (sym c.ok.ensures.value ∙ c.in_err-size.was)

pub returns-in-Some : goal.returns-in-Some
returns-in-Some c =
    let d = c.in-Some.ensures.cases in
    c.ok-in-Some.ensures.value ∙ word_is_minus _ _ d.0 d.1 _ c.digits_of.ensures _ c.in_ok-digits_of.was _ c.try_from.ensures _ (sym c.ok.ensures.value ∙ c.in_ok-size.was) _ c.try_from-in-Some.ensures

pub returns-in_err-value : goal.returns-in_err-value
returns-in_err-value c = c.from_residual-in_err-value.ensures ∙ word_bad_plain _ c.in_default.ensures.cases _ c.digits_of-2.ensures c.in_err-value.was

pub returns-then-value-gt2147483647 : goal.returns-then-value-gt2147483647
returns-then-value-gt2147483647 c = word_past_plain _ c.in_default.ensures.cases _ c.digits_of-2.ensures _ c.in_ok-value.was c.if-value-gt2147483647.true

pub returns : goal.returns
returns c =
    let v = c.in_ok-value.value in
    let k : to_z w32 (of_z w32 (pos v)) ≡ pos v = to_z-of_z w32 (pos v) (pos_fits32 v c.if-value-gt2147483647.false) in
    rw k (word_low_plain _ c.in_default.ensures.cases _ c.digits_of-2.ensures v c.in_ok-value.was c.if-value-gt2147483647.false)
