-- `text::number::limit_of` meets its contract: by the first byte, the digits after it, and the range of their value. Assumes nothing.
use mathlib.Core.Path.{◌∙◌}
use Rattle.text.proofs.Numbers.{limit_bad_minus, limit_is_minus, limit_bad_plain, limit_is_plain}
use Rattle.text.proofs.number.limit_of.Goals as goal

pub returns-in_err-digits_of : goal.returns-in_err-digits_of
returns-in_err-digits_of c =
    let d = c.in-Some.ensures.cases in
    c.from_residual.ensures ∙ limit_bad_minus _ _ d.0 d.1 _ c.digits_of.ensures c.in_err-digits_of.was

pub returns-in-Some : goal.returns-in-Some
returns-in-Some c =
    let d = c.in-Some.ensures.cases in
    c.then_some.ensures ∙ limit_is_minus _ _ d.0 d.1 _ c.digits_of.ensures _ c.in_ok-digits_of.was

pub returns-in_err-digits_of-2 : goal.returns-in_err-digits_of-2
returns-in_err-digits_of-2 c = c.from_residual-in_err-digits_of-2.ensures ∙ limit_bad_plain _ c.in_default.ensures.cases _ c.digits_of-2.ensures c.in_err-digits_of-2.was

pub returns : goal.returns
returns c = c.ok.ensures.value ∙ limit_is_plain _ c.in_default.ensures.cases _ c.digits_of-2.ensures _ c.in_ok-digits_of-2.was _ c.try_from.ensures
