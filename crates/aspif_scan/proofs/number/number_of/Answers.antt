-- `aspif_scan::number::number_of` meets its contract. Assumes nothing.
use Rattle.aspif_scan.proofs.Numbers.{minus_number, minus_bad, plain_number, plain_bad}
use mathlib.Core.Path.{◌∙◌}
use Rattle.aspif_scan.proofs.number.number_of.Goals as goal

pub returns-in_err-size : goal.returns-in_err-size
returns-in_err-size c =
    let d = c.in-Some.ensures.cases in
    c.from_residual.ensures ∙ minus_bad _ _ d.0 d.1 _ c.digits_of.ensures c.in_err-size.was

pub returns-in-Some : goal.returns-in-Some
returns-in-Some c =
    let d = c.in-Some.ensures.cases in
    minus_number _ _ d.0 d.1 _ c.digits_of.ensures _ c.in_ok-size.was

pub returns-in_err-size-2 : goal.returns-in_err-size-2
returns-in_err-size-2 c = c.from_residual-in_err-size-2.ensures ∙ plain_bad _ c.in_default.ensures.cases _ c.digits_of-2.ensures c.in_err-size-2.was

pub returns : goal.returns
returns c = plain_number _ c.in_default.ensures.cases _ c.digits_of-2.ensures _ c.in_ok-size-2.was
