-- `text::printer::print` meets its contract: each result's line fits, so it is there whole. Assumes nothing.
use native.Mathlib.Omega.{arith}
use Rattle.text.proofs.Lines.{print_as}
use Rattle.text.proofs.printer.print.Goals as goal

pub returns-in-Ok-Answer-clause-line : goal.returns-in-Ok-Answer-clause-line
returns-in-Ok-Answer-clause-line c =
    let e = rw c.in-Ok-Answer.is at c.in-Ok-Answer.field-0-is in
    print_as _ _ _ _ _ _ _ (rw (c.in-Ok-Answer.is, e, c.from.ensures, c.from-in-Ok-Answer.ensures)) c.if-out-lt1100.false c.put_answer.ensures.put (omega (arith, c.put_answer.ensures.plan_len_bound))

pub returns-in-Ok-Nothing-clause-line : goal.returns-in-Ok-Nothing-clause-line
returns-in-Ok-Nothing-clause-line c =
    let e = rw c.in-Ok-Nothing.is at c.in-Ok-Nothing.field-0-is in
    print_as _ _ _ _ _ _ _ (rw (c.in-Ok-Nothing.is, e, c.from-in-Ok-Nothing.ensures, c.from-in-Ok-Nothing-2.ensures)) c.if-out-lt1100.false c.put_line.ensures.put (omega (arith, c.put_line.ensures.second_in_bounds))

pub returns-in-Ok-Limit-clause-line : goal.returns-in-Ok-Limit-clause-line
returns-in-Ok-Limit-clause-line c =
    let e = rw c.in-Ok-Limit.is at c.in-Ok-Limit.field-0-is in
    print_as _ _ _ _ _ _ _ (rw (c.in-Ok-Limit.is, e, c.from-in-Ok-Limit.ensures, c.from-in-Ok-Limit-2.ensures)) c.if-out-lt1100.false c.put_line-in-Ok-Limit.ensures.put (omega (arith, c.put_line-in-Ok-Limit.ensures.second_in_bounds))

pub returns-in-Err-clause-line : goal.returns-in-Err-clause-line
returns-in-Err-clause-line c =
    print_as _ _ _ _ _ _ _ (rw (c.in-Err.is, c.from-in-Err.ensures, c.number.ensures, c.place.ensures)) c.if-out-lt1100.false c.put_line-in-Err.ensures.put (omega (arith, c.put_line-in-Err.ensures.second_in_bounds))
