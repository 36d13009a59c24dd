-- `read_notation::places::place_of` meets its contract. The invariant of its loop: the place after the bytes that are left is that after all of them. Assumes nothing.
use mathlib.Core.Path.{sym, ap, ◌∙◌}
use native.Mathlib.Omega.{arith}
use lib.ListN.{get_or}
use Rattle.notation.specs.Tokens.{Place}
use Rattle.read_notation.proofs.Placing.{line_le, column_le, place_on, place_end}
use Rattle.read_notation.proofs.places.place_of.Goals as goal

pub loop-i-preserved : goal.loop-i-preserved
loop-i-preserved c =
    let i = c.loop-i.invariant in
    let b = get_or c.args.text.now c.loop-i.i 0 in
    rw (c.column_after-column.ensures, c.line_after-line.ensures)
    (i.0, line_le c.loop-i.line b c.loop-i.i i.1, column_le c.loop-i.column b c.loop-i.i i.2, sym (place_on _ c.loop-i.i _ c.loop-i.line c.loop-i.column c.loop-i-test.true (omega arith)) ∙ i.3)

pub returns : goal.returns
returns c =
    let e = sym (place_end _ c.loop-i.i _ c.loop-i.line c.loop-i.column c.loop-i-test.false) ∙ c.loop-i.invariant.3 in
    (ap (λ (p : Place). p.line) e, ap (λ (p : Place). p.column) e)
