-- `pins::memory::number` meets its contract. Assumes nothing.
use mathlib.Core.Path.{sym, ◌∙◌}
use native.Mathlib.Omega.{arith}
use Rattle.pins.proofs.Words.{number_big, number_is}
use Rattle.pins.proofs.memory.number.Goals as goal

pub returns-then-most-n : goal.returns-then-most-n
returns-then-most-n c =
    let a = c.args in
    let e = c.atom-n.ensures in
    let h = c.if-most-n.true in
    sym (number_big a.s.now a.i a.most (omega arith))

pub returns : goal.returns
returns c =
    let a = c.args in
    let e = c.atom-n.ensures in
    let h = c.if-most-n.false in
    e ∙ sym (number_is a.s.now a.i a.most (omega arith))
