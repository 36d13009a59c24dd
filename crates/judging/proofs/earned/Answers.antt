-- `judging::earned` meets its contract. Assumes nothing.
use mathlib.Core.Path.{sym, ap, ◌∙◌}
use native.Mathlib.Omega.{arith}
use Rattle.meaning.proofs.Cond.{if_lt_yes, if_lt_no, if_eq_yes, if_eq_no}
use Rattle.judging.specs.Judging.{fault_of}
use Rattle.judging.proofs.earned.Goals as goal

pub returns-then-room-lt-ROOM : goal.returns-then-room-lt-ROOM
returns-then-room-lt-ROOM c =
    sym (ap fault_of c.in-Plan.is ∙ if_lt_yes c.in-Plan.room 256 _ _ c.if-room-lt-ROOM.true)

pub returns-then-room-gt0 : goal.returns-then-room-gt0
returns-then-room-gt0 c =
    let h = c.if-room-gt0.true in
    sym (ap fault_of c.in-Rows.is ∙ if_eq_no _ 0 _ _ (λ e. omega arith))

pub returns-else-room-lt-ROOM : goal.returns-else-room-lt-ROOM
returns-else-room-lt-ROOM c =
    sym (ap fault_of c.in-Plan.is ∙ if_lt_no c.in-Plan.room 256 _ _ c.if-room-lt-ROOM.false)

pub returns-else-room-gt0 : goal.returns-else-room-gt0
returns-else-room-gt0 c =
    let h = c.if-room-gt0.false in
    sym (ap fault_of c.in-Rows.is ∙ if_eq_yes _ 0 _ _ (omega arith))
