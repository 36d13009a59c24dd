-- `stored::reading::ended` meets its contract. Assumes nothing.
use mathlib.Core.Path.{sym}
use Rattle.meaning.proofs.Cond.{if_lt_yes, if_lt_no}
use Rattle.stored.proofs.reading.ended.Goals as goal

pub returns-then-at-bytes : goal.returns-then-at-bytes
returns-then-at-bytes c = sym (if_lt_yes _ _ _ _ c.if-at-bytes.true)

pub returns : goal.returns
returns c = sym (if_lt_no _ _ _ _ c.if-at-bytes.false)
