-- `read_notation::scan::token_start` meets its contract. The invariant of its loop: from `i` on it is as far as from `from` on. Assumes nothing.
use mathlib.Core.Path.{sym, ◌∙◌}
use native.Mathlib.Omega.{arith}
use Rattle.read_notation.proofs.Scanning.{gap_on, gap_stop, gap_past}
use Rattle.read_notation.proofs.scan.token_start.Goals as goal

pub returns-then-not-passes : goal.returns-then-not-passes
returns-then-not-passes c =
    gap_stop _ c.loop-i.i c.loop-i-test.true c.loop-i.comment (sym c.passes.ensures ∙ c.if-not-passes.true) ∙ c.loop-i.invariant

pub loop-i-preserved : goal.loop-i-preserved
loop-i-preserved c =
    rw c.comment_after-comment.ensures
    (sym (gap_on _ c.loop-i.i c.loop-i-test.true c.loop-i.comment (sym c.passes.ensures ∙ c.if-not-passes.false)) ∙ c.loop-i.invariant)

pub returns : goal.returns
returns c = c.max.ensures ∙ gap_past c.args.text.now c.args.from c.loop-i.i c.loop-i.comment (omega arith) c.loop-i.auto.i-end c.loop-i.invariant
