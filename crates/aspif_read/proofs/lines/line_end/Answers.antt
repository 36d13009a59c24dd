-- `aspif_read::lines::line_end` meets its contract. Assumes nothing.
use Rattle.aspif_read.proofs.LineLaws.{line_stop, line_on, line_past}
use borrow.Author.Tests.{eq-eqb, ne_eqb}
use mathlib.Core.Path.{◌∙◌}
use native.Mathlib.Omega.{arith}
use Rattle.aspif_read.proofs.lines.line_end.Goals as goal

pub returns-then-text-i-eq10 : goal.returns-then-text-i-eq10
returns-then-text-i-eq10 c = let e = line_stop c.args.text.now c.loop-i.i c.loop-i-test.true (eq-eqb _ 10 c.if-text-i-eq10.true) in let i = c.loop-i.invariant in omega arith

pub loop-i-preserved : goal.loop-i-preserved
loop-i-preserved c = let e = line_on c.args.text.now c.loop-i.i c.loop-i-test.true (ne_eqb _ 10 c.if-text-i-eq10.false) in let i = c.loop-i.invariant in omega arith

pub returns : goal.returns
returns c = c.max.ensures ∙ line_past c.args.text.now c.args.from c.loop-i.i (omega arith) c.loop-i.auto.i-end c.loop-i.invariant
