-- `read_notation::scan::span_end` meets its contract. The invariant of its loop: from `i` on it is as far as from `from` on. Assumes nothing.
use mathlib.Core.Path.{sym, ◌∙◌}
use native.Mathlib.Omega.{arith}
use Rattle.read_notation.specs.Scanning.{among}
use Rattle.read_notation.proofs.Scanning.{span_on, span_stop, span_past, among_low, among_high, among_in}
use Rattle.read_notation.proofs.scan.span_end.Goals as goal

pub returns-then-b-low : goal.returns-then-b-low
returns-then-b-low c =
    span_stop _ c.loop-i.i c.loop-i-test.true (among c.args.low c.args.high) (among_low c.args.low c.args.high _ c.if-b-low.true) ∙ c.loop-i.invariant

pub returns-then-high-b : goal.returns-then-high-b
returns-then-high-b c =
    span_stop _ c.loop-i.i c.loop-i-test.true (among c.args.low c.args.high) (among_high c.args.low c.args.high _ c.if-high-b.true) ∙ c.loop-i.invariant

pub loop-i-preserved : goal.loop-i-preserved
loop-i-preserved c =
    sym (span_on _ c.loop-i.i c.loop-i-test.true (among c.args.low c.args.high) (among_in c.args.low c.args.high _ c.if-b-low.false c.if-high-b.false)) ∙ c.loop-i.invariant

pub returns : goal.returns
returns c = c.max.ensures ∙ span_past c.args.text.now c.args.from c.loop-i.i (among c.args.low c.args.high) (omega arith) c.loop-i.auto.i-end c.loop-i.invariant
