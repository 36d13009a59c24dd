-- `text::scan::run_end` meets its contract. The invariant of its loop: from `i` on it is as far as from `from` on. Assumes nothing.
use mathlib.Core.Path.{◌≡◌, sym, ◌∙◌}
use native.Mathlib.Omega.{arith}
use Rattle.text.proofs.Scanning.{span_on, span_stop, span_end}
use Rattle.text.proofs.scan.run_end.Goals as goal

pub returns-then-parts : goal.returns-then-parts
returns-then-parts c = span_stop _ c.loop-i.i c.loop-i-test.true (sym c.parts.ensures ∙ c.if-parts.true) ∙ c.loop-i.invariant.1

pub loop-i-preserved : goal.loop-i-preserved
loop-i-preserved c = (omega arith, sym (span_on _ c.loop-i.i c.loop-i-test.true (sym c.parts.ensures ∙ c.if-parts.false)) ∙ c.loop-i.invariant.1)

pub returns : goal.returns
returns c =
    let m : c.max.result ≡ c.loop-i.i = omega (arith, c.max.ensures) in
    rw m (span_end _ c.loop-i.i c.loop-i-test.false ∙ c.loop-i.invariant.1)
