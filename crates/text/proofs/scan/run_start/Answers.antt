-- `text::scan::run_start` meets its contract. The invariant of its loop: from `i` on it is as far as from `from` on. Assumes nothing.
use mathlib.Core.Path.{◌≡◌, sym, ◌∙◌}
use native.Mathlib.Omega.{arith}
use Rattle.text.proofs.Scanning.{skip_on, skip_stop, skip_end}
use Rattle.text.proofs.scan.run_start.Goals as goal

pub returns-then-not-parts : goal.returns-then-not-parts
returns-then-not-parts c = skip_stop _ c.loop-i.i c.loop-i-test.true (sym c.parts.ensures ∙ c.if-not-parts.true) ∙ c.loop-i.invariant.1

pub loop-i-preserved : goal.loop-i-preserved
loop-i-preserved c = (omega arith, sym (skip_on _ c.loop-i.i c.loop-i-test.true (sym c.parts.ensures ∙ c.if-not-parts.false)) ∙ c.loop-i.invariant.1)

pub returns : goal.returns
returns c =
    let m : c.max.result ≡ c.loop-i.i = omega (arith, c.max.ensures) in
    rw m (skip_end _ c.loop-i.i c.loop-i-test.false ∙ c.loop-i.invariant.1)
