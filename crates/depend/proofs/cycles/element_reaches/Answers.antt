-- `depend::cycles::element_reaches` meets its contract. Assumes nothing.
use native.Mathlib.Omega.{arith}
use mathlib.Core.Path.{sym, ap, ◌∙◌}
use mathlib.Core.Bool.{true, false}
use Prim.Native.Nat.{ℕ}
use Rattle.meaning.specs.Program.{Element}
use Rattle.reach.proofs.Lists.{pair_on, pair_end}
use Rattle.depend.specs.Circles.{alike}
use Rattle.depend.proofs.Walk.{walk_on}
use Rattle.depend.proofs.cycles.element_reaches.Goals as goal

pub returns-then-same : goal.returns-then-same
returns-then-same c =
    let a = c.args in
    walk_on true _ (pair_on a.l.now c.loop-i.i (λ (e : Element). alike a.names.now e.atom a.p) (omega arith)) c.loop-i.invariant
    (sym (c.same.ensures ∙ ap (λ (q : ℕ). alike a.names.now q a.p) c.atom.ensures) ∙ c.if-same.true)

pub loop-i-preserved : goal.loop-i-preserved
loop-i-preserved c =
    let a = c.args in
    walk_on false _ (pair_on a.l.now c.loop-i.i (λ (e : Element). alike a.names.now e.atom a.p) (omega arith)) c.loop-i.invariant
    (sym (c.same.ensures ∙ ap (λ (q : ℕ). alike a.names.now q a.p) c.atom.ensures) ∙ c.if-same.false)

pub returns : goal.returns
returns c =
    let a = c.args in
    sym (pair_end a.l.now c.loop-i.i (λ (e : Element). alike a.names.now e.atom a.p) (omega arith)) ∙ c.loop-i.invariant
