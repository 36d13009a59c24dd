-- `pins::memory::is_held` meets its contract. Assumes nothing.
use mathlib.Core.Path.{◌≡◌, sym, ap, ◌∙◌}
use Prim.Native.Nat.{ℕ}
use native.Mathlib.Omega.{arith}
use Rattle.sessions.specs.Sessions.{is_held}
use Rattle.pins.specs.Memory.{pins_to}
use Rattle.pins.proofs.Words.{held_none, held_here, held_later}
use Rattle.pins.proofs.memory.is_held.Goals as goal

pub returns-then-p-atom_at : goal.returns-then-p-atom_at
returns-then-p-atom_at c =
    let a = c.args in
    sym (held_here a.s.now a.p c.loop-i.i (omega arith) (c.if-p-atom_at.true ∙ c.atom_at.ensures)) ∙ c.loop-i.invariant

pub loop-i-preserved : goal.loop-i-preserved
loop-i-preserved c =
    let a = c.args in
    sym (held_later a.s.now a.p c.loop-i.i (omega arith) (λ e. c.if-p-atom_at.false (e ∙ sym c.atom_at.ensures))) ∙ c.loop-i.invariant

pub returns : goal.returns
returns c =
    let a = c.args in
    let e : c.loop-i.i ≡ 0 = omega arith in
    sym (held_none a.s.now a.p) ∙ ap (λ (k : ℕ). is_held a.p (pins_to a.s.now k)) (sym e) ∙ c.loop-i.invariant
