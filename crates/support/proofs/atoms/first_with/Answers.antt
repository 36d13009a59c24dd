-- `support::atoms::first_with` meets its contract. Assumes nothing.
use mathlib.Core.Path.{◌≡◌, sym, ap, ◌∙◌}
use Prim.Native.Nat.{ℕ}
use native.Mathlib.Omega.{arith}
use lib.IntN.{pos, nat_abs}
use lib.ListN.{get_or}
use Rattle.std.proofs.Common.{rules}
use Rattle.std.specs.Prelude.{Some}
use Rattle.interpretation.specs.View.{valued, cell_value}
use Rattle.support.specs.Asking.{values_of, same_value}
use Rattle.support.proofs.Walks.{same_by, with_here, with_on, with_end}
use Rattle.support.proofs.atoms.first_with.Goals as goal

pub returns-then-eq : goal.returns-then-eq
returns-then-eq c =
    let a = c.args in
    let q : c.plain-q.result ≡ nat_abs (get_or a.l.now c.loop-w.w-index (pos 0)) = search rules in
    let asked : c.eq.result ≡ same_value a.v (cell_value (valued a.values.now (nat_abs (get_or a.l.now c.loop-w.w-index (pos 0))))) =
    same_by c.eq.result a.v c.value_of.result (λ e. search rules) (λ e f. search rules)
    ∙ ap (same_value a.v) (c.value_of.ensures ∙ ap (λ (p : ℕ). cell_value (valued a.values.now p)) q) in
    ap Some q
    ∙ sym (with_here a.l.now c.loop-w.w-index (values_of (valued a.values.now)) a.v (omega arith) (sym asked ∙ c.if-eq.true))
    ∙ c.loop-w.invariant

pub loop-w-preserved : goal.loop-w-preserved
loop-w-preserved c =
    let a = c.args in
    let q : c.plain-q.result ≡ nat_abs (get_or a.l.now c.loop-w.w-index (pos 0)) = search rules in
    let asked : c.eq.result ≡ same_value a.v (cell_value (valued a.values.now (nat_abs (get_or a.l.now c.loop-w.w-index (pos 0))))) =
    same_by c.eq.result a.v c.value_of.result (λ e. search rules) (λ e f. search rules)
    ∙ ap (same_value a.v) (c.value_of.ensures ∙ ap (λ (p : ℕ). cell_value (valued a.values.now p)) q) in
    sym (with_on a.l.now c.loop-w.w-index (values_of (valued a.values.now)) a.v (omega arith) (sym asked ∙ c.if-eq.false))
    ∙ c.loop-w.invariant

pub returns : goal.returns
returns c =
    let a = c.args in
    sym (with_end a.l.now c.loop-w.w-index (values_of (valued a.values.now)) a.v (omega arith)) ∙ c.loop-w.invariant
