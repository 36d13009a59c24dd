-- `support::atoms::other_true` meets its contract. Assumes nothing.
use mathlib.Core.Path.{◌≡◌, sym, ap, ◌∙◌}
use mathlib.Core.Bool.{Bool, not, ◌&&◌}
use Prim.Native.Nat.{ℕ}
use native.Mathlib.Omega.{arith}
use lib.Dec.{eqb}
use lib.IntN.{pos, nat_abs}
use lib.ListN.{get_or}
use Rattle.std.proofs.Common.{rules}
use Rattle.std.specs.Prelude.{Some}
use Rattle.interpretation.specs.View.{valued, cell_value}
use Rattle.interpretation.specs.declared.Value.TheVariants.{True}
use Rattle.valuing.specs.Values.{says_true}
use Rattle.support.specs.Asking.{values_of}
use Rattle.support.proofs.Walks.{same_by, other_here, other_on, other_end}
use Rattle.support.proofs.atoms.other_true.Goals as goal

pub returns-then-q-p : goal.returns-then-q-p
returns-then-q-p c =
    let a = c.args in
    let w = nat_abs (get_or a.l.now c.loop-k.k (pos 0)) in
    let q : c.plain-q.result ≡ w = search rules in
    let holds : c.eq-holds.result ≡ says_true (cell_value (valued a.values.now w)) =
    same_by c.eq-holds.result True c.value_of.result (λ e. search rules) (λ e f. search rules)
    ∙ ap says_true (c.value_of.ensures ∙ ap (λ (p : ℕ). cell_value (valued a.values.now p)) q) in
    let asked : not (eqb c.plain-q.result a.p) && c.eq-holds.result ≡ not (eqb w a.p) && says_true (cell_value (valued a.values.now w)) =
    ap (λ (o : ℕ). not (eqb o a.p) && c.eq-holds.result) q ∙ ap (λ (x : Bool). not (eqb w a.p) && x) holds in
    ap Some q
    ∙ sym (other_here a.l.now c.loop-k.k (values_of (valued a.values.now)) a.p (omega arith) (sym asked ∙ c.if-q-p.true))
    ∙ c.loop-k.invariant

pub loop-k-preserved : goal.loop-k-preserved
loop-k-preserved c =
    let a = c.args in
    let w = nat_abs (get_or a.l.now c.loop-k.k (pos 0)) in
    let q : c.plain-q.result ≡ w = search rules in
    let holds : c.eq-holds.result ≡ says_true (cell_value (valued a.values.now w)) =
    same_by c.eq-holds.result True c.value_of.result (λ e. search rules) (λ e f. search rules)
    ∙ ap says_true (c.value_of.ensures ∙ ap (λ (p : ℕ). cell_value (valued a.values.now p)) q) in
    let asked : not (eqb c.plain-q.result a.p) && c.eq-holds.result ≡ not (eqb w a.p) && says_true (cell_value (valued a.values.now w)) =
    ap (λ (o : ℕ). not (eqb o a.p) && c.eq-holds.result) q ∙ ap (λ (x : Bool). not (eqb w a.p) && x) holds in
    sym (other_on a.l.now c.loop-k.k (values_of (valued a.values.now)) a.p (omega arith) (sym asked ∙ c.if-q-p.false))
    ∙ c.loop-k.invariant

pub returns : goal.returns
returns c =
    let a = c.args in
    sym (other_end a.l.now c.loop-k.k (values_of (valued a.values.now)) a.p (omega arith)) ∙ c.loop-k.invariant
