-- `literals::aggregates::totals_of` meets its contract. Assumes nothing.
use Rattle.std.proofs.Common.{rules, arith, ℕ, ◌≡◌, ◌+◌, ◌*◌, ◌≤◌, nat_abs, pos, get_or, drop, [], sym, ap, ◌∙◌}
use mathlib.Core.Path.{ap₂}
use lib.IntN.{ℤ}
use Rattle.interpretation.specs.View.{cell_by, valued, cell_value}
use Rattle.interpretation.specs.declared.Value.{Value}
use Rattle.layout.specs.Layout.{pairs}
use Rattle.literals.specs.declared.aggregates.Totals.{Totals}
use Rattle.literals.specs.Elements.{weight_of, added_by, totals_of}
use Rattle.literals.proofs.Pairs.{pair_on, value_read, atom_read, value_asked, atom_asked, pairs_read, pairs_end}
use Rattle.literals.proofs.Amounts.{totals_none, totals_more, added_on, weight_most, low_most, high_most}
use Rattle.literals.proofs.aggregates.totals_of.Goals as goal

pub plain-requires : goal.plain-requires
plain-requires c =
    let q = c.as_chunks in
    value_asked c.args.w.now q.result.0.now q.ensures.front q.ensures.front_len c.loop-value.value-index c.loop-value-test.true c.requires _ (search rules)

pub byte-requires : goal.byte-requires
byte-requires c =
    let q = c.as_chunks in
    atom_asked c.args.w.now q.result.0.now q.ensures.front q.ensures.front_len c.loop-value.value-index c.loop-value-test.true c.requires _ (search rules)

pub added-t-requires : goal.added-t-requires
added-t-requires c =
    let w = c.args.w.now in
    let i = c.loop-value.value-index in
    let q = c.as_chunks in
    let front = q.result.0.now in
    let first : c.plain.result ≡ nat_abs (get_or (get_or front i []) 0 (pos 0)) = search rules in
    let value : c.plain.result ≡ (pair_on w i).value = first ∙ ap nat_abs (value_read w front q.ensures.front q.ensures.front_len i c.loop-value-test.true) in
    let light : c.weight-x.result ≤ 65535 = rw c.weight-x.ensures (weight_most c.args.count c.plain.result (rw value (c.requires.values i (omega (arith, q.ensures.front_len))))) in
    (light, omega (arith, q.ensures.front_len), omega (arith, q.ensures.front_len))

pub loop-value-preserved : goal.loop-value-preserved
loop-value-preserved c =
    let w = c.args.w.now in
    let X = valued c.args.values.now in
    let n = c.args.count in
    let i = c.loop-value.value-index in
    let q = c.as_chunks in
    let front = q.result.0.now in
    let t = c.loop-value.t in
    let x = c.weight-x.result in
    let v = cell_value (cell_by c.byte.result 0) in
    let e = pair_on w i in
    let rest = totals_of n X (pairs (drop (2 * (i + 1)) w)) in
    let first : c.plain.result ≡ nat_abs (get_or (get_or front i []) 0 (pos 0)) = search rules in
    let value : c.plain.result ≡ e.value = first ∙ ap nat_abs (value_read w front q.ensures.front q.ensures.front_len i c.loop-value-test.true) in
    let second : cell_by c.byte.result 0 ≡ valued c.args.values.now (nat_abs (get_or (get_or front i []) 1 (pos 0))) = search rules in
    let cell = second ∙ ap (λ (z : ℤ). X (nat_abs z)) (atom_read w front q.ensures.front q.ensures.front_len i c.loop-value-test.true) in
    let light : x ≤ 65535 = rw c.weight-x.ensures (weight_most n c.plain.result (rw value (c.requires.values i (omega (arith, q.ensures.front_len))))) in
    let weighed = c.weight-x.ensures ∙ ap (weight_of n) value in
    let from = ap (totals_of n X) (pairs_read w front q.ensures.front q.ensures.front_len i c.loop-value-test.true) ∙ totals_more n X e (pairs (drop (2 * (i + 1)) w))
    ∙ ap₂ (λ (u : Value) (y : ℕ). added_by u y rest) (sym (ap cell_value cell)) (sym weighed) in
    let step = added_on v x t rest in
    let low = ap (λ (u : Totals). u.low) c.added-t.ensures in
    let high = ap (λ (u : Totals). u.high) c.added-t.ensures in (
      omega (arith, low, light, low_most v x t),
      omega (arith, high, light, high_most v x t),
      omega (arith, low, step.0, ap (λ (u : Totals). u.low) from),
      omega (arith, high, step.1, ap (λ (u : Totals). u.high) from),
    )

pub returns : goal.returns
returns c =
    let a = c.args in
    let none = ap (totals_of a.count (valued a.values.now)) (pairs_end a.w.now c.loop-value.value-index (omega (arith, c.as_chunks.ensures.front_len))) ∙ sym (totals_none a.count (valued a.values.now)) in
    let low : c.loop-value.t.low ≡ (totals_of a.count (valued a.values.now) (pairs a.w.now)).low = omega (arith, ap (λ (u : Totals). u.low) none) in
    let high : c.loop-value.t.high ≡ (totals_of a.count (valued a.values.now) (pairs a.w.now)).high = omega (arith, ap (λ (u : Totals). u.high) none) in
    λ i. record { low = low i; high = high i }
