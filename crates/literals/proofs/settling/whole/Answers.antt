-- `literals::settling::whole` meets its contract. Assumes nothing.
use Rattle.std.proofs.Common.{rules, arith, ◌≡◌, ◌≤◌, nat_abs, pos, get_or, [], ap, ◌∙◌}
use Rattle.literals.specs.Elements.{weight_of}
use Rattle.literals.specs.Settled.{whole_of}
use Rattle.literals.proofs.Pairs.{pair_on, value_read, pairs_read, pairs_end}
use Rattle.literals.proofs.Amounts.{weight_most}
use Rattle.literals.proofs.settling.whole.Goals as goal

pub loop-value-preserved : goal.loop-value-preserved
loop-value-preserved c =
    let w = c.args.w.now in
    let i = c.loop-value.value-index in
    let q = c.as_chunks in
    let front = q.result.0.now in
    let word : c.size.result ≡ nat_abs (get_or (get_or front i []) 0 (pos 0)) = search rules in
    let value : c.size.result ≡ (pair_on w i).value = word ∙ ap nat_abs (value_read w front q.ensures.front q.ensures.front_len i c.loop-value-test.true) in
    let light : c.weight-x.result ≤ 65535 = rw c.weight-x.ensures (weight_most c.args.count c.size.result (rw value (c.requires.values i (omega (arith, q.ensures.front_len))))) in
    let one = c.weight-x.ensures ∙ ap (weight_of c.args.count) value in
    let more = ap (whole_of c.args.count) (pairs_read w front q.ensures.front q.ensures.front_len i c.loop-value-test.true) in
    (omega arith, omega (arith, one, more))

pub returns : goal.returns
returns c =
    let none = ap (whole_of c.args.count) (pairs_end c.args.w.now c.loop-value.value-index (omega (arith, c.as_chunks.ensures.front_len))) in
    omega (arith, none)
