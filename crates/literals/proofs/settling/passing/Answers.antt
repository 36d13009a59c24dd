-- `literals::settling::passing` meets its contract. Assumes nothing.
use Rattle.std.proofs.Common.{rules, arith, ◌≡◌, nat_abs, pos, get_or, [], Bool, ap, ◌∙◌}
use Rattle.literals.specs.Elements.{passes_by, part_of}
use Rattle.literals.specs.Settled.{passing_of}
use Rattle.literals.proofs.Pairs.{pair_on, value_read, pairs_read, pairs_end}
use Rattle.literals.proofs.Bytes.{part_most}
use Rattle.literals.proofs.settling.passing.Goals as goal

pub loop-value-preserved : goal.loop-value-preserved
loop-value-preserved c =
    let w = c.args.w.now in
    let i = c.loop-value.value-index in
    let q = c.as_chunks in
    let front = q.result.0.now in
    let word : c.size.result ≡ nat_abs (get_or (get_or front i []) 0 (pos 0)) = search rules in
    let value : c.size.result ≡ (pair_on w i).value = word ∙ ap nat_abs (value_read w front q.ensures.front q.ensures.front_len i c.loop-value-test.true) in
    let part : c.from-x.result ≡ part_of c.passes.result 1 = search rules in
    let light = part_most c.passes.result 1 in
    let one = part ∙ ap (λ (b : Bool). part_of b 1) (c.passes.ensures ∙ ap (passes_by c.args.c c.args.k) value) in
    let more = ap (passing_of c.args.c c.args.k) (pairs_read w front q.ensures.front q.ensures.front_len i c.loop-value-test.true) in
    (omega arith, omega (arith, one, more))

pub returns : goal.returns
returns c =
    let none = ap (passing_of c.args.c c.args.k) (pairs_end c.args.w.now c.loop-value.value-index (omega (arith, c.as_chunks.ensures.front_len))) in
    omega (arith, none)
