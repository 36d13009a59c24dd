-- `literals::settling::shortest` meets its contract. Assumes nothing.
use Rattle.std.proofs.Common.{rules, arith, Bool, List, ℕ, ◌≡◌, ◌+◌, ◌*◌, ◌≤◌, nat_abs, pos, get_or, drop, [], sym, ap, ◌∙◌}
use mathlib.Core.Path.{ap₂}
use Rattle.meaning.specs.Program.{Element}
use Rattle.levels.specs.Levels.{Levels}
use Rattle.levels.specs.View.{row, rows}
use Rattle.interpretation.specs.View.{valued, cell_by}
use Rattle.layout.specs.Layout.{pairs}
use Rattle.literals.specs.Elements.{weight_of, part_of}
use Rattle.literals.specs.Settled.{join_if, of_sign, whole_of, Told, run_of}
use Rattle.literals.proofs.Pairs.{pair_on, value_read, atom_read, atom_asked, pairs_read, pairs_end}
use Rattle.literals.proofs.Bytes.{part_most}
use Rattle.literals.proofs.Runs.{run_on, run_here}
use Rattle.literals.proofs.settling.shortest.Goals as goal

pub returns-then-bound : goal.returns-then-bound
returns-then-bound c =
    let a = c.args in
    let X = valued a.values.now in
    let R = rows a.reasons.now in
    let w = a.w.now in
    let x = c.loop-value.x in
    let A = row c.loop-value.acc in
    let i = c.loop-value.value-index in
    let q = c.as_chunks in
    sym (ap (λ (es : List Element). run_of a.sign a.count a.c a.k a.high X R es x A) (pairs_read w q.result.0.now q.ensures.front q.ensures.front_len i c.loop-value-test.true)
    ∙ run_here a.sign a.count a.c a.k a.high X R (pair_on w i) (pairs (drop (2 * (i + 1)) w)) x A (sym c.bound.ensures ∙ c.if-bound.true))
    ∙ c.loop-value.invariant.1

pub overflow_add-x : goal.overflow_add-x
overflow_add-x c =
    let w = c.args.w.now in
    let i = c.loop-value.value-index in
    let q = c.as_chunks in
    let front = q.result.0.now in
    let word : c.size-in-loop-value.result ≡ nat_abs (get_or (get_or front i []) 0 (pos 0)) = search rules in
    let value : c.size-in-loop-value.result ≡ (pair_on w i).value = word ∙ ap nat_abs (value_read w front q.ensures.front q.ensures.front_len i c.loop-value-test.true) in
    let e = ap (whole_of c.args.count) (pairs_read w front q.ensures.front q.ensures.front_len i c.loop-value-test.true) in
    let m : c.part-x.result ≤ c.weight.result = rw c.part-x.ensures (part_most c.of_sign-on.result c.weight.result) in
    let v = c.weight.ensures ∙ ap (weight_of c.args.count) value in
    omega (arith, e, m, v)

pub byte-requires : goal.byte-requires
byte-requires c =
    let q = c.as_chunks in
    atom_asked c.args.w.now q.result.0.now q.ensures.front q.ensures.front_len c.loop-value.value-index c.loop-value-test.true c.requires.0 _ (search rules)

pub joined-next-requires : goal.joined-next-requires
joined-next-requires c =
    let w = c.args.w.now in
    let i = c.loop-value.value-index in
    let q = c.as_chunks in
    let front = q.result.0.now in
    let word : c.size.result ≡ nat_abs (get_or (get_or front i []) 1 (pos 0)) = search rules in
    let atom = word ∙ ap nat_abs (atom_read w front q.ensures.front q.ensures.front_len i c.loop-value-test.true) in
    rw atom (c.requires.0.atoms i (omega (arith, q.ensures.front_len)))

pub loop-value-preserved : goal.loop-value-preserved
loop-value-preserved c =
    let a = c.args in
    let X = valued a.values.now in
    let R = rows a.reasons.now in
    let w = a.w.now in
    let i = c.loop-value.value-index in
    let q = c.as_chunks in
    let front = q.result.0.now in
    let x = c.loop-value.x in
    let A = row c.loop-value.acc in
    let e = pair_on w i in
    let one = pairs_read w front q.ensures.front q.ensures.front_len i c.loop-value-test.true in
    let first : c.size-in-loop-value.result ≡ nat_abs (get_or (get_or front i []) 0 (pos 0)) = search rules in
    let value = first ∙ ap nat_abs (value_read w front q.ensures.front q.ensures.front_len i c.loop-value-test.true) in
    let second : c.size.result ≡ nat_abs (get_or (get_or front i []) 1 (pos 0)) = search rules in
    let atom = second ∙ ap nat_abs (atom_read w front q.ensures.front q.ensures.front_len i c.loop-value-test.true) in
    let byte : cell_by c.byte.result 0 ≡ valued a.values.now (nat_abs (get_or (get_or front i []) 1 (pos 0))) = search rules in
    let cell = byte ∙ ap (λ (p : ℕ). X p) (sym second ∙ atom) in
    let on = c.of_sign-on.ensures ∙ ap (of_sign a.sign) cell in
    let weighed = c.weight.ensures ∙ ap (weight_of a.count) value in
    let xs = ap (λ (y : ℕ). x + y) (c.part-x.ensures ∙ ap₂ part_of on weighed) in
    let joins = c.joined-next.ensures ∙ ap₂ (λ (o : Bool) (p : ℕ). join_if o (R p) A) on atom in
    let sums = ap (whole_of a.count) one in
    let m : c.part-x.result ≤ c.weight.result = rw c.part-x.ensures (part_most c.of_sign-on.result c.weight.result) in (
      omega (arith, sums, m, weighed),
      ap₂ (λ (y : ℕ) (C : Levels). run_of a.sign a.count a.c a.k a.high X R (pairs (drop (2 * (i + 1)) w)) y C) xs joins
          ∙ sym (ap (λ (es : List Element). run_of a.sign a.count a.c a.k a.high X R es x A) one
          ∙ run_on a.sign a.count a.c a.k a.high X R e (pairs (drop (2 * (i + 1)) w)) x A (sym c.bound.ensures ∙ c.if-bound.false))
          ∙ c.loop-value.invariant.1,
    )

abbrev told : Bool → Levels → Told
told s A = record { settled = s; reason = A }

pub returns : goal.returns
returns c =
    let a = c.args in
    let i = c.loop-value.value-index in
    let done = pairs_end a.w.now i (omega (arith, c.as_chunks.ensures.front_len)) in
    ap (λ (s : Bool). told s (row c.loop-value.acc)) c.bound-settled.ensures
    ∙ sym (ap (λ (es : List Element). run_of a.sign a.count a.c a.k a.high (valued a.values.now) (rows a.reasons.now) es c.loop-value.x (row c.loop-value.acc)) done)
    ∙ c.loop-value.invariant.1
