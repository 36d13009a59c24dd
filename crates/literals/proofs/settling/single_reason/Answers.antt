-- `literals::settling::single_reason` meets its contract. Assumes nothing.
use Rattle.std.proofs.Common.{rules, arith, Bool, true, false, cond, ◌&&◌, ◌||◌, List, ℕ, ◌≡◌, ◌+◌, ◌-◌, ◌*◌, ◌/◌, length, nat_abs, pos, get_or, drop, [], sym, ap, ◌∙◌}
use mathlib.Core.Path.{ap₂}
use lib.IntN.{ℤ}
use Rattle.meaning.specs.Program.{Element}
use Rattle.levels.specs.View.{row, rows}
use Rattle.interpretation.specs.State.{Cell}
use Rattle.interpretation.specs.View.{cell_by, valued}
use Rattle.layout.specs.Layout.{pairs}
use Rattle.valuing.specs.Values.{possibly}
use Rattle.valuing.specs.Settling.{is_false, is_defined}
use Rattle.literals.specs.Elements.{passes_by}
use Rattle.literals.specs.Settled.{join_if, alone_at, single_from}
use Rattle.literals.proofs.Pairs.{pair_on, value_read, atom_read, atom_asked, atom_within, pairs_read, pairs_end, pairs_length}
use Rattle.literals.proofs.Bytes.{false_byte, defined_byte, possibly_byte}
use Rattle.literals.proofs.Marked.{passing_most}
use Rattle.literals.proofs.Singles.{single_here, single_on}
use Rattle.literals.proofs.settling.single_reason.Goals as goal

pub overflow_sub-fail : goal.overflow_sub-fail
overflow_sub-fail c =
    let a = c.args in
    let e = c.passing-pass.ensures in
    let m = passing_most a.c a.k (pairs a.w.now) in
    let l = pairs_length a.w.now in
    omega (arith, e, m, l)

pub loop-value-init : goal.loop-value-init
loop-value-init c =
    let a = c.args in
    let w = a.w.now in
    ap₂ (λ (P F : ℕ). single_from a.each a.c a.k P F (valued a.values.now) (rows a.reasons.now) (row a.more) (pairs w) (row a.more) (row a.more) false) c.passing-pass.ensures
    (ap₂ (λ (x y : ℕ). x - y) (sym (pairs_length w)) c.passing-pass.ensures)

pub byte-b-requires : goal.byte-b-requires
byte-b-requires c =
    let q = c.as_chunks in
    atom_asked c.args.w.now q.result.0.now q.ensures.front q.ensures.front_len c.loop-value.value-index c.loop-value-test.true c.requires _ (search rules)

pub joined-requires : goal.joined-requires
joined-requires c =
    let q = c.as_chunks in
    atom_within c.args.w.now q.result.0.now q.ensures.front q.ensures.front_len c.loop-value.value-index c.loop-value-test.true c.requires c.size-p.result (search rules)

pub joined-narrow-requires : goal.joined-narrow-requires
joined-narrow-requires c =
    let q = c.as_chunks in
    atom_within c.args.w.now q.result.0.now q.ensures.front q.ensures.front_len c.loop-value.value-index c.loop-value-test.true c.requires c.size-p.result (search rules)

pub joined-wide-requires : goal.joined-wide-requires
joined-wide-requires c =
    let q = c.as_chunks in
    atom_within c.args.w.now q.result.0.now q.ensures.front q.ensures.front_len c.loop-value.value-index c.loop-value-test.true c.requires c.size-p.result (search rules)

pub returns-then-settles_alone : goal.returns-then-settles_alone
returns-then-settles_alone c =
    let a = c.args in
    let w = a.w.now in
    let i = c.loop-value.value-index in
    let q = c.as_chunks in
    let front = q.result.0.now in
    let P = c.passing-pass.result in
    let F = length w / 2 - P in
    let X = valued a.values.now in
    let R = rows a.reasons.now in
    let M = row a.more in
    let one = pairs_read w front q.ensures.front q.ensures.front_len i c.loop-value-test.true in
    let first : c.size.result ≡ nat_abs (get_or (get_or front i []) 0 (pos 0)) = search rules in
    let ok = c.passes-ok.ensures ∙ ap (passes_by a.c a.k) (first ∙ ap nat_abs (value_read w front q.ensures.front q.ensures.front_len i c.loop-value-test.true)) in
    let second : c.size-p.result ≡ nat_abs (get_or (get_or front i []) 1 (pos 0)) = search rules in
    let word = atom_read w front q.ensures.front q.ensures.front_len i c.loop-value-test.true in
    let byte : cell_by c.byte-b.result 0 ≡ valued c.args.values.now (nat_abs (get_or (get_or front i []) 1 (pos 0))) = search rules in
    let cell = byte ∙ ap (λ (z : ℤ). X (nat_abs z)) word in
    let tested = c.settles_alone.ensures ∙ ap₂ (λ (x : Cell) (o : Bool). alone_at a.each x o P F) cell ok in
    c.joined.ensures ∙ ap (λ (p : ℕ). join_if true (R p) M) (second ∙ ap nat_abs word)
    ∙ sym (ap (λ (es : List Element). single_from a.each a.c a.k P F X R M es (row c.loop-value.falses) (row c.loop-value.all) c.loop-value.may) one
    ∙ single_here a.each a.c a.k P F X R M (pair_on w i) (pairs (drop (2 * (i + 1)) w)) (row c.loop-value.falses) (row c.loop-value.all) c.loop-value.may (sym tested ∙ c.if-settles_alone.true))
    ∙ c.loop-value.invariant

pub loop-value-preserved : goal.loop-value-preserved
loop-value-preserved c =
    let a = c.args in
    let w = a.w.now in
    let i = c.loop-value.value-index in
    let q = c.as_chunks in
    let front = q.result.0.now in
    let P = c.passing-pass.result in
    let F = length w / 2 - P in
    let X = valued a.values.now in
    let R = rows a.reasons.now in
    let M = row a.more in
    let B = c.byte-b.result in
    let one = pairs_read w front q.ensures.front q.ensures.front_len i c.loop-value-test.true in
    let first : c.size.result ≡ nat_abs (get_or (get_or front i []) 0 (pos 0)) = search rules in
    let ok = c.passes-ok.ensures ∙ ap (passes_by a.c a.k) (first ∙ ap nat_abs (value_read w front q.ensures.front q.ensures.front_len i c.loop-value-test.true)) in
    let second : c.size-p.result ≡ nat_abs (get_or (get_or front i []) 1 (pos 0)) = search rules in
    let word = atom_read w front q.ensures.front q.ensures.front_len i c.loop-value-test.true in
    let atom = second ∙ ap nat_abs word in
    let byte : cell_by c.byte-b.result 0 ≡ valued c.args.values.now (nat_abs (get_or (get_or front i []) 1 (pos 0))) = search rules in
    let cell = byte ∙ ap (λ (z : ℤ). X (nat_abs z)) word in
    let tested = c.settles_alone.ensures ∙ ap₂ (λ (x : Cell) (o : Bool). alone_at a.each x o P F) cell ok in
    let falses = c.joined-narrow.ensures ∙ ap₂ (λ (o : Bool) (p : ℕ). join_if o (R p) (row c.loop-value.falses)) (false_byte B ∙ ap is_false cell) atom in
    let all = c.joined-wide.ensures ∙ ap₂ (λ (o : Bool) (p : ℕ). join_if o (R p) (row c.loop-value.all)) (defined_byte B ∙ ap is_defined cell) atom in
    let may = ap₂ (λ (o r : Bool). (o && r) || c.loop-value.may) ok (possibly_byte B ∙ ap possibly cell) in
    (λ t. single_from a.each a.c a.k P F X R M (pairs (drop (2 * (i + 1)) w)) (falses t) (all t) (may t))
    ∙ sym (ap (λ (es : List Element). single_from a.each a.c a.k P F X R M es (row c.loop-value.falses) (row c.loop-value.all) c.loop-value.may) one
    ∙ single_on a.each a.c a.k P F X R M (pair_on w i) (pairs (drop (2 * (i + 1)) w)) (row c.loop-value.falses) (row c.loop-value.all) c.loop-value.may (sym tested ∙ c.if-settles_alone.false))
    ∙ c.loop-value.invariant

-- at the end
pub returns-then-may : goal.returns-then-may
returns-then-may c =
    let a = c.args in
    let P = c.passing-pass.result in
    let l = c.loop-value in
    let done = pairs_end a.w.now l.value-index (omega (arith, c.as_chunks.ensures.front_len)) in
    sym (ap (λ (b : Bool). cond b (row l.all) (row l.falses)) c.if-may.true)
    ∙ sym (ap (λ (es : List Element). single_from a.each a.c a.k P (length a.w.now / 2 - P) (valued a.values.now) (rows a.reasons.now) (row a.more) es (row l.falses) (row l.all) l.may) done)
    ∙ l.invariant

pub returns-else-may : goal.returns-else-may
returns-else-may c =
    let a = c.args in
    let P = c.passing-pass.result in
    let l = c.loop-value in
    let done = pairs_end a.w.now l.value-index (omega (arith, c.as_chunks.ensures.front_len)) in
    sym (ap (λ (b : Bool). cond b (row l.all) (row l.falses)) c.if-may.false)
    ∙ sym (ap (λ (es : List Element). single_from a.each a.c a.k P (length a.w.now / 2 - P) (valued a.values.now) (rows a.reasons.now) (row a.more) es (row l.falses) (row l.all) l.may) done)
    ∙ l.invariant
