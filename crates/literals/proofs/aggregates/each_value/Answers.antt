-- `literals::aggregates::each_value` meets its contract. Assumes nothing.
use Rattle.std.proofs.Common.{rules, arith, Bool, true, false, ◌≡◌, ◌-◌, nat_abs, pos, get_or, [], length, refl, sym, ap, ◌∙◌}
use mathlib.Core.Bool.{◌||◌}
use Prim.Native.Nat.{ℕ}
use lib.Dec.{ltb, eqb}
use borrow.Author.Tests.{ne_eqb}
use lib.IntN.{ℤ}
use Rattle.interpretation.specs.View.{cell_by, valued, cell_value}
use Rattle.layout.specs.Layout.{pairs}
use Rattle.literals.specs.Elements.{Marks, passes_by, marked_by, marks_of, marks_value}
use Rattle.literals.proofs.Pairs.{value_read, atom_read, value_asked, atom_asked}
use Rattle.literals.proofs.Bytes.{marks_from, marks_end, unfailed, unfailed_value, passing, failing, pass_byte, fail_byte}
use Rattle.literals.proofs.Backwards.{or_turned, each_turned, marks_step, failed_early}
use Rattle.literals.proofs.aggregates.each_value.Goals as goal

pub loop-i-init : goal.loop-i-init
loop-i-init c =
    let a = c.args in
    marks_end a.w.now a.c a.k (valued a.values.now) (length c.as_chunks.result.0.now) (omega (arith, c.as_chunks.ensures.front_len))

pub plain-requires : goal.plain-requires
plain-requires c =
    let q = c.as_chunks in
    value_asked c.args.w.now q.result.0.now q.ensures.front q.ensures.front_len (c.loop-i.i - 1) (omega arith) c.requires _ (search rules)

pub byte-b-requires : goal.byte-b-requires
byte-b-requires c =
    let q = c.as_chunks in
    atom_asked c.args.w.now q.result.0.now q.ensures.front q.ensures.front_len (c.loop-i.i - 1) (omega arith) c.requires _ (search rules)

pub loop-i-preserved-then-passes : goal.loop-i-preserved-then-passes
loop-i-preserved-then-passes c =
    let a = c.args in
    let w = a.w.now in
    let X = valued a.values.now in
    let l = c.loop-i in
    let n = l.i in
    let q = c.as_chunks in
    let front = q.result.0.now in
    let f = q.ensures.front_len in
    let b = c.byte-b.result in
    let first : c.plain.result ≡ nat_abs (get_or (get_or front (n - 1) []) 0 (pos 0)) = search rules in
    let value = first ∙ ap nat_abs (value_read w front q.ensures.front f (n - 1) (omega arith)) in
    let second : cell_by b 0 ≡ X (nat_abs (get_or (get_or front (n - 1) []) 1 (pos 0))) = search rules in
    let cell = second ∙ ap (λ (z : ℤ). X (nat_abs z)) (atom_read w front q.ensures.front f (n - 1) (omega arith)) in
    let v = cell_value (cell_by b 0) in
    marks_step w a.c a.k X n (omega arith) (omega (arith, f)) v true (ap cell_value cell) (sym c.if-passes.true ∙ c.passes.ensures ∙ ap (passes_by a.c a.k) value)
    ∙ ap (marked_by v true) l.invariant ∙ pass_byte b (unfailed l.passed l.passable l.failable) ∙ each_turned (eqb b 1) (ltb b 2) l.passed l.passable l.failable

pub returns-then-b-eq1 : goal.returns-then-b-eq1
returns-then-b-eq1 c =
    let a = c.args in
    let w = a.w.now in
    let X = valued a.values.now in
    let l = c.loop-i in
    let n = l.i in
    let q = c.as_chunks in
    let front = q.result.0.now in
    let f = q.ensures.front_len in
    let b = c.byte-b.result in
    let m = unfailed l.passed l.passable l.failable in
    let first : c.plain.result ≡ nat_abs (get_or (get_or front (n - 1) []) 0 (pos 0)) = search rules in
    let value = first ∙ ap nat_abs (value_read w front q.ensures.front f (n - 1) (omega arith)) in
    let second : cell_by b 0 ≡ X (nat_abs (get_or (get_or front (n - 1) []) 1 (pos 0))) = search rules in
    let cell = second ∙ ap (λ (z : ℤ). X (nat_abs z)) (atom_read w front q.ensures.front f (n - 1) (omega arith)) in
    let v = cell_value (cell_by b 0) in
    let e : marks_from w a.c a.k X (n - 1) ≡ failing (eqb b 1) (ltb b 2) m =
    marks_step w a.c a.k X n (omega arith) (omega (arith, f)) v false (ap cell_value cell) (sym c.if-passes.false ∙ c.passes.ensures ∙ ap (passes_by a.c a.k) value)
    ∙ ap (marked_by v false) l.invariant ∙ fail_byte b m in
    failed_early w a.c a.k X (n - 1) (omega (arith, f)) (ap (λ (k : Marks). k.failed) (e ∙ ap (λ (x : ℕ). failing (eqb x 1) (ltb x 2) m) c.if-b-eq1.true))

pub loop-i-preserved : goal.loop-i-preserved
loop-i-preserved c =
    let a = c.args in
    let w = a.w.now in
    let X = valued a.values.now in
    let l = c.loop-i in
    let n = l.i in
    let q = c.as_chunks in
    let front = q.result.0.now in
    let f = q.ensures.front_len in
    let b = c.byte-b.result in
    let m = unfailed l.passed l.passable l.failable in
    let first : c.plain.result ≡ nat_abs (get_or (get_or front (n - 1) []) 0 (pos 0)) = search rules in
    let value = first ∙ ap nat_abs (value_read w front q.ensures.front f (n - 1) (omega arith)) in
    let second : cell_by b 0 ≡ X (nat_abs (get_or (get_or front (n - 1) []) 1 (pos 0))) = search rules in
    let cell = second ∙ ap (λ (z : ℤ). X (nat_abs z)) (atom_read w front q.ensures.front f (n - 1) (omega arith)) in
    let v = cell_value (cell_by b 0) in
    marks_step w a.c a.k X n (omega arith) (omega (arith, f)) v false (ap cell_value cell) (sym c.if-passes.false ∙ c.passes.ensures ∙ ap (passes_by a.c a.k) value)
    ∙ ap (marked_by v false) l.invariant ∙ fail_byte b m ∙ ap (λ (y : Bool). failing y (ltb b 2) m) (ne_eqb b 1 c.if-b-eq1.false)
    ∙ ap (unfailed l.passed l.passable) (or_turned (ltb b 2) l.failable)

pub returns : goal.returns
returns c =
    let a = c.args in
    let l = c.loop-i in
    let X = valued a.values.now in
    let z : l.i ≡ 0 = omega arith in
    let e : marks_of a.c a.k X (pairs a.w.now) ≡ unfailed l.passed l.passable l.failable = sym (ap (marks_from a.w.now a.c a.k X) z) ∙ l.invariant in
    c.decide.ensures ∙ unfailed_value l.passed l.passable l.failable ∙ sym (ap (marks_value true) e)
