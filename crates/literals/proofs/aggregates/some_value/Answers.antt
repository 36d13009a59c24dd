-- `literals::aggregates::some_value` meets its contract. Assumes nothing.
use Rattle.std.proofs.Common.{rules, arith, Bool, true, false, ◌≡◌, ◌-◌, nat_abs, pos, get_or, [], length, refl, sym, ap, ◌∙◌}
use mathlib.Core.Bool.{◌||◌}
use Prim.Native.Nat.{ℕ}
use lib.Dec.{ltb, eqb}
use borrow.Author.Tests.{ne_eqb}
use lib.IntN.{ℤ}
use Rattle.interpretation.specs.View.{cell_by, valued, cell_value}
use Rattle.interpretation.specs.declared.Value.{Value}
use Rattle.layout.specs.Layout.{pairs}
use Rattle.literals.specs.Elements.{Marks, passes_by, marked_by, marks_of}
use Rattle.literals.proofs.Pairs.{pair_on, value_read, atom_read, value_asked, atom_asked}
use Rattle.literals.proofs.Bytes.{marks_from, marks_end, passing, pass_byte, fail_passed, fail_passable}
use Rattle.literals.proofs.Backwards.{or_turned, some_none, marks_step, passed_early}
use Rattle.literals.proofs.aggregates.some_value.Goals as goal

pub loop-i-init : goal.loop-i-init
loop-i-init c =
    let a = c.args in
    let none = marks_end a.w.now a.c a.k (valued a.values.now) (length c.as_chunks.result.0.now) (omega (arith, c.as_chunks.ensures.front_len)) in
    (ap (λ (m : Marks). m.passed) none, ap (λ (m : Marks). m.passable) none)

pub plain-requires : goal.plain-requires
plain-requires c =
    let q = c.as_chunks in
    value_asked c.args.w.now q.result.0.now q.ensures.front q.ensures.front_len (c.loop-i.i - 1) (omega arith) c.requires _ (search rules)

pub byte-b-requires : goal.byte-b-requires
byte-b-requires c =
    let q = c.as_chunks in
    atom_asked c.args.w.now q.result.0.now q.ensures.front q.ensures.front_len (c.loop-i.i - 1) (omega arith) c.requires _ (search rules)

pub returns-then-b-eq1 : goal.returns-then-b-eq1
returns-then-b-eq1 c =
    let a = c.args in
    let w = a.w.now in
    let X = valued a.values.now in
    let n = c.loop-i.i in
    let q = c.as_chunks in
    let front = q.result.0.now in
    let f = q.ensures.front_len in
    let b = c.byte-b.result in
    let first : c.plain.result ≡ nat_abs (get_or (get_or front (n - 1) []) 0 (pos 0)) = search rules in
    let value = first ∙ ap nat_abs (value_read w front q.ensures.front f (n - 1) (omega arith)) in
    let second : cell_by b 0 ≡ X (nat_abs (get_or (get_or front (n - 1) []) 1 (pos 0))) = search rules in
    let cell = second ∙ ap (λ (z : ℤ). X (nat_abs z)) (atom_read w front q.ensures.front f (n - 1) (omega arith)) in
    let m = marks_from w a.c a.k X n in
    let e : marks_from w a.c a.k X (n - 1) ≡ passing (eqb b 1) (ltb b 2) m =
    marks_step w a.c a.k X n (omega arith) (omega (arith, f)) (cell_value (cell_by b 0)) true (ap cell_value cell) (sym c.if-passes.true ∙ c.passes.ensures ∙ ap (passes_by a.c a.k) value)
    ∙ pass_byte b m in
    let g = e ∙ ap (λ (x : ℕ). passing (eqb x 1) (ltb x 2) m) c.if-b-eq1.true in
    passed_early w a.c a.k X (n - 1) (omega (arith, f)) (ap (λ (k : Marks). k.passed) g) (ap (λ (k : Marks). k.passable) g)

pub loop-i-preserved-then-passes : goal.loop-i-preserved-then-passes
loop-i-preserved-then-passes c =
    let a = c.args in
    let w = a.w.now in
    let X = valued a.values.now in
    let n = c.loop-i.i in
    let q = c.as_chunks in
    let front = q.result.0.now in
    let f = q.ensures.front_len in
    let b = c.byte-b.result in
    let first : c.plain.result ≡ nat_abs (get_or (get_or front (n - 1) []) 0 (pos 0)) = search rules in
    let value = first ∙ ap nat_abs (value_read w front q.ensures.front f (n - 1) (omega arith)) in
    let second : cell_by b 0 ≡ X (nat_abs (get_or (get_or front (n - 1) []) 1 (pos 0))) = search rules in
    let cell = second ∙ ap (λ (z : ℤ). X (nat_abs z)) (atom_read w front q.ensures.front f (n - 1) (omega arith)) in
    let m = marks_from w a.c a.k X n in
    let e : marks_from w a.c a.k X (n - 1) ≡ passing (eqb b 1) (ltb b 2) m =
    marks_step w a.c a.k X n (omega arith) (omega (arith, f)) (cell_value (cell_by b 0)) true (ap cell_value cell) (sym c.if-passes.true ∙ c.passes.ensures ∙ ap (passes_by a.c a.k) value)
    ∙ pass_byte b m in (
      ap (λ (k : Marks). k.passed) e ∙ ap (λ (x : Bool). x || m.passed) (ne_eqb b 1 c.if-b-eq1.false) ∙ c.loop-i.invariant.0,
      ap (λ (k : Marks). k.passable) e ∙ ap (λ (x : Bool). ltb b 2 || x) c.loop-i.invariant.1 ∙ or_turned (ltb b 2) c.loop-i.passable,
    )

pub loop-i-preserved : goal.loop-i-preserved
loop-i-preserved c =
    let a = c.args in
    let w = a.w.now in
    let X = valued a.values.now in
    let n = c.loop-i.i in
    let q = c.as_chunks in
    let front = q.result.0.now in
    let f = q.ensures.front_len in
    let first : c.plain.result ≡ nat_abs (get_or (get_or front (n - 1) []) 0 (pos 0)) = search rules in
    let value = first ∙ ap nat_abs (value_read w front q.ensures.front f (n - 1) (omega arith)) in
    let v = cell_value (X (pair_on w (n - 1)).atom) in
    let m = marks_from w a.c a.k X n in
    let e = marks_step w a.c a.k X n (omega arith) (omega (arith, f)) v false refl (sym c.if-passes.false ∙ c.passes.ensures ∙ ap (passes_by a.c a.k) value) in (
      ap (λ (k : Marks). k.passed) e ∙ fail_passed v m ∙ c.loop-i.invariant.0,
      ap (λ (k : Marks). k.passable) e ∙ fail_passable v m ∙ c.loop-i.invariant.1,
    )

pub returns : goal.returns
returns c =
    let a = c.args in
    let m = marks_of a.c a.k (valued a.values.now) (pairs a.w.now) in
    let z : c.loop-i.i ≡ 0 = omega arith in
    let e : (marks_from a.w.now a.c a.k (valued a.values.now) c.loop-i.i) ≡ m = ap (marks_from a.w.now a.c a.k (valued a.values.now)) z in
    c.between.ensures ∙ some_none m c.loop-i.passable (sym (ap (λ (k : Marks). k.passed) e) ∙ c.loop-i.invariant.0) (sym (ap (λ (k : Marks). k.passable) e) ∙ c.loop-i.invariant.1)
