-- `heads::put_head` meets its contract. The invariant of its loop: the rule is put for the atoms from index i on.
-- Assumes nothing.
use mathlib.Core.Path.{◌≡◌, sym, ap, ◌∙◌}
use mathlib.Core.Bool.{true, false}
use Prim.Native.Nat.{ℕ, ◌+◌, ◌-◌, ◌*◌, ◌≤◌, ◌<◌}
use native.Mathlib.Omega.{arith}
use lib.IntN.{pos, nat_abs}
use lib.ListN.{length, get_or, drop}
use Rattle.meaning.specs.Lists.{has}
use Rattle.layout.specs.Layout.{atoms}
use Rattle.heads.proofs.Walks.{has_end, has_from, later, back_here, back_other, back_again}
use Rattle.heads.proofs.Putting.{put_start, put_again, put_within, put_one}
use Rattle.heads.proofs.put_head.Goals as goal

pub loop-i-init : goal.loop-i-init
loop-i-init c =
    let l = c.args.head.now in
    put_start c.args.lists.now c.args.rule (atoms (drop (length l) l)) c.requires.1 (λ p. has_end l (length l) p (omega arith))

pub overflow_sub-front : goal.overflow_sub-front
overflow_sub-front c =
    let l = c.loop-i in
    let i = l.i in
    let head = c.args.head.now in
    let a = c.args.lists.now in
    let L = atoms (drop i head) in
    let M = atoms (drop (i - 1) head) in
    let x = c.atom-p.result in
    let e : x ≡ nat_abs (get_or head (i - 1) (pos 0)) = c.atom-p.ensures in
    let m = c.requires.0 (i - 1) (omega arith) in
    let low : 1 ≤ x = omega (arith, e, m.0) in
    let small : x ≤ 256 = omega (arith, e, m.1) in
    let new : has x L ≡ false = later head i x (omega arith) c.has_atom.ensures ∙ c.if-not-has_atom.true in
    let here : has x M ≡ true = ap (λ (p : ℕ). has p M) e ∙ back_here head i (omega arith) (omega arith) in
    let room : (q : ℕ) → q < x → get_or a (2 * q + 1) 0 < get_or a (2 * x) 0 = λ q h. c.requires.2 x q small (has_from x (i - 1) head here) h in
    omega (arith, (put_within a c.args.rule L L l.lists l.invariant x low small new room).0)

pub loop-i-preserved-then-not-has_atom : goal.loop-i-preserved-then-not-has_atom
loop-i-preserved-then-not-has_atom c =
    let l = c.loop-i in
    let i = l.i in
    let head = c.args.head.now in
    let a = c.args.lists.now in
    let L = atoms (drop i head) in
    let M = atoms (drop (i - 1) head) in
    let x = c.atom-p.result in
    let e : x ≡ nat_abs (get_or head (i - 1) (pos 0)) = c.atom-p.ensures in
    let m = c.requires.0 (i - 1) (omega arith) in
    let low : 1 ≤ x = omega (arith, e, m.0) in
    let small : x ≤ 256 = omega (arith, e, m.1) in
    let new : has x L ≡ false = later head i x (omega arith) c.has_atom.ensures ∙ c.if-not-has_atom.true in
    let here : has x M ≡ true = ap (λ (p : ℕ). has p M) e ∙ back_here head i (omega arith) (omega arith) in
    let room : (q : ℕ) → q < x → get_or a (2 * q + 1) 0 < get_or a (2 * x) 0 = λ q h. c.requires.2 x q small (has_from x (i - 1) head here) h in
    put_one a c.args.rule L M l.lists l.invariant x low small new room here (λ p n. back_other head i (omega arith) (omega arith) p (λ u. n (u ∙ sym e)))

pub loop-i-preserved : goal.loop-i-preserved
loop-i-preserved c =
    let l = c.loop-i in
    let head = c.args.head.now in
    let L = atoms (drop l.i head) in
    let there = ap (λ (p : ℕ). has p L) (sym c.atom-p.ensures) ∙ later head l.i c.atom-p.result (omega arith) c.has_atom.ensures ∙ c.if-not-has_atom.false in
    put_again c.args.lists.now c.args.rule L (atoms (drop (l.i - 1) head)) l.lists l.invariant (back_again head l.i (omega arith) (omega arith) there)
