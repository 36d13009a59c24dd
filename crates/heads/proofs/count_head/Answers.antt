-- `heads::count_head` meets its contract. The invariant of its loop: the atoms from index i on are counted.
-- Assumes nothing.
use mathlib.Core.Path.{◌≡◌, sym, ap, ◌∙◌, subst}
use mathlib.Core.Bool.{false}
use Prim.Native.Nat.{ℕ, ◌-◌, ◌≤◌}
use native.Mathlib.Omega.{arith}
use lib.IntN.{pos, nat_abs}
use lib.ListN.{length, get_or, drop}
use Rattle.meaning.specs.Lists.{has}
use Rattle.layout.specs.Layout.{atoms}
use Rattle.heads.specs.Heads.{Counted}
use Rattle.heads.proofs.Walks.{has_end, later, back_here, back_other, back_again}
use Rattle.heads.proofs.Counting.{counted_start, counted_again, counted_one}
use Rattle.heads.proofs.count_head.Goals as goal

pub loop-i-init : goal.loop-i-init
loop-i-init c =
    let l = c.args.head.now in
    counted_start c.args.lists.now (atoms (drop (length l) l)) c.requires.1 (λ p. has_end l (length l) p (omega arith))

pub loop-i-preserved-then-not-has_atom : goal.loop-i-preserved-then-not-has_atom
loop-i-preserved-then-not-has_atom c =
    let l = c.loop-i in
    let i = l.i in
    let head = c.args.head.now in
    let L = atoms (drop i head) in
    let M = atoms (drop (i - 1) head) in
    let p = c.atom-p.result in
    let e : p ≡ nat_abs (get_or head (i - 1) (pos 0)) = c.atom-p.ensures in
    let small : p ≤ 256 = omega (arith, e, (c.requires.0 (i - 1) (omega arith)).1) in
    let new : has p L ≡ false = later head i p (omega arith) c.has_atom.ensures ∙ c.if-not-has_atom.true in
    counted_one c.args.lists.now L M l.lists l.invariant p small new
    (ap (λ (q : ℕ). has q M) e ∙ back_here head i (omega arith) (omega arith))
    (λ q n. back_other head i (omega arith) (omega arith) q (λ u. n (u ∙ sym e)))

pub loop-i-preserved : goal.loop-i-preserved
loop-i-preserved c =
    let l = c.loop-i in
    let head = c.args.head.now in
    let L = atoms (drop l.i head) in
    let there = ap (λ (p : ℕ). has p L) (sym c.atom-p.ensures) ∙ later head l.i c.atom-p.result (omega arith) c.has_atom.ensures ∙ c.if-not-has_atom.false in
    counted_again c.args.lists.now L (atoms (drop (l.i - 1) head)) l.lists l.invariant (back_again head l.i (omega arith) (omega arith) there)

pub returns : goal.returns
returns c =
    let l = c.loop-i in
    let z : l.i ≡ 0 = omega arith in
    subst (λ (i : ℕ). Counted (atoms (drop i c.args.head.now)) c.args.lists.now l.lists) z l.invariant
