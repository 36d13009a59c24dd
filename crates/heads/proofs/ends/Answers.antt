-- `heads::ends` meets its contract. The invariant of its loop: the ends of lists 0 .. p stand, and the counts of the others. The measure is the number of
-- atoms to come. Assumes nothing.
use mathlib.Core.Path.{◌≡◌, refl, sym, ap, ◌∙◌, subst}
use Prim.Native.Nat.{ℕ, ◌+◌, ◌-◌, ◌*◌, ◌≤◌}
use native.Mathlib.Omega.{arith}
use lib.ListN.{get_or, set}
use Rattle.heads.specs.Heads.{bounds, size, end_of, Ended}
use Rattle.heads.proofs.Counting.{end_zero, end_at, end_rise, ended_on, ended_later, started, started_end, started_ended, ended_whole}
use Rattle.heads.proofs.ends.Goals as goal

pub overflow_add-end : goal.overflow_add-end
overflow_add-end c =
    let first : bounds + c.args.rules ≤ size =
    let a = c.args.lists.now in
    let s = bounds + c.args.rules in
    omega (arith, end_zero a s, end_rise a s 0 256 (omega arith), c.requires.1) in
    omega (arith, first)

pub overflow_cast-lists-2 : goal.overflow_cast-lists-2
overflow_cast-lists-2 c =
    let first : bounds + c.args.rules ≤ size =
    let a = c.args.lists.now in
    let s = bounds + c.args.rules in
    omega (arith, end_zero a s, end_rise a s 0 256 (omega arith), c.requires.1) in
    omega (arith, first)

pub loop-p-init : goal.loop-p-init
loop-p-init c =
    let a = c.args.lists.now in
    let s = bounds + c.args.rules in
    (started_ended a s c.requires.0, sym (end_zero (started a s) s), λ q h. refl)

pub overflow_cast-lists-in-loop-p : goal.overflow_cast-lists-in-loop-p
overflow_cast-lists-in-loop-p c =
    let l = c.loop-p in
    let x = l.p in
    let o = c.args.lists.now in
    let s = bounds + c.args.rules in
    let a = started o s in
    let next : l.end + get_or l.lists (2 * x + 1) 0 ≡ end_of a s x = omega (arith, l.invariant.1, l.invariant.2 x (omega arith), end_at a s x (omega arith)) in
    omega (arith, next, started_end o s x, end_rise o s x 256 (omega arith), c.requires.1)

pub overflow_cast-lists-in-loop-p-2 : goal.overflow_cast-lists-in-loop-p-2
overflow_cast-lists-in-loop-p-2 c =
    let l = c.loop-p in
    let x = l.p in
    let o = c.args.lists.now in
    let s = bounds + c.args.rules in
    let a = started o s in
    let next : l.end + get_or l.lists (2 * x + 1) 0 ≡ end_of a s x = omega (arith, l.invariant.1, l.invariant.2 x (omega arith), end_at a s x (omega arith)) in
    omega (arith, next, started_end o s x, end_rise o s x 256 (omega arith), c.requires.1)

pub loop-p-preserved : goal.loop-p-preserved
loop-p-preserved c =
    let l = c.loop-p in
    let x = l.p in
    let o = c.args.lists.now in
    let s = bounds + c.args.rules in
    let a = started o s in
    let next : l.end + get_or l.lists (2 * x + 1) 0 ≡ end_of a s x = omega (arith, l.invariant.1, l.invariant.2 x (omega arith), end_at a s x (omega arith)) in
    let e = sym next in
    let n : x ≡ x + 1 - 1 = omega arith in (
      subst (λ (k : ℕ). Ended s k a (set (set l.lists (2 * x) (l.end + get_or l.lists (2 * x + 1) 0)) (2 * x + 1) (l.end + get_or l.lists (2 * x + 1) 0))) n
          (subst (λ (n : ℕ). Ended s x a (set (set l.lists (2 * x) n) (2 * x + 1) n)) e (ended_on a s l.lists x l.invariant.0 (omega arith) (omega arith))),
      next ∙ ap (end_of a s) n,
      λ q k. subst (λ (n : ℕ). get_or (set (set l.lists (2 * x) n) (2 * x + 1) n) (2 * q + 1) 0 ≡ get_or l.lists (2 * q + 1) 0) e
          (ended_later a s l.lists x l.invariant.0 (omega arith) (omega arith) q (omega (arith, k)))
          ∙ l.invariant.2 q (omega (arith, k)),
    )

pub returns : goal.returns
returns c =
    let l = c.loop-p in
    let a = c.args.lists.now in
    let s = bounds + c.args.rules in
    let z : l.p ≡ 257 = omega arith in
    ended_whole a s 256 l.lists (subst (λ (n : ℕ). Ended s (n - 1) (started a s) l.lists) z l.invariant.0)
