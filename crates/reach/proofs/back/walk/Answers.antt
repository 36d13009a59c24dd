-- `reach::back::walk` meets its contract. The invariant: what is left is the front of the list, and the atoms behind it are walked. Assumes nothing.
use mathlib.Core.Path.{◌≡◌, ap, subst}
use Prim.Native.Nat.{ℕ, suc, ◌+◌, ◌-◌}
use native.Mathlib.Omega.{arith}
use lib.ListN.{length, get_or}
use Rattle.layout.specs.Layout.{program_of}
use Rattle.levels.specs.View.{row}
use Rattle.reach.specs.Arcs.{arcs_of}
use Rattle.reach.specs.Visits.{Led, Walked}
use Rattle.reach.proofs.Leading.{walked_on, from_back}
use Rattle.reach.proofs.back.walk.Goals as goal

pub loop-q-preserved : goal.loop-q-preserved
loop-q-preserved c =
    let a = c.args in
    let l = a.list.now in
    let R = arcs_of a.added (program_of a.t.now.words.now a.t.now.places) in
    let old = c.loop-q.all in
    let new = c.led-all.result in
    let i = length c.loop-q.q-iterator.iter.rest.now in
    let rest = c.next.new.self.iter.rest.now in
    let f = from_back l c.loop-q.q-iterator.iter.rest.now rest c.in-Some.q.now c.loop-q.invariant.front c.in-Some.ensures.steps in
    let e : i - 1 ≡ length rest = omega (arith, f.1) in
    let q : c.in-Some.q.now + 1 ≡ suc (get_or l (i - 1) 0) = omega (arith, f.3, ap (λ (j : ℕ). get_or l j 0) e) in
    let led : Led R (suc (get_or l (i - 1) 0)) (row old.marks) old.count (row new.marks) new.count
    = subst (λ (s : ℕ). Led R s (row old.marks) old.count (row new.marks) new.count) q c.led-all.ensures in
    let walked = walked_on R l (length l) (row a.found.marks) a.found.count i (row old.marks) old.count (row new.marks) new.count
    (omega (arith, f.1)) f.2 c.loop-q.invariant.walked led in
    record {
      front = f.0;
      walked = subst (λ (j : ℕ). Walked R l j (length l) (row a.found.marks) a.found.count (row new.marks) new.count) e walked;
    }
