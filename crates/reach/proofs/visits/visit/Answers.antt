-- `reach::visits::visit` meets its contract. The invariant: all marked atoms are reached, and the arcs of the atoms on the list before index i go to marked
-- atoms. The measure: the places of the list that are still to come. Assumes nothing.
use mathlib.Core.Path.{◌≡◌, ap, ◌∙◌}
use Prim.Native.Nat.{suc, ◌+◌, ◌<◌}
use native.Mathlib.Omega.{arith}
use lib.ListN.{get_or}
use Rattle.meaning.specs.Program.{In}
use Rattle.layout.specs.Layout.{program_of}
use Rattle.levels.specs.View.{row}
use Rattle.reach.specs.Arcs.{arcs_of}
use Rattle.reach.proofs.Inside.{laid_inside}
use Rattle.reach.proofs.Graph.{arcs_inside, chain_inside}
use Rattle.reach.proofs.Putting.{size_top}
use Rattle.reach.proofs.Visiting.{visit_first, visit_on, visit_end}
use Rattle.reach.proofs.visits.visit.Goals as goal

pub loop-i-init : goal.loop-i-init
loop-i-init c =
    let a = c.args in
    visit_first (arcs_of a.added (program_of a.t.now.words.now a.t.now.places)) a.p (row c.start-seen.result.marks) c.start-seen.new.list c.start-seen.result.count c.start-seen.ensures.0 c.start-seen.ensures.1

pub bounds-list-i : goal.bounds-list-i
bounds-list-i c =
    let near : c.loop-i.i < 256 =
    omega (arith, c.loop-i-test.true, c.loop-i.invariant.queue.few, size_top (row c.loop-i.seen.marks) 256) in
    near

pub from_atom-to-requires : goal.from_atom-to-requires
from_atom-to-requires c =
    let in-range : In c.args.t.now.places.atoms (suc (get_or c.loop-i.list c.loop-i.i 0)) =
    let a = c.args in
    let q = suc (get_or c.loop-i.list c.loop-i.i 0) in
    chain_inside a.added a.t.now.places.atoms (program_of a.t.now.words.now a.t.now.places) (laid_inside a.t.now.words.now a.t.now.places c.args.t.now.laid) a.p q (c.requires.1, c.requires.2)
    (c.loop-i.invariant.reached q (c.loop-i.invariant.queue.each c.loop-i.i c.loop-i-test.true)) in
    let h = in-range in
    (c.requires.0, omega arith, omega (arith, h.1))

pub loop-i-smaller : goal.loop-i-smaller
loop-i-smaller c =
    let near : c.loop-i.i < 256 =
    omega (arith, c.loop-i-test.true, c.loop-i.invariant.queue.few, size_top (row c.loop-i.seen.marks) 256) in
    let h = near in omega (arith, h)

pub loop-i-preserved : goal.loop-i-preserved
loop-i-preserved c =
    let a = c.args in
    let P = program_of a.t.now.words.now a.t.now.places in
    let next : get_or c.loop-i.list c.loop-i.i 0 + 1 ≡ suc (get_or c.loop-i.list c.loop-i.i 0) = omega arith in
    visit_on (arcs_of a.added P) a.p a.t.now.places.atoms (arcs_inside a.added a.t.now.places.atoms P (laid_inside a.t.now.words.now a.t.now.places c.args.t.now.laid))
    (row c.loop-i.seen.marks) c.loop-i.list c.loop-i.seen.count c.loop-i.i c.loop-i.invariant c.loop-i-test.true
    (row c.from_atom-to.result) (c.from_atom-to.ensures ∙ ap (arcs_of a.added P) next) (row c.put-seen.result.marks) c.put-seen.new.list c.put-seen.result.count c.put-seen.ensures

pub returns : goal.returns
returns c =
    let a = c.args in
    visit_end (arcs_of a.added (program_of a.t.now.words.now a.t.now.places)) a.p (row c.loop-i.seen.marks) c.loop-i.list c.loop-i.seen.count c.loop-i.i c.loop-i.invariant c.loop-i-test.false
