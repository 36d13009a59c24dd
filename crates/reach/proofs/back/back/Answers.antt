-- `reach::back::back` meets its contract. The invariant: the marked atoms lie on the circle of p, which is marked. The measure: how many atoms are not
-- yet marked. Assumes nothing.
use Prim.Native.Nat.{ℕ, suc, ◌<◌}
use native.Mathlib.Omega.{arith}
use lib.ListN.{length, get_or}
use Rattle.layout.specs.Layout.{program_of}
use Rattle.levels.specs.View.{row}
use Rattle.reach.specs.Arcs.{arcs_of}
use Rattle.reach.proofs.Inside.{laid_inside}
use Rattle.reach.proofs.Graph.{chain_inside}
use Rattle.reach.proofs.Putting.{size_top}
use Rattle.reach.proofs.Leading.{back_first, back_on, back_end}
use Rattle.reach.proofs.back.back.Goals as goal

pub loop-found-init : goal.loop-found-init
loop-found-init c =
    let a = c.args in
    back_first (arcs_of a.added (program_of a.t.now.words.now a.t.now.places)) a.p a.list.now (length a.list.now) c.requires.3 (row c.single-alone.result) c.single-alone.ensures c.requires.1 (omega (arith, c.requires.2, c.args.t.now.laid.few_atoms))

pub walk-next-requires : goal.walk-next-requires
walk-next-requires c =
    let a = c.args in
    let P = program_of a.t.now.words.now a.t.now.places in
    let near : (i : ℕ) → i < length a.list.now → get_or a.list.now i 0 < a.t.now.places.atoms =
    λ i h.
    let w = chain_inside a.added a.t.now.places.atoms P (laid_inside a.t.now.words.now a.t.now.places c.args.t.now.laid) a.p (suc (get_or a.list.now i 0)) (c.requires.1, c.requires.2) (c.requires.3.each i h) in
    omega (arith, w.1) in
    (c.requires.0, c.requires.3.few, near, c.loop-found.invariant.fits)

pub returns-then-next-found : goal.returns-then-next-found
returns-then-next-found c =
    let a = c.args in
    back_end (arcs_of a.added (program_of a.t.now.words.now a.t.now.places)) a.p a.list.now (length a.list.now) c.requires.3 (row c.loop-found.found.marks) c.loop-found.found.count (row c.walk-next.result.marks) c.walk-next.result.count
    c.loop-found.invariant c.walk-next.ensures c.if-next-found.true

pub loop-found-smaller : goal.loop-found-smaller
loop-found-smaller c =
    omega (arith, c.if-next-found.false, c.walk-next.ensures.more, c.walk-next.ensures.sized, size_top (row c.walk-next.result.marks) 256)

pub loop-found-preserved : goal.loop-found-preserved
loop-found-preserved c =
    let a = c.args in
    back_on (arcs_of a.added (program_of a.t.now.words.now a.t.now.places)) a.p a.list.now (length a.list.now) c.requires.3 (row c.loop-found.found.marks) c.loop-found.found.count (row c.walk-next.result.marks) c.walk-next.result.count
    c.loop-found.invariant c.walk-next.ensures
