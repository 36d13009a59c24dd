-- `reach::back::circle` meets its contract. Assumes nothing.
use native.Mathlib.Omega.{arith}
use Rattle.layout.specs.Layout.{program_of}
use Rattle.levels.specs.View.{row}
use Rattle.reach.specs.Arcs.{arcs_of}
use Rattle.reach.specs.Visits.{Reached}
use Rattle.reach.proofs.Putting.{size_top}
use Rattle.reach.proofs.Leading.{reached_of, reached_slice}
use Rattle.reach.proofs.back.circle.Goals as goal

pub shared_ref_as_front-back : goal.shared_ref_as_front-back
shared_ref_as_front-back c =
    let v = c.visit-seen in
    omega (arith, v.ensures.queue.few, size_top (row v.result.marks) 256)

pub back-round-requires : goal.back-round-requires
back-round-requires c =
    let standing : let a = c.args in Reached (arcs_of a.added (program_of a.t.now.words.now a.t.now.places)) a.p c.visit-seen.new.list c.visit-seen.result.count =
    let a = c.args in
    let v = c.visit-seen in
    reached_of (arcs_of a.added (program_of a.t.now.words.now a.t.now.places)) a.p (row v.result.marks) v.new.list v.result.count v.ensures in
    (c.requires.0, c.requires.1, c.requires.2, reached_slice _ _ _ _ c.visit-seen.ensures.queue.sized standing)

pub returns : goal.returns
returns c =
    let standing : let a = c.args in Reached (arcs_of a.added (program_of a.t.now.words.now a.t.now.places)) a.p c.visit-seen.new.list c.visit-seen.result.count =
    let a = c.args in
    let v = c.visit-seen in
    reached_of (arcs_of a.added (program_of a.t.now.words.now a.t.now.places)) a.p (row v.result.marks) v.new.list v.result.count v.ensures in
    (c.back-round.ensures, standing)
