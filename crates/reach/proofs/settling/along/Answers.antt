-- `reach::settling::along` meets its contract. The invariant: what is left is the front of the list, and what is settled so far is settled. Assumes nothing.
use Rattle.layout.specs.Accepted.{program_in}
use Rattle.levels.specs.View.{row}
use Rattle.reach.specs.Arcs.{arcs_of}
use Rattle.reach.proofs.Leading.{from_back}
use Rattle.reach.proofs.Settled.{settling_join}
use Rattle.reach.proofs.settling.along.Goals as goal

pub loop-p-preserved : goal.loop-p-preserved
loop-p-preserved c =
    let a = c.args in
    record {
      front = (from_back a.list.now c.loop-p.p-iterator.iter.rest.now c.next.new.self.iter.rest.now c.in-Some.p.now c.loop-p.invariant.front c.in-Some.ensures.steps).0;
      settled = settling_join (arcs_of a.added (program_in a.t.now)) (row a.done) (row c.loop-p.all) (row c.settle-next.result) c.loop-p.invariant.settled c.settle-next.ensures;
    }
