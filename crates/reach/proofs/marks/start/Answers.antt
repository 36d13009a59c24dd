-- `reach::marks::start` meets its contract. Assumes nothing.
use Rattle.reach.proofs.Putting.{start_queue}
use Rattle.reach.proofs.marks.start.Goals as goal

pub returns : goal.returns
returns c =
    let a = c.args in
    (c.single-marks.ensures, start_queue a.list.now a.p c.requires.2 c.requires.0 c.requires.1)
