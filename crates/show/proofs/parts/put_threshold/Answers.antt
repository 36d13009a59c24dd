-- `show::parts::put_threshold` meets its contract. Assumes nothing.
use lib.IntN.{pos}
use lib.ListN.{get_or}
use Rattle.bytes_out.proofs.Laws.{put_then}
use Rattle.show.proofs.Joined.{threshold_is}
use Rattle.show.proofs.parts.put_threshold.Goals as goal

pub returns : goal.returns
returns c =
    let args = c.args in
    let at-negated = c.negated in
    let at-put-between = c.put_between-after_minus in
    let at_atom = c.atom in
    let at-put-number = c.put_number in
    rw (← threshold_is (get_or args.t.now args.i (pos 0))) (rw (at-negated.ensures, at_atom.ensures) at (put_then at-put-between.ensures at-put-number.ensures))
