-- `show::put_named` meets its contract. Assumes nothing.
use Rattle.bytes_out.proofs.Laws.{put_then}
use Rattle.show.proofs.Texts.{aggregate_is}
use Rattle.show.proofs.put_named.Goals as goal

pub returns : goal.returns
returns c =
    let args = c.args in
    let pre = c.requires in
    let at-put-name = c.put_name-after_name in
    let at-put = c.put-after_is in
    let at-start = c.start in
    let at-put-aggregate = c.put_aggregate-after_aggregate in
    let at-put2 = c.put in
    rw (aggregate_is args.t.now.words.now args.t.now.places c.args.t.now.laid args.j at-start.result pre at-start.ensures) at (put_then at-put-name.ensures (put_then at-put.ensures (put_then at-put-aggregate.ensures at-put2.ensures)))
