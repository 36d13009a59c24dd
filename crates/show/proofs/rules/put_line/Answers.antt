-- `show::rules::put_line` meets its contract. Assumes nothing.
use Rattle.bytes_out.proofs.Laws.{put_then}
use Rattle.show.proofs.rules.put_line.Goals as goal

pub returns : goal.returns
returns c =
    let at-put-number = c.put_number-after_number in
    let at-put = c.put-after_colon in
    let at-put-rule = c.put_rule in
    put_then at-put-number.ensures (put_then at-put.ensures at-put-rule.ensures)
