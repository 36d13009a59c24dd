-- `show::parts::put_atom` meets its contract. Assumes nothing.
use Rattle.bytes_out.proofs.Laws.{put_then}
use Rattle.show.proofs.parts.put_atom.Goals as goal

pub returns : goal.returns
returns c =
    let at-put-between = c.put_between-after_between in
    let at-put = c.put-after_word in
    let at_atom = c.atom in
    let at-put-number = c.put_number in
    rw at_atom.ensures at (put_then at-put-between.ensures (put_then at-put.ensures at-put-number.ensures))
