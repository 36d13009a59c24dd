-- `show::parts::put_element` meets its contract. Assumes nothing.
use Rattle.bytes_out.proofs.Laws.{put_then}
use Rattle.show.proofs.parts.put_element.Goals as goal

pub returns : goal.returns
returns c =
    let at-put-between = c.put_between-after_between in
    let at_atom = c.atom in
    let at-put-number = c.put_number-after_value in
    let at-put-byte = c.put_byte-after_colon in
    let at-atom2 = c.atom-2 in
    let at-put-number2 = c.put_number in
    rw (at_atom.ensures, at-atom2.ensures) at (put_then at-put-between.ensures (put_then at-put-number.ensures (put_then at-put-byte.ensures at-put-number2.ensures)))
