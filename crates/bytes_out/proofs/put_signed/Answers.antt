-- `bytes_out::put_signed` meets its contract: its parts are laid one after the other. Assumes nothing.
use Rattle.bytes_out.proofs.Laws.{put_then}
use Rattle.bytes_out.proofs.put_signed.Goals as goal

pub returns : goal.returns
returns c =
    rw c.if-plain.false (put_then c.put_byte-after_space.ensures (put_then c.put_byte-after_minus.ensures c.put_number.ensures))
