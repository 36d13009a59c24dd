-- `bytes_out::put_field` meets its contract: its parts are laid one after the other. Assumes nothing.
use Rattle.bytes_out.proofs.Laws.{put_then}
use Rattle.bytes_out.proofs.put_field.Goals as goal

pub returns : goal.returns
returns c =
    put_then c.put_byte-after_space.ensures c.put_number.ensures
