-- `show::rules::put_name` meets its contract. Assumes nothing.
use Rattle.bytes_out.proofs.Laws.{put_then}
use Rattle.show.proofs.rules.put_name.Goals as goal

pub returns : goal.returns
returns c = put_then c.put_byte-after_sign.ensures c.put_number.ensures
