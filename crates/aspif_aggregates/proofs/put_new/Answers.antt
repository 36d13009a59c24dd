-- `aspif_aggregates::put_new` meets its contract: its parts are laid one after the other. Assumes nothing.
use Rattle.bytes_out.proofs.Laws.{put_then}
use Rattle.aspif_parts.proofs.Texts.{head_one}
use Rattle.aspif_aggregates.proofs.put_new.Goals as goal

pub returns : goal.returns
returns c =
    rw (← head_one c.args.p) (put_then c.put-begun.ensures c.put_field.ensures)
