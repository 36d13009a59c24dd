-- `aspif_write::put_text` meets its contract: its parts are laid one after the other. Assumes nothing.
use Rattle.bytes_out.proofs.Laws.{put_then}
use Rattle.aspif_write.proofs.Contents.{text_is}
use Rattle.aspif_write.proofs.put_text.Goals as goal

pub returns : goal.returns
returns c =
    rw (← text_is c.args.t.now.words.now c.args.t.now.places) (put_then c.put-after_header.ensures (put_then c.put_rules-after_rules.ensures (put_then c.put_all_used-after_used.ensures c.put.ensures)))
