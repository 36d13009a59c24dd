-- `aspif_rules::put_head` meets its contract: its parts are laid one after the other. Assumes nothing.
use lib.IntN.{nat_abs}
use lib.ListN.{length-map}
use Rattle.layout.specs.Layout.{atoms}
use Rattle.bytes_out.proofs.Laws.{put_then}
use Rattle.aspif_parts.proofs.Texts.{head_parts}
use Rattle.aspif_rules.proofs.put_head.Goals as goal

pub returns : goal.returns
returns c =
    let m = c.args.l.now in
    rw (← head_parts (atoms m), length-map m nat_abs) (put_then c.put-begun.ensures (put_then c.put_field-counted.ensures c.put_atoms.ensures))
