-- `aspif_rules::put_rule` meets its contract: its parts are laid one after the other. Assumes nothing.
use Rattle.bytes_out.proofs.Laws.{put_then}
use Rattle.aspif_parts.specs.Held.{held_by}
use Rattle.aspif_rules.proofs.Bodies.{rule_parts}
use Rattle.aspif_rules.proofs.put_rule.Goals as goal

pub returns : goal.returns
returns c =
    let t = c.args.t.now.words.now in
    rw (← rule_parts (held_by t c.args.t.now.places) t c.args.rule)
    (rw (c.part.ensures, c.past-positive.ensures) at (put_then c.put_head-after_head.ensures (put_then c.put_body-after_body.ensures c.put_byte.ensures)))
