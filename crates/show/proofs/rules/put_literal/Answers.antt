-- `show::rules::put_literal` meets its contract. Assumes nothing.
use lib.IntN.{pos}
use lib.ListN.{get_or}
use Rattle.aspif_parts.specs.Held.{held_by}
use Rattle.bytes_out.proofs.Laws.{put_then}
use Rattle.show.proofs.Texts.{literal_parts}
use Rattle.show.proofs.rules.put_literal.Goals as goal

pub returns : goal.returns
returns c =
    let args = c.args in
    let at-put-between = c.put_between-after_between in
    let at-negated = c.negated in
    let at-put-between2 = c.put_between-after_not in
    let at_atom = c.atom in
    let at-put-reference = c.put_reference in
    rw (← literal_parts args.d (held_by args.t.now.words.now args.t.now.places).aggregates (get_or args.l.now args.i (pos 0))) (rw (at-negated.ensures, at_atom.ensures) at (put_then at-put-between.ensures (put_then at-put-between2.ensures at-put-reference.ensures)))
