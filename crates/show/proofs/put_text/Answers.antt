-- `show::put_text` meets its contract: its parts are laid one after the other. Assumes nothing.
use Rattle.bytes_out.proofs.Laws.{put_then}
use Rattle.show.proofs.Texts.{text_parts}
use Rattle.show.proofs.put_text.Goals as goal

pub returns : goal.returns
returns c =
    let args = c.args in
    let at-put = c.put-after_word in
    let at-put-number = c.put_number-after_number in
    let at-put2 = c.put-after_atoms in
    let at-put-names = c.put_names-after_names in
    let at-put-rules = c.put_rules in
    rw (← text_parts args.d args.t.now.words.now args.t.now.places) (put_then at-put.ensures (put_then at-put-number.ensures (put_then at-put2.ensures (put_then at-put-names.ensures at-put-rules.ensures))))
