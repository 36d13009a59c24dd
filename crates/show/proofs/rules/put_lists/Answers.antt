-- `show::rules::put_lists` meets its contract. Assumes nothing.
use mathlib.Core.Path.{◌∙◌}
use Rattle.layout.specs.Layout.{atoms}
use Rattle.aspif_parts.specs.Held.{held_by}
use Rattle.bytes_out.proofs.Laws.{put_then}
use Rattle.show.proofs.Joined.{some_atoms, body_some}
use Rattle.show.proofs.rules.put_lists.Goals as goal

pub returns : goal.returns
returns c =
    let args = c.args in
    let at_some = c.some in
    let at-some2 = c.some-2 in
    let at-some3 = c.some-3 in
    let at-put-atoms = c.put_atoms-after_head in
    let at-some4 = c.some-4 in
    let at-put-neck = c.put_neck-after_neck in
    let at-put-body = c.put_body-after_body in
    let at-put = c.put in
    rw (← body_some args.d (held_by args.t.now.words.now args.t.now.places).aggregates (atoms args.positive.now) (atoms args.barred.now) args.literals.now) (rw (at-some4.ensures ∙ some_atoms args.head.now, at_some.ensures ∙ some_atoms args.positive.now, at-some2.ensures ∙ some_atoms args.barred.now, at-some3.ensures) at (put_then at-put-atoms.ensures (put_then at-put-neck.ensures (put_then at-put-body.ensures at-put.ensures))))
