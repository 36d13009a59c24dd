-- `show::rules::put_body` meets its contract. Assumes nothing.
use mathlib.Core.Path.{◌∙◌}
use Rattle.layout.specs.Layout.{atoms}
use Rattle.aspif_parts.specs.Held.{held_by}
use Rattle.bytes_out.proofs.Laws.{put_then}
use Rattle.show.proofs.Joined.{some_atoms, body_joined}
use Rattle.show.proofs.rules.put_body.Goals as goal

pub returns : goal.returns
returns c =
    let args = c.args in
    let at_some = c.some-one in
    let at-some2 = c.some in
    let at-put-atoms = c.put_atoms-after_positive in
    let at-put-atoms2 = c.put_atoms-after_barred in
    let at-put-literals = c.put_literals in
    rw (← body_joined args.d (held_by args.t.now.words.now args.t.now.places).aggregates (atoms args.positive.now) (atoms args.barred.now) args.literals.now) (rw (at_some.ensures ∙ some_atoms args.positive.now, at-some2.ensures ∙ some_atoms args.barred.now) at (put_then at-put-atoms.ensures (put_then at-put-atoms2.ensures at-put-literals.ensures)))
