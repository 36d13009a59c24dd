-- `show::put_names` meets its contract. The invariant of its loop: to lay the lines left from here is to lay all from the start. Assumes nothing.
use native.Mathlib.Omega.{arith}
use Rattle.aspif_parts.specs.Held.{held_by}
use Rattle.aspif_parts.proofs.Held.{held_long}
use Rattle.bytes_out.proofs.Laws.{left_step, left_done}
use Rattle.show.proofs.Texts.{names_on, names_none}
use Rattle.show.proofs.put_names.Goals as goal

pub loop-j-preserved : goal.loop-j-preserved
loop-j-preserved c =
    let args = c.args in
    let pre = c.requires in
    let at-loop = c.loop-j in
    let at-loop-test = c.loop-j-test in
    let at-put-named = c.put_named-to in
    (omega arith, left_step (names_on (held_by args.t.now.words.now args.t.now.places).aggregates args.d at-loop.j (omega (arith, held_long args.t.now.words.now args.t.now.places, pre)) at-loop-test.true) at-loop.invariant.1 at-put-named.ensures)

pub returns : goal.returns
returns c =
    let args = c.args in
    let pre = c.requires in
    let at-loop = c.loop-j in
    let at-loop-test = c.loop-j-test in
    left_done (names_none (held_by args.t.now.words.now args.t.now.places).aggregates args.d at-loop.j (omega (arith, held_long args.t.now.words.now args.t.now.places, pre)) at-loop-test.false) at-loop.invariant.1
