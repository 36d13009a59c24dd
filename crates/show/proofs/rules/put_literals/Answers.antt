-- `show::rules::put_literals` meets its contract. The invariant of its loop: to lay the literals left from here is to lay all from the start. Assumes nothing.
use native.Mathlib.Omega.{arith}
use Rattle.aspif_parts.specs.Held.{held_by}
use Rattle.bytes_out.proofs.Laws.{left_step, left_done}
use Rattle.notation.specs.Notation.{comma, literal_text}
use Rattle.show.proofs.Joined.{joined_on, joined_none}
use Rattle.show.proofs.rules.put_literals.Goals as goal

pub loop-i-preserved : goal.loop-i-preserved
loop-i-preserved c =
    let args = c.args in
    let at-loop = c.loop-i in
    let at-loop-test = c.loop-i-test in
    let at-put-literal = c.put_literal-to in
    (omega arith, left_step (joined_on comma at-loop.follows (literal_text args.d (held_by args.t.now.words.now args.t.now.places).aggregates) args.l.now at-loop.i at-loop-test.true) at-loop.invariant.1 at-put-literal.ensures)

pub returns : goal.returns
returns c =
    let args = c.args in
    let at-loop = c.loop-i in
    let at-loop-test = c.loop-i-test in
    left_done (joined_none comma at-loop.follows (literal_text args.d (held_by args.t.now.words.now args.t.now.places).aggregates) args.l.now at-loop.i at-loop-test.false) at-loop.invariant.1
