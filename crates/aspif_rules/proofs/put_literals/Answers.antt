-- `aspif_rules::put_literals` meets its contract. The invariant of its loop: to lay the literals left from here is to lay all from the start. Assumes nothing.
use native.Mathlib.Omega.{arith}
use Rattle.aspif.specs.Writing.{stated_literal}
use Rattle.bytes_out.proofs.Laws.{left_step, left_done}
use Rattle.aspif_parts.specs.Held.{held_by}
use Rattle.aspif_parts.proofs.Texts.{stated_on, stated_none}
use Rattle.aspif_rules.proofs.put_literals.Goals as goal

pub loop-i-preserved : goal.loop-i-preserved
loop-i-preserved c =
    (omega arith, left_step (stated_on (stated_literal (held_by c.args.t.now.words.now c.args.t.now.places)) c.args.l.now c.loop-i.i c.loop-i-test.true) c.loop-i.invariant.1 c.put_literal-to.ensures)

pub returns : goal.returns
returns c =
    left_done (stated_none (stated_literal (held_by c.args.t.now.words.now c.args.t.now.places)) c.args.l.now c.loop-i.i c.loop-i-test.false) c.loop-i.invariant.1
