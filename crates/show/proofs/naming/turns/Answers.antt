-- `show::naming::turns` meets its contract. Assumes nothing.
use mathlib.Core.Path.{sym, ◌∙◌}
use native.Mathlib.Omega.{arith}
use Rattle.show.proofs.Turns.{turns_on, turns_none}
use Rattle.show.proofs.naming.turns.Goals as goal

pub loop-i-preserved : goal.loop-i-preserved
loop-i-preserved c =
    let args = c.args in
    let at-loop = c.loop-i in
    let at-loop-test = c.loop-i-test in
    let at_turn = c.turn-next in
    (omega arith, rw at_turn.ensures (sym (turns_on args.d at-loop.next args.l.now at-loop.i at-loop-test.true) ∙ at-loop.invariant.1))

pub returns : goal.returns
returns c =
    let args = c.args in
    let at-loop = c.loop-i in
    let at-loop-test = c.loop-i-test in
    sym (turns_none args.d at-loop.next args.l.now at-loop.i at-loop-test.false) ∙ at-loop.invariant.1
