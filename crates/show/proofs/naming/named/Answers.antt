-- `show::naming::named` meets its contract. The invariant of its loop: the least number from here on is the least from 0 on. Assumes nothing.
use mathlib.Core.Path.{◌≡◌, sym, ap, ◌∙◌}
use Prim.Native.Nat.{◌+◌, ◌-◌}
use native.Mathlib.Omega.{arith}
use Rattle.aspif_parts.specs.Held.{held_by}
use Rattle.notation.specs.Notation.{named_from}
use Rattle.show.proofs.Turns.{named_here, named_later, named_last, named_is}
use Rattle.show.proofs.naming.named.Goals as goal

pub loop-d-init : goal.loop-d-init
loop-d-init c =
    let args = c.args in
    (omega arith, let k : args.t.now.places.aggregates - 0 ≡ args.t.now.places.aggregates = omega arith in ap (named_from (held_by args.t.now.words.now args.t.now.places) 0) k ∙ named_is args.t.now.words.now args.t.now.places)

pub returns-then-in_turn : goal.returns-then-in_turn
returns-then-in_turn c =
    let args = c.args in
    let at-loop = c.loop-d in
    let at-loop-test = c.loop-d-test in
    let at-in-turn = c.in_turn in
    let at-if1 = c.if-in_turn in
    sym (named_here (held_by args.t.now.words.now args.t.now.places) at-loop.d (args.t.now.places.aggregates - at-loop.d) (omega (arith, at-loop-test.true)) (sym at-in-turn.ensures ∙ at-if1.true)) ∙ at-loop.invariant.1

pub loop-d-preserved : goal.loop-d-preserved
loop-d-preserved c =
    let args = c.args in
    let at-loop = c.loop-d in
    let at-loop-test = c.loop-d-test in
    let at-in-turn = c.in_turn in
    let at-if1 = c.if-in_turn in
    (omega (arith, at-loop-test.true), let k : args.t.now.places.aggregates - (at-loop.d + 1) ≡ args.t.now.places.aggregates - at-loop.d - 1 = omega arith in ap (named_from (held_by args.t.now.words.now args.t.now.places) (at-loop.d + 1)) k ∙ sym (named_later (held_by args.t.now.words.now args.t.now.places) at-loop.d (args.t.now.places.aggregates - at-loop.d) (omega (arith, at-loop-test.true)) (sym at-in-turn.ensures ∙ at-if1.false)) ∙ at-loop.invariant.1)

pub returns : goal.returns
returns c =
    let args = c.args in
    let d = c.loop-d.d in
    let e : args.t.now.places.aggregates ≡ d = omega arith in
    e ∙ sym (named_last (held_by args.t.now.words.now args.t.now.places) d (args.t.now.places.aggregates - d) (omega arith)) ∙ c.loop-d.invariant.1
