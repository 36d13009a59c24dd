-- `show::rules::put_rules` meets its contract. The invariant of its loop: to lay the lines of the rules left from here is to lay all from the start. Assumes nothing.
use mathlib.Core.Path.{◌≡◌}
use Prim.Native.Nat.{◌+◌, ◌-◌}
use native.Mathlib.Omega.{arith}
use Rattle.layout.specs.Layout.{past_rule, RuleLies, RulesLie}
use Rattle.layout.proofs.Rounds.{lies_on}
use Rattle.aspif_parts.specs.Held.{held_by}
use Rattle.aspif_parts.proofs.Held.{held_rules}
use Rattle.bytes_out.proofs.Laws.{left_start, left_step, left_done}
use Rattle.show.proofs.Texts.{rules_on, rules_none}
use Rattle.show.proofs.rules.put_rules.Goals as goal

pub loop-i-init : goal.loop-i-init
loop-i-init c =
    let pre = c.args.t.now.laid in
    let args = c.args in
    let e : c.args.t.now.places.rules - 0 ≡ c.args.t.now.places.rules = omega arith in
    rw e (pre.rules_lie, rw (held_rules args.t.now.words.now args.t.now.places) (left_start (omega arith) (omega arith)))

pub put_line-to-requires : goal.put_line-to-requires
put_line-to-requires c =
    let lies : RuleLies c.args.t.now.places.atoms c.args.t.now.places.aggregates c.args.t.now.words.now c.loop-i.rule × RulesLie c.args.t.now.places.atoms c.args.t.now.places.aggregates c.args.t.now.words.now (past_rule c.args.t.now.words.now c.loop-i.rule) (c.args.t.now.places.rules - c.loop-i.i - 1) = lies_on _ _ _ _ _ (omega arith) c.loop-i.invariant.0 in
    (lies).0

pub past_rule-rule-requires : goal.past_rule-rule-requires
past_rule-rule-requires c =
    let lies : RuleLies c.args.t.now.places.atoms c.args.t.now.places.aggregates c.args.t.now.words.now c.loop-i.rule × RulesLie c.args.t.now.places.atoms c.args.t.now.places.aggregates c.args.t.now.words.now (past_rule c.args.t.now.words.now c.loop-i.rule) (c.args.t.now.places.rules - c.loop-i.i - 1) = lies_on _ _ _ _ _ (omega arith) c.loop-i.invariant.0 in
    (lies).0.aggs.fits

pub loop-i-preserved : goal.loop-i-preserved
loop-i-preserved c =
    let lies : RuleLies c.args.t.now.places.atoms c.args.t.now.places.aggregates c.args.t.now.words.now c.loop-i.rule × RulesLie c.args.t.now.places.atoms c.args.t.now.places.aggregates c.args.t.now.words.now (past_rule c.args.t.now.words.now c.loop-i.rule) (c.args.t.now.places.rules - c.loop-i.i - 1) = lies_on _ _ _ _ _ (omega arith) c.loop-i.invariant.0 in
    let args = c.args in
    let at-loop = c.loop-i in
    let at-put-line = c.put_line-to in
    let at-past-rule = c.past_rule-rule in
    let k : c.args.t.now.places.rules - (c.loop-i.i + 1) ≡ c.args.t.now.places.rules - c.loop-i.i - 1 = omega arith in
    rw (at-past-rule.ensures, k) ((lies).1, left_step (rules_on args.d (held_by args.t.now.words.now args.t.now.places).aggregates args.t.now.words.now (at-loop.i + 1) at-loop.rule (c.args.t.now.places.rules - c.loop-i.i) (omega arith)) at-loop.invariant.1 at-put-line.ensures)

pub returns : goal.returns
returns c =
    let args = c.args in
    let at-loop = c.loop-i in
    left_done (rules_none args.d (held_by args.t.now.words.now args.t.now.places).aggregates args.t.now.words.now (at-loop.i + 1) at-loop.rule (c.args.t.now.places.rules - c.loop-i.i) (omega arith)) at-loop.invariant.1
