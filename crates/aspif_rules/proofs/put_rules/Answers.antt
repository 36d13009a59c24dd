-- `aspif_rules::put_rules` meets its contract. The invariant of its loop: to lay the lines of the rules left from here is to lay all from the start. Assumes nothing.
use mathlib.Core.Path.{◌≡◌}
use Prim.Native.Nat.{◌+◌, ◌-◌}
use native.Mathlib.Omega.{arith}
use Rattle.layout.specs.Layout.{past_rule, RuleLies, RulesLie}
use Rattle.layout.proofs.Rounds.{lies_on}
use Rattle.bytes_out.proofs.Laws.{left_start, left_step, left_done}
use Rattle.aspif_parts.specs.Held.{held_by}
use Rattle.aspif_parts.proofs.Held.{held_rules}
use Rattle.aspif_rules.proofs.Bodies.{rules_on, rules_none, uses_here, uses_later}
use Rattle.aspif_rules.proofs.put_rules.Goals as goal

pub loop-init : goal.loop-init
loop-init c =
    let e : c.args.t.now.places.rules - 0 ≡ c.args.t.now.places.rules = omega arith in
    rw e (c.args.t.now.laid.rules_lie, (λ w u. rw (held_rules c.args.t.now.words.now c.args.t.now.places) u), left_start (omega arith) (omega arith))

pub put_rule-to-requires : goal.put_rule-to-requires
put_rule-to-requires c =
    let lies : RuleLies c.args.t.now.places.atoms c.args.t.now.places.aggregates c.args.t.now.words.now c.loop.rule
    × RulesLie c.args.t.now.places.atoms c.args.t.now.places.aggregates c.args.t.now.words.now (past_rule c.args.t.now.words.now c.loop.rule) (c.args.t.now.places.rules - c.loop.counter - 1) = lies_on _ _ _ _ _ (omega arith) c.loop.invariant.0 in
    (c.requires, (lies).0, uses_here (held_by c.args.t.now.words.now c.args.t.now.places) c.args.t.now.words.now c.loop.rule (c.args.t.now.places.rules - c.loop.counter) (omega arith) c.loop.invariant.1)

pub past_rule-rule-requires : goal.past_rule-rule-requires
past_rule-rule-requires c =
    let lies : RuleLies c.args.t.now.places.atoms c.args.t.now.places.aggregates c.args.t.now.words.now c.loop.rule
    × RulesLie c.args.t.now.places.atoms c.args.t.now.places.aggregates c.args.t.now.words.now (past_rule c.args.t.now.words.now c.loop.rule) (c.args.t.now.places.rules - c.loop.counter - 1) = lies_on _ _ _ _ _ (omega arith) c.loop.invariant.0 in
    (lies).0.aggs.fits

pub loop-preserved : goal.loop-preserved
loop-preserved c =
    let lies : RuleLies c.args.t.now.places.atoms c.args.t.now.places.aggregates c.args.t.now.words.now c.loop.rule
    × RulesLie c.args.t.now.places.atoms c.args.t.now.places.aggregates c.args.t.now.words.now (past_rule c.args.t.now.words.now c.loop.rule) (c.args.t.now.places.rules - c.loop.counter - 1) = lies_on _ _ _ _ _ (omega arith) c.loop.invariant.0 in
    let t = c.args.t.now.words.now in
    let h = held_by t c.args.t.now.places in
    let k : c.args.t.now.places.rules - (c.loop.counter + 1) ≡ c.args.t.now.places.rules - c.loop.counter - 1 = omega arith in
    rw (c.past_rule-rule.ensures, k) (
      (lies).1,
      uses_later (held_by t c.args.t.now.places) t c.loop.rule (c.args.t.now.places.rules - c.loop.counter) (omega arith) c.loop.invariant.1,
      left_step (rules_on (held_by t c.args.t.now.places) t c.loop.rule (c.args.t.now.places.rules - c.loop.counter) (omega arith)) c.loop.invariant.2 c.put_rule-to.ensures,
    )

pub returns : goal.returns
returns c =
    left_done (rules_none (held_by c.args.t.now.words.now c.args.t.now.places) c.args.t.now.words.now c.loop.rule (c.args.t.now.places.rules - c.loop.counter) (omega arith)) c.loop.invariant.2
