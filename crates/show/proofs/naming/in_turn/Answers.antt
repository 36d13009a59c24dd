-- `show::naming::in_turn` meets its contract. The invariant of its loop: the rules left from here take the aggregates in turn as all do from the start. Assumes nothing.
use mathlib.Core.Path.{◌≡◌, refl, sym, ap, ◌∙◌}
use Prim.Native.Nat.{ℕ, ◌+◌, ◌-◌}
use native.Mathlib.Omega.{arith}
use Rattle.layout.specs.Layout.{part_at, aggs_at, past_rule, RuleLies, RulesLie}
use Rattle.layout.proofs.Rounds.{lies_on, members_wide}
use Rattle.aspif_parts.specs.Held.{numbered_from}
use Rattle.notation.specs.Notation.{turns, turns_all}
use Rattle.show.proofs.Turns.{all_on, all_none, in_turn_lem}
use Rattle.show.proofs.naming.in_turn.Goals as goal

pub loop-init : goal.loop-init
loop-init c =
    let e : c.args.t.now.places.rules - 0 ≡ c.args.t.now.places.rules = omega arith in
    rw e (c.args.t.now.laid.rules_lie, refl)

pub literals_at-literals-requires : goal.literals_at-literals-requires
literals_at-literals-requires c =
    let lies : RuleLies c.args.t.now.places.atoms c.args.t.now.places.aggregates c.args.t.now.words.now c.loop.rule × RulesLie c.args.t.now.places.atoms c.args.t.now.places.aggregates c.args.t.now.words.now (past_rule c.args.t.now.words.now c.loop.rule) (c.args.t.now.places.rules - c.loop.counter - 1) = lies_on _ _ _ _ _ (omega arith) c.loop.invariant.0 in
    (lies).0.negs.fits

pub part-requires : goal.part-requires
part-requires c =
    let lies : RuleLies c.args.t.now.places.atoms c.args.t.now.places.aggregates c.args.t.now.words.now c.loop.rule × RulesLie c.args.t.now.places.atoms c.args.t.now.places.aggregates c.args.t.now.words.now (past_rule c.args.t.now.words.now c.loop.rule) (c.args.t.now.places.rules - c.loop.counter - 1) = lies_on _ _ _ _ _ (omega arith) c.loop.invariant.0 in
    rw c.literals_at-literals.ensures (lies).0.aggs.fits

pub turns-next-requires : goal.turns-next-requires
turns-next-requires c =
    let lies : RuleLies c.args.t.now.places.atoms c.args.t.now.places.aggregates c.args.t.now.words.now c.loop.rule × RulesLie c.args.t.now.places.atoms c.args.t.now.places.aggregates c.args.t.now.words.now (past_rule c.args.t.now.words.now c.loop.rule) (c.args.t.now.places.rules - c.loop.counter - 1) = lies_on _ _ _ _ _ (omega arith) c.loop.invariant.0 in
    let args = c.args in
    let pre = c.requires in
    let at-loop = c.loop in
    let at-literals-at = c.literals_at-literals in
    let at_part = c.part in
    rw (at_part.ensures, at-literals-at.ensures) (members_wide args.t.now.places.aggregates 64 (part_at args.t.now.words.now (aggs_at args.t.now.words.now at-loop.rule)) c.args.t.now.laid.few_aggregates (lies).0.aggs.members)

pub past_rule-rule-requires : goal.past_rule-rule-requires
past_rule-rule-requires c =
    let lies : RuleLies c.args.t.now.places.atoms c.args.t.now.places.aggregates c.args.t.now.words.now c.loop.rule × RulesLie c.args.t.now.places.atoms c.args.t.now.places.aggregates c.args.t.now.words.now (past_rule c.args.t.now.words.now c.loop.rule) (c.args.t.now.places.rules - c.loop.counter - 1) = lies_on _ _ _ _ _ (omega arith) c.loop.invariant.0 in
    (lies).0.aggs.fits

pub loop-preserved : goal.loop-preserved
loop-preserved c =
    let lies : RuleLies c.args.t.now.places.atoms c.args.t.now.places.aggregates c.args.t.now.words.now c.loop.rule × RulesLie c.args.t.now.places.atoms c.args.t.now.places.aggregates c.args.t.now.words.now (past_rule c.args.t.now.words.now c.loop.rule) (c.args.t.now.places.rules - c.loop.counter - 1) = lies_on _ _ _ _ _ (omega arith) c.loop.invariant.0 in
    let again : turns_all c.args.d c.turns-next.result (numbered_from c.args.t.now.words.now (past_rule c.args.t.now.words.now c.loop.rule) (c.args.t.now.places.rules - c.loop.counter - 1)) ≡ turns_all c.args.d (c.args.d + 1) (numbered_from c.args.t.now.words.now c.args.t.now.places.first c.args.t.now.places.rules) =
    let args = c.args in
    let at-loop = c.loop in
    let at-literals-at = c.literals_at-literals in
    let at_part = c.part in
    let at-turns = c.turns-next in
    ap (λ (e : ℕ). turns_all args.d e (numbered_from args.t.now.words.now (past_rule args.t.now.words.now at-loop.rule) (c.args.t.now.places.rules - c.loop.counter - 1))) (at-turns.ensures ∙ ap (turns args.d at-loop.next) (at_part.ensures ∙ ap (part_at args.t.now.words.now) at-literals-at.ensures)) ∙ sym (all_on args.d at-loop.next args.t.now.words.now at-loop.rule (c.args.t.now.places.rules - c.loop.counter) (omega arith)) ∙ at-loop.invariant.1 in
    let k : c.args.t.now.places.rules - (c.loop.counter + 1) ≡ c.args.t.now.places.rules - c.loop.counter - 1 = omega arith in
    rw (c.past_rule-rule.ensures, k) ((lies).1, again)

pub returns : goal.returns
returns c =
    let args = c.args in
    let at-loop = c.loop in
    in_turn_lem args.t.now.words.now args.t.now.places args.d at-loop.next (sym (all_none args.d at-loop.next args.t.now.words.now at-loop.rule (c.args.t.now.places.rules - c.loop.counter) (omega arith)) ∙ at-loop.invariant.1)
