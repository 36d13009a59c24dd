-- `aspif_uses::marked` meets its contract. The invariant of its loop: the marks with the rules left are those of all rules. Assumes nothing.
use mathlib.Core.Path.{◌≡◌, refl, sym, ap, ◌∙◌}
use Prim.Native.Nat.{◌+◌, ◌-◌, ◌≤◌}
use native.Mathlib.Omega.{arith}
use lib.ListN.{length}
use Rattle.layout.specs.Layout.{part_at, aggs_at, past_at, past_rule, RuleLies, RulesLie}
use Rattle.layout.proofs.Rounds.{lies_on, members_wide}
use Rattle.aspif_parts.proofs.Marking.{mark_rules_on, mark_rules_none}
use Rattle.aspif_uses.proofs.marked.Goals as goal

pub loop-init : goal.loop-init
loop-init c =
    let e : c.args.t.now.places.rules - 0 ≡ c.args.t.now.places.rules = omega arith in
    rw e (c.args.t.now.places.atoms, c.args.t.now.places.aggregates, c.args.t.now.laid.few_aggregates, c.args.t.now.laid.rules_lie, refl)

pub literals_at-literals-requires : goal.literals_at-literals-requires
literals_at-literals-requires c =
    let lies : RuleLies c.loop.invariant.0 c.loop.invariant.1 c.args.t.now.words.now c.loop.at
    × RulesLie c.loop.invariant.0 c.loop.invariant.1 c.args.t.now.words.now (past_rule c.args.t.now.words.now c.loop.at) (c.args.t.now.places.rules - c.loop.counter - 1) = lies_on _ _ _ _ _ (omega arith) c.loop.invariant.3 in
    let h = (lies).0.aggs.fits in omega arith

pub part-requires : goal.part-requires
part-requires c =
    let lies : RuleLies c.loop.invariant.0 c.loop.invariant.1 c.args.t.now.words.now c.loop.at
    × RulesLie c.loop.invariant.0 c.loop.invariant.1 c.args.t.now.words.now (past_rule c.args.t.now.words.now c.loop.at) (c.args.t.now.places.rules - c.loop.counter - 1) = lies_on _ _ _ _ _ (omega arith) c.loop.invariant.3 in
    let fits : past_at c.args.t.now.words.now c.literals_at-literals.result ≤ length c.args.t.now.words.now = rw c.literals_at-literals.ensures (lies).0.aggs.fits in
    fits

pub mark-next-requires : goal.mark-next-requires
mark-next-requires c =
    let lies : RuleLies c.loop.invariant.0 c.loop.invariant.1 c.args.t.now.words.now c.loop.at
    × RulesLie c.loop.invariant.0 c.loop.invariant.1 c.args.t.now.words.now (past_rule c.args.t.now.words.now c.loop.at) (c.args.t.now.places.rules - c.loop.counter - 1) = lies_on _ _ _ _ _ (omega arith) c.loop.invariant.3 in
    let i = c.loop.invariant in
    rw (c.part.ensures, c.literals_at-literals.ensures) (members_wide i.1 64 (part_at c.args.t.now.words.now (aggs_at c.args.t.now.words.now c.loop.at)) i.2 (lies).0.aggs.members)

pub past-at-requires : goal.past-at-requires
past-at-requires c =
    let lies : RuleLies c.loop.invariant.0 c.loop.invariant.1 c.args.t.now.words.now c.loop.at
    × RulesLie c.loop.invariant.0 c.loop.invariant.1 c.args.t.now.words.now (past_rule c.args.t.now.words.now c.loop.at) (c.args.t.now.places.rules - c.loop.counter - 1) = lies_on _ _ _ _ _ (omega arith) c.loop.invariant.3 in
    let fits : past_at c.args.t.now.words.now c.literals_at-literals.result ≤ length c.args.t.now.words.now = rw c.literals_at-literals.ensures (lies).0.aggs.fits in
    fits

pub loop-preserved : goal.loop-preserved
loop-preserved c =
    let lies : RuleLies c.loop.invariant.0 c.loop.invariant.1 c.args.t.now.words.now c.loop.at
    × RulesLie c.loop.invariant.0 c.loop.invariant.1 c.args.t.now.words.now (past_rule c.args.t.now.words.now c.loop.at) (c.args.t.now.places.rules - c.loop.counter - 1) = lies_on _ _ _ _ _ (omega arith) c.loop.invariant.3 in
    let t = c.args.t.now.words.now in
    let i = c.loop.invariant in
    let e : c.past-at.result ≡ past_rule t c.loop.at = c.past-at.ensures ∙ ap (past_at t) c.literals_at-literals.ensures in
    let k : c.args.t.now.places.rules - (c.loop.counter + 1) ≡ c.args.t.now.places.rules - c.loop.counter - 1 = omega arith in
    rw k (
      i.0,
      i.1,
      i.2,
      rw e (lies).1,
      rw (e, c.mark-next.ensures, c.part.ensures, c.literals_at-literals.ensures) (sym (mark_rules_on t c.loop.at (c.args.t.now.places.rules - c.loop.counter) c.loop.marks (omega arith)) ∙ i.4),
    )

pub returns : goal.returns
returns c = sym (mark_rules_none c.args.t.now.words.now c.loop.at (c.args.t.now.places.rules - c.loop.counter) c.loop.marks (omega arith)) ∙ c.loop.invariant.4
