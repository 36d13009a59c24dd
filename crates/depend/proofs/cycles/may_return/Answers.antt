-- `depend::cycles::may_return` meets its contract. Assumes nothing.
use mathlib.Core.Path.{sym, ap, ◌∙◌, subst}
use mathlib.Core.Bool.{true, false}
use Prim.Native.Nat.{ℕ, ◌+◌, ◌-◌}
use Rattle.meaning.specs.Lists.{any}
use Rattle.layout.specs.Layout.{rules_from, RulesLie}
use Rattle.depend.specs.Cycles.{adds_arcs}
use Rattle.depend.proofs.Walk.{walk_on, lies_next, some_on, some_end}
use Rattle.depend.proofs.cycles.may_return.Goals as goal

pub adds_arcs-requires : goal.adds_arcs-requires
adds_arcs-requires c =
    let tb = c.args.t.now.places in
    let r = (lies_next c.args.t.now.words.now c.loop.at c.loop.counter tb.rules tb.atoms tb.aggregates c.loop-test.true c.loop.invariant.0).0 in
    (r.heads.fits, r.negs.fits, r.aggs.fits)

pub returns-then-adds_arcs : goal.returns-then-adds_arcs
returns-then-adds_arcs c =
    walk_on true _ (some_on c.args.t.now.words.now c.loop.at c.loop.counter c.args.t.now.places.rules adds_arcs c.loop-test.true) c.loop.invariant.1 (sym c.adds_arcs.ensures ∙ c.if-adds_arcs.true)

pub past_rule-at-requires : goal.past_rule-at-requires
past_rule-at-requires c =
    let tb = c.args.t.now.places in
    (lies_next c.args.t.now.words.now c.loop.at c.loop.counter tb.rules tb.atoms tb.aggregates c.loop-test.true c.loop.invariant.0).0.aggs.fits

pub loop-preserved : goal.loop-preserved
loop-preserved c =
    let t = c.args.t.now.words.now in
    let tb = c.args.t.now.places in
    let n = tb.rules - (c.loop.counter + 1) in (
      subst (λ (j : ℕ). RulesLie tb.atoms tb.aggregates t j n) (sym c.past_rule-at.ensures) (lies_next t c.loop.at c.loop.counter tb.rules tb.atoms tb.aggregates c.loop-test.true c.loop.invariant.0).1,
      ap (λ (j : ℕ). any adds_arcs (rules_from t j n)) c.past_rule-at.ensures
          ∙ walk_on false _ (some_on t c.loop.at c.loop.counter tb.rules adds_arcs c.loop-test.true) c.loop.invariant.1 (sym c.adds_arcs.ensures ∙ c.if-adds_arcs.false),
    )

pub returns : goal.returns
returns c = sym (some_end c.args.t.now.words.now c.loop.at c.loop.counter c.args.t.now.places.rules adds_arcs c.loop-test.false) ∙ c.loop.invariant.1
