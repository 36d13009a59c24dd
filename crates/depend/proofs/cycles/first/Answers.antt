-- `depend::cycles::first` meets its contract. Assumes nothing.
use mathlib.Core.Path.{sym, ap, ◌∙◌, subst}
use Prim.Native.Nat.{ℕ, ◌+◌, ◌-◌}
use Rattle.layout.specs.Layout.{rules_from, RulesLie}
use Rattle.depend.specs.Circles.{alike}
use Rattle.depend.specs.Cycles.{closes, lowest}
use Rattle.depend.proofs.Walk.{lies_next, lowest_here, lowest_later, lowest_end}
use Rattle.depend.proofs.cycles.first.Goals as goal

pub closes-requires : goal.closes-requires
closes-requires c =
    let tb = c.args.t.now.places in
    (lies_next c.args.t.now.words.now c.loop-k.at c.loop-k.k tb.rules tb.atoms tb.aggregates c.loop-k-test.true c.loop-k.invariant.0).0

pub returns-then-closes : goal.returns-then-closes
returns-then-closes c =
    let a = c.args in
    sym (lowest_here a.t.now.words.now c.loop-k.at c.loop-k.k a.t.now.places.rules (closes a.added (alike a.names.now)) c.loop-k-test.true (sym c.closes.ensures ∙ c.if-closes.true)) ∙ c.loop-k.invariant.1

pub past_rule-at-requires : goal.past_rule-at-requires
past_rule-at-requires c =
    let tb = c.args.t.now.places in
    (lies_next c.args.t.now.words.now c.loop-k.at c.loop-k.k tb.rules tb.atoms tb.aggregates c.loop-k-test.true c.loop-k.invariant.0).0.aggs.fits

pub loop-k-preserved : goal.loop-k-preserved
loop-k-preserved c =
    let a = c.args in
    let t = a.t.now.words.now in
    let tb = a.t.now.places in
    let k = c.loop-k.k in
    let f = closes a.added (alike a.names.now) in (
      subst (λ (j : ℕ). RulesLie tb.atoms tb.aggregates t j (tb.rules - (k + 1))) (sym c.past_rule-at.ensures) (lies_next t c.loop-k.at k tb.rules tb.atoms tb.aggregates c.loop-k-test.true c.loop-k.invariant.0).1,
      ap (λ (j : ℕ). lowest f (k + 1 + 1) (rules_from t j (tb.rules - (k + 1)))) c.past_rule-at.ensures
          ∙ sym (lowest_later t c.loop-k.at k tb.rules f c.loop-k-test.true (sym c.closes.ensures ∙ c.if-closes.false))
          ∙ c.loop-k.invariant.1,
    )

pub returns : goal.returns
returns c =
    let a = c.args in
    sym (lowest_end a.t.now.words.now c.loop-k.at c.loop-k.k a.t.now.places.rules (closes a.added (alike a.names.now)) c.loop-k-test.false) ∙ c.loop-k.invariant.1
