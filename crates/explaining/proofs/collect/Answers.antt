-- `explaining::collect` meets its contract. The invariant of its loop: the words that stand in the array, and those of the rules to come, are those of all
-- rules. Assumes nothing.
use mathlib.Core.Path.{◌≡◌, sym, ap, subst, ◌∙◌}
use mathlib.Core.List.{List, ◌∷◌, ◌++◌}
use Prim.Native.Nat.{ℕ, ◌+◌, ◌-◌, ◌<◌}
use native.Mathlib.Omega.{arith}
use lib.ListN.{length, length-set, set, take}
use Rattle.interpretation.specs.View.{valued}
use Rattle.layout.specs.Layout.{past_rule, RuleLies, RulesLie}
use Rattle.layout.proofs.Rounds.{lies_on}
use Rattle.foundation.specs.Walk.{Stands}
use Rattle.foundation.proofs.Words.{grown, stands_i}
use Rattle.explaining.specs.Walk.{codes_from}
use Rattle.explaining.proofs.Walks.{codes_on, codes_none}
use Rattle.explaining.proofs.collect.Goals as goal

pub code-requires : goal.code-requires
code-requires c =
    let a = valued c.args.values.now in
    let t = c.args.t.now.words.now in
    let tb = c.args.t.now.places in
    let k = c.loop-k.k in
    let left : 0 < tb.rules - k = omega arith in
    let lies : RuleLies tb.atoms tb.aggregates t c.loop-k.at × RulesLie tb.atoms tb.aggregates t (past_rule t c.loop-k.at) (tb.rules - k - 1) =
    lies_on t c.loop-k.at tb.atoms tb.aggregates (tb.rules - k) left c.loop-k.invariant.1 in
    lies.0

pub past_rule-at-requires : goal.past_rule-at-requires
past_rule-at-requires c =
    let a = valued c.args.values.now in
    let t = c.args.t.now.words.now in
    let tb = c.args.t.now.places in
    let k = c.loop-k.k in
    let left : 0 < tb.rules - k = omega arith in
    let lies : RuleLies tb.atoms tb.aggregates t c.loop-k.at × RulesLie tb.atoms tb.aggregates t (past_rule t c.loop-k.at) (tb.rules - k - 1) =
    lies_on t c.loop-k.at tb.atoms tb.aggregates (tb.rules - k) left c.loop-k.invariant.1 in
    lies.0.aggs.fits

pub loop-k-preserved : goal.loop-k-preserved
loop-k-preserved c =
    let a = valued c.args.values.now in
    let t = c.args.t.now.words.now in
    let tb = c.args.t.now.places in
    let k = c.loop-k.k in
    let left : 0 < tb.rules - k = omega arith in
    let lies : RuleLies tb.atoms tb.aggregates t c.loop-k.at × RulesLie tb.atoms tb.aggregates t (past_rule t c.loop-k.at) (tb.rules - k - 1) =
    lies_on t c.loop-k.at tb.atoms tb.aggregates (tb.rules - k) left c.loop-k.invariant.1 in
    let room : k < length c.loop-k.list = omega (arith, c.loop-k-test.true, c.loop-k.invariant.0, c.args.t.now.laid.few_rules) in
    let n = tb.rules - k - 1 in
    let x = c.code.result in
    let all = codes_from a t tb.first tb.rules in
    let later = codes_from a t (past_rule t c.loop-k.at) n in
    let e = codes_on a t c.loop-k.at (tb.rules - k) left in
    let s : n ≡ tb.rules - (k + 1) = omega arith in
    let on : RulesLie tb.atoms tb.aggregates t c.past_rule-at.result (tb.rules - (k + 1)) = rw (sym s, c.past_rule-at.ensures) lies.1 in
    let same : take (k + 1) (set c.loop-k.list k x) ++ later ≡ all =
    grown c.loop-k.list k x later all room (ap (λ (y : ℕ). take k c.loop-k.list ++ y ∷ later) c.code.ensures ∙ ap (λ (m : List ℕ). take k c.loop-k.list ++ m) (sym e) ∙ c.loop-k.invariant.2) in
    (length-set c.loop-k.list k x ∙ c.loop-k.invariant.0, on, rw (sym s, c.past_rule-at.ensures) same)

pub returns : goal.returns
returns c =
    let tb = c.args.t.now.places in
    let all = codes_from (valued c.args.values.now) c.args.t.now.words.now tb.first tb.rules in
    let e : c.loop-k.k ≡ tb.rules = omega arith in
    subst (λ (n : ℕ). Stands all c.loop-k.list n) e
    (stands_i c.loop-k.list c.loop-k.k (codes_from (valued c.args.values.now) c.args.t.now.words.now c.loop-k.at (tb.rules - c.loop-k.k)) all c.loop-k.invariant.0 (omega (arith, e, c.args.t.now.laid.few_rules)) c.loop-k.invariant.2
    (codes_none (valued c.args.values.now) c.args.t.now.words.now c.loop-k.at (tb.rules - c.loop-k.k) (omega arith)))
