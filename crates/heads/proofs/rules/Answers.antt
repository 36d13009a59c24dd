-- `heads::rules` meets its contract. The invariant of its loop: the places that stand from index bounds on, and those of the rules to come, are the places of
-- all rules; the words before stay.  Assumes nothing.
use mathlib.Core.Path.{◌≡◌, sym, ap, ◌∙◌, subst}
use mathlib.Core.List.{List, ◌++◌, append-nil}
use Prim.Native.Nat.{ℕ, ◌+◌, ◌-◌, ◌<◌}
use native.Mathlib.Omega.{arith}
use lib.ListN.{length, set, length-set}
use lib.Seq.{take-set-le}
use Rattle.layout.specs.Layout.{past_rule, RuleLies, RulesLie}
use Rattle.heads.specs.Heads.{bounds, places_from, places_of}
use Rattle.layout.proofs.Rounds.{lies_on}
use Rattle.heads.proofs.Walks.{places_on, places_zero}
use Rattle.heads.proofs.Lists.{part, moved}
use Rattle.heads.proofs.rules.Goals as goal

pub overflow_cast-lists : goal.overflow_cast-lists
overflow_cast-lists c =
    let lies : let a = c.args in let l = c.loop-i in
    RuleLies a.t.now.places.atoms a.t.now.places.aggregates a.t.now.words.now l.at × RulesLie a.t.now.places.atoms a.t.now.places.aggregates a.t.now.words.now (past_rule a.t.now.words.now l.at) (a.t.now.places.rules - l.i - 1) =
    let a = c.args in
    let l = c.loop-i in
    lies_on a.t.now.words.now l.at a.t.now.places.atoms a.t.now.places.aggregates (a.t.now.places.rules - l.i) (omega arith) l.invariant.2 in
    omega (arith, (lies).0.heads.fits, c.args.t.now.laid.short)

pub past_rule-at-requires : goal.past_rule-at-requires
past_rule-at-requires c =
    let lies : let a = c.args in let l = c.loop-i in
    RuleLies a.t.now.places.atoms a.t.now.places.aggregates a.t.now.words.now l.at × RulesLie a.t.now.places.atoms a.t.now.places.aggregates a.t.now.words.now (past_rule a.t.now.words.now l.at) (a.t.now.places.rules - l.i - 1) =
    let a = c.args in
    let l = c.loop-i in
    lies_on a.t.now.words.now l.at a.t.now.places.atoms a.t.now.places.aggregates (a.t.now.places.rules - l.i) (omega arith) l.invariant.2 in
    (lies).0.aggs.fits

pub loop-i-preserved : goal.loop-i-preserved
loop-i-preserved c =
    let lies : let a = c.args in let l = c.loop-i in
    RuleLies a.t.now.places.atoms a.t.now.places.aggregates a.t.now.words.now l.at × RulesLie a.t.now.places.atoms a.t.now.places.aggregates a.t.now.words.now (past_rule a.t.now.words.now l.at) (a.t.now.places.rules - l.i - 1) =
    let a = c.args in
    let l = c.loop-i in
    lies_on a.t.now.words.now l.at a.t.now.places.atoms a.t.now.places.aggregates (a.t.now.places.rules - l.i) (omega arith) l.invariant.2 in
    let l = c.loop-i in
    let a = c.args in
    let t = a.t.now.words.now in
    let e : a.t.now.places.rules - l.i - 1 ≡ a.t.now.places.rules - (l.i + 1) = omega arith in
    let h : bounds + l.i < length l.lists = omega (arith, l.invariant.0, c.args.t.now.laid.few_rules) in
    let r : past_rule t l.at ≡ c.past_rule-at.result = sym c.past_rule-at.ensures in (
      length-set l.lists (bounds + l.i) l.at ∙ l.invariant.0,
      take-set-le bounds l.lists (bounds + l.i) l.at (omega arith) ∙ l.invariant.1,
      subst (λ (n : ℕ). RulesLie a.t.now.places.atoms a.t.now.places.aggregates t c.past_rule-at.result n) e
          (subst (λ (j : ℕ). RulesLie a.t.now.places.atoms a.t.now.places.aggregates t j (a.t.now.places.rules - l.i - 1)) r (lies).1),
      ap (λ (n : ℕ). part (set l.lists (bounds + l.i) l.at) bounds (l.i + 1) ++ places_from t c.past_rule-at.result n) (sym e)
          ∙ ap (λ (j : ℕ). part (set l.lists (bounds + l.i) l.at) bounds (l.i + 1) ++ places_from t j (a.t.now.places.rules - l.i - 1)) (sym r)
          ∙ moved l.lists bounds l.i l.at (places_from t (past_rule t l.at) (a.t.now.places.rules - l.i - 1)) (places_of t a.t.now.places) h
          (ap (λ (m : List ℕ). part l.lists bounds l.i ++ m) (sym (places_on t l.at (a.t.now.places.rules - l.i) (omega arith))) ∙ l.invariant.3),
    )

pub returns : goal.returns
returns c =
    let l = c.loop-i in
    let a = c.args in
    let e : l.i ≡ a.t.now.places.rules = omega arith in
    let z : a.t.now.places.rules - l.i ≡ 0 = omega arith in
    let t = a.t.now.words.now in (
      l.invariant.0,
      l.invariant.1,
      ap (part l.lists bounds) (sym e) ∙ sym (append-nil (part l.lists bounds l.i))
          ∙ ap (λ (m : List ℕ). part l.lists bounds l.i ++ m) (sym (ap (places_from t l.at) z ∙ places_zero t l.at))
          ∙ l.invariant.3,
    )
