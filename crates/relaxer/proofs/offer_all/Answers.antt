-- `relaxer::offer_all` meets its contract. The invariant of its loop: what offering the rules to come makes of what is held is what the definition comes to. Assumes nothing.
use mathlib.Core.Path.{◌≡◌, sym, ap, ◌∙◌, subst}
use mathlib.Core.Bool.{Bool}
use mathlib.Core.List.{◌∷◌}
use Prim.Native.Nat.{ℕ, suc, ◌+◌, ◌-◌, ◌≤◌, ◌<◌}
use native.Mathlib.Numerals.{add-one}
use native.Mathlib.Omega.{arith}
use Rattle.meaning.specs.Program.{Program}
use Rattle.levels.specs.View.{row}
use Rattle.layout.specs.Layout.{past_rule, rule_at, rules_from, program_of}
use Rattle.layout.proofs.Rounds.{lies_on, rules_on, rules_none}
use Rattle.relaxing.specs.Relaxing.{rules_of, Trial, trial}
use Rattle.relaxer.specs.Offering.{goes_on}
use Rattle.relaxer.proofs.Offers.{begins, ends}
use Rattle.relaxer.proofs.offer_all.Goals as goal

pub loop-i-init : goal.loop-i-init
loop-i-init c =
    let a = c.args in
    let try : Program → Trial = trial a.cycles a.t.now.places.atoms a.limit in
    let P : Program = program_of a.t.now.words.now a.t.now.places in
    let q = c.attempt-held.ensures in
    let z : a.t.now.places.rules - 0 ≡ a.t.now.places.rules = omega arith in (
      q.2,
      rw z c.args.t.now.laid.rules_lie,
      ap (λ (m : ℕ). goes_on try P a.t.now.places.atoms c.attempt-held.result 1 (rules_from a.t.now.words.now a.t.now.places.first m)) z
          ∙ begins try P a.t.now.places.atoms c.attempt-held.result (ap row q.0 ∙ c.nothing-none.ensures) (q.1 ∙ ap (λ (k : ℕ → Bool). try (rules_of P k)) c.nothing-none.ensures),
    )

pub step-held-requires : goal.step-held-requires
step-held-requires c =
    let a = c.args in
    let few = c.args.t.now.laid.few_rules in
    let lies = lies_on a.t.now.words.now c.loop-i.at a.t.now.places.atoms a.t.now.places.aggregates (a.t.now.places.rules - c.loop-i.i) (omega arith) c.loop-i.invariant.1 in
    (c.loop-i.invariant.0, lies.0, omega arith, omega arith)

pub past_rule-at-requires : goal.past_rule-at-requires
past_rule-at-requires c =
    let a = c.args in
    let lies = lies_on a.t.now.words.now c.loop-i.at a.t.now.places.atoms a.t.now.places.aggregates (a.t.now.places.rules - c.loop-i.i) (omega arith) c.loop-i.invariant.1 in
    lies.0.aggs.fits

pub loop-i-preserved : goal.loop-i-preserved
loop-i-preserved c =
    let a = c.args in
    let t = a.t.now.words.now in
    let l = c.loop-i in
    let h : 0 < a.t.now.places.rules - l.i = omega arith in
    let z : a.t.now.places.rules - (l.i + 1) ≡ a.t.now.places.rules - l.i - 1 = omega arith in
    let lies = lies_on t l.at a.t.now.places.atoms a.t.now.places.aggregates (a.t.now.places.rules - l.i) h l.invariant.1 in
    let next = c.past_rule-at.ensures in
    let try : Program → Trial = trial a.cycles a.t.now.places.atoms a.limit in
    let on = rules_on t l.at (a.t.now.places.rules - l.i) h in
    let R : rule_at t l.at ∷ rules_from t c.past_rule-at.result (a.t.now.places.rules - (l.i + 1)) ≡ rules_from t l.at (a.t.now.places.rules - l.i) = cc in
    let rest = rules_from t c.past_rule-at.result (a.t.now.places.rules - (l.i + 1)) in (
      c.step-held.ensures.1,
      rw (next, z) lies.1,
      c.step-held.ensures.0 rest ∙ ap (λ (j : ℕ). goes_on try (program_of t a.t.now.places) a.t.now.places.atoms l.held j (rule_at t l.at ∷ rest)) (add-one l.i)
          ∙ ap (goes_on try (program_of t a.t.now.places) a.t.now.places.atoms l.held (suc l.i)) R ∙ l.invariant.2,
    )

pub returns : goal.returns
returns c =
    let a = c.args in
    let try : Program → Trial = trial a.cycles a.t.now.places.atoms a.limit in
    let P : Program = program_of a.t.now.words.now a.t.now.places in
    let l = c.loop-i in
    ends try P a.t.now.places.atoms l.held (suc l.i) ∙ ap (goes_on try P a.t.now.places.atoms l.held (suc l.i)) (sym (rules_none a.t.now.words.now l.at (a.t.now.places.rules - l.i) (omega arith))) ∙ l.invariant.2
