-- `foundation::collect` meets its contract. The invariant of its loop: the candidates that stand in the array, and those of the rules to come, are those of
-- all rules. Assumes nothing.
use Rattle.std.proofs.Common.{rules}
use mathlib.Core.Path.{◌≡◌, sym, ap, ◌∙◌}
use mathlib.Core.List.{List, ◌∷◌, ◌++◌}
use Prim.Native.Nat.{ℕ, ◌+◌, ◌-◌, ◌*◌, ◌≤◌, ◌<◌}
use native.Mathlib.Omega.{arith}
use lib.ListN.{length-set, take}
use Rattle.meaning.specs.Program.{In}
use Rattle.interpretation.specs.View.{valued}
use Rattle.layout.specs.Layout.{pos_at, past_rule, rule_at, RuleLies, RulesLie}
use Rattle.std.specs.Prelude.{None, Some}
use Rattle.foundation.specs.Walk.{could_of, code_of, candidates_from}
use Rattle.foundation.proofs.Words.{grown, stands_i}
use Rattle.layout.proofs.Rounds.{lies_on}
use Rattle.foundation.proofs.Rules.{could_range}
use Rattle.foundation.proofs.Candidates.{code_is, candidates_on, candidates_none}
use Rattle.foundation.proofs.collect.Goals as goal
use Rattle.foundation.proofs.collect.Goals.{in-Some, in_default}
use lib.ListN.{length}

pub could_add-requires : goal.could_add-requires
could_add-requires c =
    let a = valued c.args.values.now in
    let t = c.args.t.now.words.now in
    let tb = c.args.t.now.places in
    let left : 0 < tb.rules - c.loop.counter = omega arith in
    let lies : RuleLies tb.atoms tb.aggregates t c.loop.at × RulesLie tb.atoms tb.aggregates t (past_rule t c.loop.at) (tb.rules - c.loop.counter - 1) =
    lies_on t c.loop.at tb.atoms tb.aggregates (tb.rules - c.loop.counter) left c.loop.invariant.2 in
    lies.0

pub past-place-requires : goal.past-place-requires
past-place-requires c =
    let a = valued c.args.values.now in
    let t = c.args.t.now.words.now in
    let tb = c.args.t.now.places in
    let left : 0 < tb.rules - c.loop.counter = omega arith in
    let lies : RuleLies tb.atoms tb.aggregates t c.loop.at × RulesLie tb.atoms tb.aggregates t (past_rule t c.loop.at) (tb.rules - c.loop.counter - 1) =
    lies_on t c.loop.at tb.atoms tb.aggregates (tb.rules - c.loop.counter) left c.loop.invariant.2 in
    lies.0.heads.fits

pub past_rule-at-requires : goal.past_rule-at-requires
past_rule-at-requires c =
    let a = valued c.args.values.now in
    let t = c.args.t.now.words.now in
    let tb = c.args.t.now.places in
    let left : 0 < tb.rules - c.loop.counter = omega arith in
    let lies : RuleLies tb.atoms tb.aggregates t c.loop.at × RulesLie tb.atoms tb.aggregates t (past_rule t c.loop.at) (tb.rules - c.loop.counter - 1) =
    lies_on t c.loop.at tb.atoms tb.aggregates (tb.rules - c.loop.counter) left c.loop.invariant.2 in
    lies.0.aggs.fits

pub overflow_mul-place : goal.overflow_mul-place
overflow_mul-place c =
    let a = valued c.args.values.now in
    let t = c.args.t.now.words.now in
    let tb = c.args.t.now.places in
    let left : 0 < tb.rules - c.loop.counter = omega arith in
    let lies : RuleLies tb.atoms tb.aggregates t c.loop.at × RulesLie tb.atoms tb.aggregates t (past_rule t c.loop.at) (tb.rules - c.loop.counter - 1) =
    lies_on t c.loop.at tb.atoms tb.aggregates (tb.rules - c.loop.counter) left c.loop.invariant.2 in
    let place : c.past-place.result ≤ 16384 = omega (arith, c.past-place.ensures, lies.0.poss.fits, c.args.t.now.laid.short) in
    omega (arith, place)

pub overflow_sub-word : goal.overflow_sub-word
overflow_sub-word c =
    let a = valued c.args.values.now in
    let t = c.args.t.now.words.now in
    let tb = c.args.t.now.places in
    let left : 0 < tb.rules - c.loop.counter = omega arith in
    let lies : RuleLies tb.atoms tb.aggregates t c.loop.at × RulesLie tb.atoms tb.aggregates t (past_rule t c.loop.at) (tb.rules - c.loop.counter - 1) =
    lies_on t c.loop.at tb.atoms tb.aggregates (tb.rules - c.loop.counter) left c.loop.invariant.2 in
    let could : could_of a (rule_at t c.loop.at) ≡ Some c.in-Some.p = sym c.could_add.ensures ∙ c.in-Some.is in
    let range : In 256 c.in-Some.p = could_range t tb c.args.t.now.laid c.loop.at lies.0 a c.in-Some.p could in
    range.0

pub overflow_add-word : goal.overflow_add-word
overflow_add-word c =
    let a = valued c.args.values.now in
    let t = c.args.t.now.words.now in
    let tb = c.args.t.now.places in
    let left : 0 < tb.rules - c.loop.counter = omega arith in
    let lies : RuleLies tb.atoms tb.aggregates t c.loop.at × RulesLie tb.atoms tb.aggregates t (past_rule t c.loop.at) (tb.rules - c.loop.counter - 1) =
    lies_on t c.loop.at tb.atoms tb.aggregates (tb.rules - c.loop.counter) left c.loop.invariant.2 in
    let place : c.past-place.result ≤ 16384 = omega (arith, c.past-place.ensures, lies.0.poss.fits, c.args.t.now.laid.short) in
    let could : could_of a (rule_at t c.loop.at) ≡ Some c.in-Some.p = sym c.could_add.ensures ∙ c.in-Some.is in
    let range : In 256 c.in-Some.p = could_range t tb c.args.t.now.laid c.loop.at lies.0 a c.in-Some.p could in
    omega (arith, place, range.1)

pub overflow_cast-list : goal.overflow_cast-list
overflow_cast-list c =
    let a = valued c.args.values.now in
    let t = c.args.t.now.words.now in
    let tb = c.args.t.now.places in
    let left : 0 < tb.rules - c.loop.counter = omega arith in
    let lies : RuleLies tb.atoms tb.aggregates t c.loop.at × RulesLie tb.atoms tb.aggregates t (past_rule t c.loop.at) (tb.rules - c.loop.counter - 1) =
    lies_on t c.loop.at tb.atoms tb.aggregates (tb.rules - c.loop.counter) left c.loop.invariant.2 in
    let place : c.past-place.result ≤ 16384 = omega (arith, c.past-place.ensures, lies.0.poss.fits, c.args.t.now.laid.short) in
    let could : could_of a (rule_at t c.loop.at) ≡ Some c.in-Some.p = sym c.could_add.ensures ∙ c.in-Some.is in
    let range : In 256 c.in-Some.p = could_range t tb c.args.t.now.laid c.loop.at lies.0 a c.in-Some.p could in
    omega (arith, place, range.1)

pub loop-preserved : goal.loop-preserved
loop-preserved c =
    let a = valued c.args.values.now in
    let t = c.args.t.now.words.now in
    let tb = c.args.t.now.places in
    let left : 0 < tb.rules - c.loop.counter = omega arith in
    let lies : RuleLies tb.atoms tb.aggregates t c.loop.at × RulesLie tb.atoms tb.aggregates t (past_rule t c.loop.at) (tb.rules - c.loop.counter - 1) =
    lies_on t c.loop.at tb.atoms tb.aggregates (tb.rules - c.loop.counter) left c.loop.invariant.2 in
    let n = tb.rules - c.loop.counter - 1 in
    let all = candidates_from a t tb.first tb.rules in
    let later = candidates_from a t (past_rule t c.loop.at) n in
    let s : n ≡ tb.rules - (c.loop.counter + 1) = omega arith in
    let after : (c.match-could_add.number ≤ c.loop.counter + 1) × (length c.match-could_add.list ≡ 1024) × (take c.match-could_add.number c.match-could_add.list ++ later ≡ all) =
    elim c.match-could_add.branch [
      | in-Some w ↦
          let p = w.in-Some.p in
          let x = w.past-place.result * 256 + (p - 1) in
          let e = candidates_on a t c.loop.at (tb.rules - c.loop.counter) left (Some p) (sym c.could_add.ensures ∙ w.in-Some.is) in
          let f : code_of (pos_at t c.loop.at) p ≡ x = code_is (pos_at t c.loop.at) p ∙ ap (λ (j : ℕ). j * 256 + (p - 1)) (sym w.past-place.ensures) in
          let room : c.loop.number < length c.loop.list = omega (arith, c.loop.invariant.0, c.loop.invariant.1, c.args.t.now.laid.few_rules, c.loop-test.true) in
          rw (w.number-is, w.list-is) (
            omega (arith, c.loop.invariant.0),
            length-set c.loop.list c.loop.number x ∙ c.loop.invariant.1,
            grown c.loop.list c.loop.number x later all room
                (ap (λ (y : ℕ). take c.loop.number c.loop.list ++ y ∷ later) (sym f) ∙ ap (λ (m : List ℕ). take c.loop.number c.loop.list ++ m) (sym e) ∙ c.loop.invariant.3),
          )
      | in_default w ↦
          let none : c.could_add.result ≡ None = search rules in
          let e = candidates_on a t c.loop.at (tb.rules - c.loop.counter) left None (sym c.could_add.ensures ∙ none) in
          rw (w.number-is, w.list-is) (omega (arith, c.loop.invariant.0), c.loop.invariant.1, ap (λ (m : List ℕ). take c.loop.number c.loop.list ++ m) (sym e) ∙ c.loop.invariant.3)
    ] in
    let on : RulesLie tb.atoms tb.aggregates t c.past_rule-at.result (tb.rules - (c.loop.counter + 1)) = rw (sym s, c.past_rule-at.ensures) lies.1 in
    (after.0, after.1, on, rw (sym s, c.past_rule-at.ensures) after.2)

pub returns : goal.returns
returns c =
    let tb = c.args.t.now.places in
    stands_i c.loop.list c.loop.number (candidates_from (valued c.args.values.now) (c.args.t.now.words.now) c.loop.at (tb.rules - c.loop.counter))
    (candidates_from (valued c.args.values.now) (c.args.t.now.words.now) tb.first tb.rules)
    c.loop.invariant.1 (omega (arith, c.loop.invariant.0, c.args.t.now.laid.few_rules)) c.loop.invariant.3
    (candidates_none (valued c.args.values.now) (c.args.t.now.words.now) c.loop.at (tb.rules - c.loop.counter) (omega arith))
