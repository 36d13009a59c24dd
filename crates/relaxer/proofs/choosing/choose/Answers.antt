-- `relaxer::choosing::choose` meets its contract. The invariant of its loop: the places that stand behind the bounds, and those to come, are the places of all rules that
-- take part; the words before, and those behind the room for all rules, stay. Assumes nothing.
use mathlib.Core.Path.{◌≡◌, refl, sym, ap, ◌∙◌, subst}
use mathlib.Core.Bool.{Bool, cond}
use mathlib.Core.List.{List, ◌++◌, append-nil}
use Prim.Native.Nat.{ℕ, suc, ◌+◌, ◌-◌, ◌≤◌, ◌<◌}
use native.Mathlib.Omega.{arith}
use lib.ListN.{length, take, drop, set}
use Rattle.levels.specs.View.{row}
use Rattle.layout.specs.Layout.{past_rule, RuleLies, RulesLie}
use Rattle.layout.proofs.Rounds.{lies_on}
use Rattle.heads.specs.Heads.{bounds}
use Rattle.heads.proofs.Lists.{part}
use Rattle.relaxer.specs.Offering.{kept_from, kept_places}
use Rattle.relaxer.proofs.Places.{kept_none, kept_part, places_on, bit≤1}
use Rattle.relaxer.proofs.Chosen.{put_before, put_behind, put_long, chosen_listed, chosen_places}
use Rattle.relaxer.proofs.choosing.choose.Goals as goal

pub loop-i-init : goal.loop-i-init
loop-i-init c =
    let a = c.args in
    let listed = c.requires in
    let z : a.t.now.places.rules - 0 ≡ a.t.now.places.rules = omega arith in
    (omega arith, omega arith, listed.long, refl, refl, rw z c.args.t.now.laid.rules_lie, ap (λ (m : ℕ). part a.lists.now bounds 0 ++ kept_from (row a.kept) a.t.now.words.now a.t.now.places.first 1 m) z)

pub takes_part-takes-requires : goal.takes_part-takes-requires
takes_part-takes-requires c =
    let a = c.args in
    let few = c.args.t.now.laid.few_rules in
    let lies = lies_on a.t.now.words.now c.loop-i.at a.t.now.places.atoms a.t.now.places.aggregates (a.t.now.places.rules - c.loop-i.i) (omega arith) c.loop-i.invariant.5 in
    (lies.0.heads.fits, omega arith, omega arith)

pub put-end-requires : goal.put-end-requires
put-end-requires c = let few = c.args.t.now.laid.few_rules in let long = c.loop-i.invariant.2 in let i = c.loop-i.invariant.1 in let b = c.loop-i.invariant.0 in omega arith

pub overflow_cast-at : goal.overflow_cast-at
overflow_cast-at c =
    let a = c.args in
    let lies = lies_on a.t.now.words.now c.loop-i.at a.t.now.places.atoms a.t.now.places.aggregates (a.t.now.places.rules - c.loop-i.i) (omega arith) c.loop-i.invariant.5 in
    omega (arith, lies.0.heads.fits, c.args.t.now.laid.short)

pub overflow_cast-lists : goal.overflow_cast-lists
overflow_cast-lists c = let few = c.args.t.now.laid.few_rules in omega arith

pub past_rule-at-requires : goal.past_rule-at-requires
past_rule-at-requires c =
    let a = c.args in
    let lies = lies_on a.t.now.words.now c.loop-i.at a.t.now.places.atoms a.t.now.places.aggregates (a.t.now.places.rules - c.loop-i.i) (omega arith) c.loop-i.invariant.5 in
    lies.0.aggs.fits

pub loop-i-preserved : goal.loop-i-preserved
loop-i-preserved c =
    let a = c.args in
    let t = a.t.now.words.now in
    let l = c.loop-i in
    let n = l.end - bounds in
    let takes = c.takes_part-takes.result in
    let here : bounds + n ≡ l.end = omega arith in
    let h : 0 < a.t.now.places.rules - l.i = omega arith in
    let room : bounds + n < length l.lists = let few = c.args.t.now.laid.few_rules in let long = l.invariant.2 in omega arith in
    let put : c.put-end.new.list ≡ cond takes (set l.lists (bounds + n) l.at) l.lists = c.put-end.ensures.1 ∙ ap (λ (k : ℕ). cond takes (set l.lists k l.at) l.lists) (sym here) in
    let u = bit≤1 takes in
    let z : a.t.now.places.rules - (l.i + 1) ≡ a.t.now.places.rules - l.i - 1 = omega arith in
    let lies = lies_on t l.at a.t.now.places.atoms a.t.now.places.aggregates (a.t.now.places.rules - l.i) h l.invariant.5 in
    let next = c.past_rule-at.ensures in (
      omega (arith, c.put-end.ensures.0),
      omega (arith, c.put-end.ensures.0),
      ap (λ (m : List ℕ). length m) put ∙ put_long l.lists (bounds + n) l.at takes ∙ l.invariant.2,
      ap (take bounds) put ∙ put_before l.lists n l.at takes ∙ l.invariant.3,
      ap (drop (bounds + a.t.now.places.rules)) put ∙ put_behind l.lists n l.at a.t.now.places.rules takes (omega arith) ∙ l.invariant.4,
      rw (next, z) lies.1,
      places_on (row a.kept) t l.lists c.put-end.new.list n (c.put-end.result - bounds) l.at c.past_rule-at.result l.i (a.t.now.places.rules - l.i) (a.t.now.places.rules - (l.i + 1)) takes
          (kept_places (row a.kept) t a.t.now.places) c.takes_part-takes.ensures put (omega (arith, c.put-end.ensures.0)) next h z room l.invariant.6,
    )

pub returns : goal.returns
returns c =
    let a = c.args in
    let t = a.t.now.words.now in
    let l = c.loop-i in
    let n = l.end - bounds in
    let k = row a.kept in
    let here : bounds + n ≡ l.end = omega arith in
    let z : a.t.now.places.rules - l.i ≤ 0 = omega arith in
    let few : n ≤ a.t.now.places.rules = omega arith in
    let stand : part l.lists bounds n ≡ kept_places k t a.t.now.places =
    sym (append-nil (part l.lists bounds n)) ∙ ap (λ (m : List ℕ). part l.lists bounds n ++ m) (sym (kept_none k t l.at (suc l.i) (a.t.now.places.rules - l.i) z)) ∙ l.invariant.6 in
    rw (sym here) (
      chosen_listed t a.t.now.places c.args.t.now.laid a.lists.now l.lists c.requires n (kept_places k t a.t.now.places) few l.invariant.2 l.invariant.3 l.invariant.4 stand (kept_part k t a.t.now.places c.args.t.now.laid),
      chosen_places t a.t.now.places c.args.t.now.laid a.lists.now l.lists c.requires n (kept_places k t a.t.now.places) few l.invariant.2 l.invariant.3 l.invariant.4 stand (kept_part k t a.t.now.places c.args.t.now.laid),
    )
