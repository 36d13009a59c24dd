-- `relaxer::write_dropped` meets its contract. The invariant of its loop: the n numbers that stand at the front of the list, and those to come, are all numbers dropped;
-- the rest of the list stays. Assumes nothing.
use mathlib.Core.Path.{◌≡◌, refl, sym, ap, ◌∙◌, subst}
use mathlib.Core.Bool.{not, cond}
use mathlib.Core.List.{List, [], ◌++◌}
use Prim.Native.Nat.{ℕ, suc, ◌+◌, ◌-◌, ◌≤◌, ◌<◌}
use native.Mathlib.Omega.{arith}
use lib.ListN.{length, take, drop, set}
use Rattle.levels.specs.View.{row}
use Rattle.layout.specs.Layout.{program_of, rules_from}
use Rattle.layout.proofs.Rounds.{lies_on}
use Rattle.relaxing.specs.Relaxing.{dropped_from, dropped_of}
use Rattle.relaxer.proofs.Places.{bit≤1}
use Rattle.relaxer.proofs.Chosen.{put_long}
use Rattle.relaxer.proofs.Dropped.{dropped_none, stays, drops_on, whole}
use Rattle.relaxer.proofs.write_dropped.Goals as goal

pub loop-i-init : goal.loop-i-init
loop-i-init c =
    let a = c.args in
    let z : a.t.now.places.rules - 0 ≡ a.t.now.places.rules = omega arith in
    (omega arith, refl, refl, rw z c.args.t.now.laid.rules_lie, ap (λ (m : ℕ). dropped_from (row a.kept) 1 (rules_from a.t.now.words.now a.t.now.places.first m)) z)

pub put-n-requires : goal.put-n-requires
put-n-requires c = let g = c.requires in let long = c.loop-i.invariant.1 in let i = c.loop-i.invariant.0 in omega arith

pub takes_part-takes-requires : goal.takes_part-takes-requires
takes_part-takes-requires c =
    let a = c.args in
    let few = c.args.t.now.laid.few_rules in
    let lies = lies_on a.t.now.words.now c.loop-i.at a.t.now.places.atoms a.t.now.places.aggregates (a.t.now.places.rules - c.loop-i.i) (omega arith) c.loop-i.invariant.3 in
    (lies.0.heads.fits, omega arith, omega arith)

pub past_rule-at-requires : goal.past_rule-at-requires
past_rule-at-requires c =
    let a = c.args in
    let lies = lies_on a.t.now.words.now c.loop-i.at a.t.now.places.atoms a.t.now.places.aggregates (a.t.now.places.rules - c.loop-i.i) (omega arith) c.loop-i.invariant.3 in
    lies.0.aggs.fits

pub loop-i-preserved : goal.loop-i-preserved
loop-i-preserved c =
    let a = c.args in
    let t = a.t.now.words.now in
    let l = c.loop-i in
    let drops = not c.takes_part-takes.result in
    let e = c.put-n.ensures in
    let h : 0 < a.t.now.places.rules - l.i = omega arith in
    let room : l.n < length l.dropped = let g = c.requires in let long = l.invariant.1 in omega arith in
    let u = bit≤1 drops in
    let z : a.t.now.places.rules - (l.i + 1) ≡ a.t.now.places.rules - l.i - 1 = omega arith in
    let lies = lies_on t l.at a.t.now.places.atoms a.t.now.places.aggregates (a.t.now.places.rules - l.i) h l.invariant.3 in
    let next = c.past_rule-at.ensures in (
      omega (arith, e.0),
      ap (λ (m : List ℕ). length m) e.1 ∙ put_long l.dropped l.n (l.i + 1) drops ∙ l.invariant.1,
      ap (drop c.put-n.result) e.1 ∙ ap (λ (m : ℕ). drop m (cond drops (set l.dropped l.n (l.i + 1)) l.dropped)) e.0
          ∙ stays l.dropped a.dropped.now l.n (l.i + 1) [] [] room drops l.invariant.2 ∙ sym (ap (λ (m : ℕ). drop m a.dropped.now) e.0),
      rw (next, z) lies.1,
      drops_on (row a.kept) t l.dropped c.put-n.new.list l.n c.put-n.result l.at c.past_rule-at.result l.i (a.t.now.places.rules - l.i) (a.t.now.places.rules - (l.i + 1)) drops (dropped_of (program_of t a.t.now.places) (row a.kept))
          (ap not c.takes_part-takes.ensures) e.1 e.0 next h z room l.invariant.4,
    )

pub returns : goal.returns
returns c =
    let a = c.args in
    let t = a.t.now.words.now in
    let l = c.loop-i in
    let k = row a.kept in
    let z : a.t.now.places.rules - l.i ≤ 0 = omega arith in
    let g = c.requires in
    whole l.dropped a.dropped.now l.n (dropped_of (program_of t a.t.now.places) k) (omega (arith, g, l.invariant.1))
    (ap (λ (m : List ℕ). take l.n l.dropped ++ m) (sym (dropped_none k t l.at (suc l.i) (a.t.now.places.rules - l.i) z)) ∙ l.invariant.4) l.invariant.2
