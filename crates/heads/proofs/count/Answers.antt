-- `heads::count` meets its contract. The invariant of its loop: `counted` rules are counted, from the last on. The measure is the number of rules to
-- come. Assumes nothing.
use mathlib.Core.Path.{◌≡◌, sym, ap, ◌∙◌, subst}
use mathlib.Core.List.{List}
use Prim.Native.Nat.{ℕ, ◌+◌, ◌-◌}
use native.Mathlib.Omega.{arith}
use lib.IntN.{ℤ}
use lib.ListN.{get_or, drop}
use Rattle.layout.specs.Layout.{atoms, part_at, Members, RuleLies}
use Rattle.heads.specs.Heads.{bounds, places_of, Counted, Counts}
use Rattle.heads.proofs.Laws.{places_lie}
use Rattle.heads.proofs.Walks.{places_length}
use Rattle.heads.proofs.Lists.{part_word}
use Rattle.heads.proofs.Counting.{counts_on, counts_few}
use Rattle.heads.proofs.count.Goals as goal

pub part-head-requires : goal.part-head-requires
part-head-requires c =
    let read : let l = c.loop-r in let a = c.args in
    get_or l.lists (bounds + (l.r - 1)) 0 ≡ get_or (places_of a.t.now.words.now a.t.now.places) (l.r - 1) 0 =
    let l = c.loop-r in
    let a = c.args in
    part_word l.lists bounds a.t.now.places.rules (l.r - 1) (places_of a.t.now.words.now a.t.now.places) l.invariant.places (omega arith) in
    let lies : let l = c.loop-r in let a = c.args in
    RuleLies a.t.now.places.atoms a.t.now.places.aggregates a.t.now.words.now (get_or l.lists (bounds + (l.r - 1)) 0) =
    let l = c.loop-r in
    let a = c.args in
    subst (RuleLies a.t.now.places.atoms a.t.now.places.aggregates a.t.now.words.now) (sym (read))
    (places_lie a.t.now.places a.t.now.words.now a.t.now.places.first a.t.now.places.rules c.args.t.now.laid.rules_lie (l.r - 1)
    (omega (arith, places_length a.t.now.words.now a.t.now.places.first a.t.now.places.rules))) in
    (lies).heads.fits

pub count_head-requires : goal.count_head-requires
count_head-requires c =
    let read : let l = c.loop-r in let a = c.args in
    get_or l.lists (bounds + (l.r - 1)) 0 ≡ get_or (places_of a.t.now.words.now a.t.now.places) (l.r - 1) 0 =
    let l = c.loop-r in
    let a = c.args in
    part_word l.lists bounds a.t.now.places.rules (l.r - 1) (places_of a.t.now.words.now a.t.now.places) l.invariant.places (omega arith) in
    let lies : let l = c.loop-r in let a = c.args in
    RuleLies a.t.now.places.atoms a.t.now.places.aggregates a.t.now.words.now (get_or l.lists (bounds + (l.r - 1)) 0) =
    let l = c.loop-r in
    let a = c.args in
    subst (RuleLies a.t.now.places.atoms a.t.now.places.aggregates a.t.now.words.now) (sym (read))
    (places_lie a.t.now.places a.t.now.words.now a.t.now.places.first a.t.now.places.rules c.args.t.now.laid.rules_lie (l.r - 1)
    (omega (arith, places_length a.t.now.words.now a.t.now.places.first a.t.now.places.rules))) in
    let l = c.loop-r in
    let a = c.args in (
      subst (Members 256) (sym c.part-head.ensures) (λ k h. let m = (lies).heads.members k h in (m.0, omega (arith, m.1, c.args.t.now.laid.few_atoms))),
      l.invariant.sized,
      counts_few a.t.now.words.now a.t.now.places c.args.t.now.laid l.r l.lists l.invariant,
    )

pub loop-r-preserved : goal.loop-r-preserved
loop-r-preserved c =
    let read : let l = c.loop-r in let a = c.args in
    get_or l.lists (bounds + (l.r - 1)) 0 ≡ get_or (places_of a.t.now.words.now a.t.now.places) (l.r - 1) 0 =
    let l = c.loop-r in
    let a = c.args in
    part_word l.lists bounds a.t.now.places.rules (l.r - 1) (places_of a.t.now.words.now a.t.now.places) l.invariant.places (omega arith) in
    let l = c.loop-r in
    let a = c.args in
    let t = a.t.now.words.now in
    let k = l.r - 1 in
    let P = places_of t a.t.now.places in
    let e : l.r ≡ k + 1 = omega arith in
    let head : c.part-head.result.now ≡ part_at t (get_or P k 0) = c.part-head.ensures ∙ ap (part_at t) (read) in
    counts_on t a.t.now.places k l.lists c.count_head.new.lists (omega arith) (subst (λ (n : ℕ). Counts t a.t.now.places (drop n P) l.lists) e l.invariant)
    (subst (λ (m : List ℤ). Counted (atoms m) l.lists c.count_head.new.lists) head c.count_head.ensures)

pub returns : goal.returns
returns c =
    let l = c.loop-r in
    let a = c.args in
    let z : l.r ≡ 0 = omega arith in
    subst (λ (n : ℕ). Counts a.t.now.words.now a.t.now.places (drop n (places_of a.t.now.words.now a.t.now.places)) l.lists) z l.invariant
