-- `heads::put_rules` meets its contract. The invariant of its loop: `done` rules are put into their lists, from the last on (`Placed`). The measure is
-- the number of rules to come. Assumes nothing.
use mathlib.Core.Path.{◌≡◌, sym, ap, ◌∙◌, subst}
use mathlib.Core.List.{List, []}
use Prim.Native.Nat.{ℕ, ◌+◌, ◌-◌}
use native.Mathlib.Omega.{arith}
use lib.IntN.{ℤ}
use lib.ListN.{get_or, drop, drop_of_length-le}
use Rattle.layout.specs.Layout.{atoms, part_at, Members, RuleLies}
use Rattle.heads.specs.Heads.{bounds, places_of, Room, Put}
use Rattle.heads.proofs.Laws.{places_lie}
use Rattle.heads.proofs.Walks.{places_length}
use Rattle.heads.proofs.Lists.{part_word}
use Rattle.heads.proofs.Placing.{Placed, placed_start, placed_room, placed_on, placed_places, placed_whole}
use Rattle.heads.proofs.put_rules.Goals as goal

pub loop-last-init : goal.loop-last-init
loop-last-init c =
    let a = c.args in
    let t = a.t.now.words.now in
    let P = places_of t a.t.now.places in
    let none : drop a.t.now.places.rules P ≡ [] = drop_of_length-le P {i = a.t.now.places.rules} (omega (arith, places_length t a.t.now.places.first a.t.now.places.rules)) in
    let g = c.requires in
    subst (λ (l : List ℕ). Placed t a.t.now.places l a.lists.now) (sym none) (placed_start t a.t.now.places c.args.t.now.laid g.0 g.1 a.lists.now g.2)

pub part-head-requires : goal.part-head-requires
part-head-requires c =
    let read : let l = c.loop-last in let a = c.args in
    get_or l.lists (bounds + (l.last - 1)) 0 ≡ get_or (places_of a.t.now.words.now a.t.now.places) (l.last - 1) 0 =
    let l = c.loop-last in
    let a = c.args in
    let P = places_of a.t.now.words.now a.t.now.places in
    let all = placed_places a.t.now.words.now a.t.now.places c.args.t.now.laid (drop l.last P) l.lists l.invariant in
    part_word l.lists bounds a.t.now.places.rules (l.last - 1) P all (omega arith) in
    let lies : let l = c.loop-last in let a = c.args in
    RuleLies a.t.now.places.atoms a.t.now.places.aggregates a.t.now.words.now (get_or l.lists (bounds + (l.last - 1)) 0) =
    let l = c.loop-last in
    let a = c.args in
    subst (RuleLies a.t.now.places.atoms a.t.now.places.aggregates a.t.now.words.now) (sym (read))
    (places_lie a.t.now.places a.t.now.words.now a.t.now.places.first a.t.now.places.rules c.args.t.now.laid.rules_lie (l.last - 1)
    (omega (arith, places_length a.t.now.words.now a.t.now.places.first a.t.now.places.rules))) in
    (lies).heads.fits

pub put_head-requires : goal.put_head-requires
put_head-requires c =
    let read : let l = c.loop-last in let a = c.args in
    get_or l.lists (bounds + (l.last - 1)) 0 ≡ get_or (places_of a.t.now.words.now a.t.now.places) (l.last - 1) 0 =
    let l = c.loop-last in
    let a = c.args in
    let P = places_of a.t.now.words.now a.t.now.places in
    let all = placed_places a.t.now.words.now a.t.now.places c.args.t.now.laid (drop l.last P) l.lists l.invariant in
    part_word l.lists bounds a.t.now.places.rules (l.last - 1) P all (omega arith) in
    let lies : let l = c.loop-last in let a = c.args in
    RuleLies a.t.now.places.atoms a.t.now.places.aggregates a.t.now.words.now (get_or l.lists (bounds + (l.last - 1)) 0) =
    let l = c.loop-last in
    let a = c.args in
    subst (RuleLies a.t.now.places.atoms a.t.now.places.aggregates a.t.now.words.now) (sym (read))
    (places_lie a.t.now.places a.t.now.words.now a.t.now.places.first a.t.now.places.rules c.args.t.now.laid.rules_lie (l.last - 1)
    (omega (arith, places_length a.t.now.words.now a.t.now.places.first a.t.now.places.rules))) in
    let head : let l = c.loop-last in let a = c.args in
    c.part-head.result.now ≡ part_at a.t.now.words.now (get_or (places_of a.t.now.words.now a.t.now.places) (l.last - 1) 0) = c.part-head.ensures ∙ ap (part_at c.args.t.now.words.now) (read) in
    let later : let l = c.loop-last in let a = c.args in
    Placed a.t.now.words.now a.t.now.places (drop (l.last - 1 + 1) (places_of a.t.now.words.now a.t.now.places)) l.lists =
    let l = c.loop-last in
    let a = c.args in
    let e : l.last ≡ l.last - 1 + 1 = omega arith in
    subst (λ (n : ℕ). Placed a.t.now.words.now a.t.now.places (drop n (places_of a.t.now.words.now a.t.now.places)) l.lists) e l.invariant in
    let l = c.loop-last in
    let a = c.args in
    let k = l.last - 1 in (
      subst (Members 256) (sym c.part-head.ensures) (λ j h. let m = (lies).heads.members j h in (m.0, omega (arith, m.1, c.args.t.now.laid.few_atoms))),
      l.invariant.regions,
      subst (λ (m : List ℤ). Room (atoms m) l.lists) (sym (head)) (placed_room a.t.now.words.now a.t.now.places c.args.t.now.laid k (omega arith) l.lists (later)),
    )

pub loop-last-preserved : goal.loop-last-preserved
loop-last-preserved c =
    let read : let l = c.loop-last in let a = c.args in
    get_or l.lists (bounds + (l.last - 1)) 0 ≡ get_or (places_of a.t.now.words.now a.t.now.places) (l.last - 1) 0 =
    let l = c.loop-last in
    let a = c.args in
    let P = places_of a.t.now.words.now a.t.now.places in
    let all = placed_places a.t.now.words.now a.t.now.places c.args.t.now.laid (drop l.last P) l.lists l.invariant in
    part_word l.lists bounds a.t.now.places.rules (l.last - 1) P all (omega arith) in
    let lies : let l = c.loop-last in let a = c.args in
    RuleLies a.t.now.places.atoms a.t.now.places.aggregates a.t.now.words.now (get_or l.lists (bounds + (l.last - 1)) 0) =
    let l = c.loop-last in
    let a = c.args in
    subst (RuleLies a.t.now.places.atoms a.t.now.places.aggregates a.t.now.words.now) (sym (read))
    (places_lie a.t.now.places a.t.now.words.now a.t.now.places.first a.t.now.places.rules c.args.t.now.laid.rules_lie (l.last - 1)
    (omega (arith, places_length a.t.now.words.now a.t.now.places.first a.t.now.places.rules))) in
    let head : let l = c.loop-last in let a = c.args in
    c.part-head.result.now ≡ part_at a.t.now.words.now (get_or (places_of a.t.now.words.now a.t.now.places) (l.last - 1) 0) = c.part-head.ensures ∙ ap (part_at c.args.t.now.words.now) (read) in
    let later : let l = c.loop-last in let a = c.args in
    Placed a.t.now.words.now a.t.now.places (drop (l.last - 1 + 1) (places_of a.t.now.words.now a.t.now.places)) l.lists =
    let l = c.loop-last in
    let a = c.args in
    let e : l.last ≡ l.last - 1 + 1 = omega arith in
    subst (λ (n : ℕ). Placed a.t.now.words.now a.t.now.places (drop n (places_of a.t.now.words.now a.t.now.places)) l.lists) e l.invariant in
    let l = c.loop-last in
    let a = c.args in
    let t = a.t.now.words.now in
    let k = l.last - 1 in
    let i = get_or (places_of t a.t.now.places) k 0 in
    let low : Members a.t.now.places.atoms (part_at t i) = subst (λ (j : ℕ). Members a.t.now.places.atoms (part_at t j)) (read) (lies).heads.members in
    let put : Put (atoms (part_at t i)) i l.lists c.put_head.new.lists =
    subst (λ (j : ℕ). Put (atoms (part_at t i)) j l.lists c.put_head.new.lists) (read)
    (subst (λ (m : List ℤ). Put (atoms m) (get_or l.lists (bounds + k) 0) l.lists c.put_head.new.lists) (head) c.put_head.ensures) in
    placed_on t a.t.now.places c.args.t.now.laid k (omega arith) l.lists (later) a.t.now.places.atoms low c.put_head.new.lists put

pub returns : goal.returns
returns c =
    let l = c.loop-last in
    let a = c.args in
    let z : l.last ≡ 0 = omega arith in
    placed_whole a.t.now.words.now a.t.now.places c.args.t.now.laid l.lists
    (subst (λ (n : ℕ). Placed a.t.now.words.now a.t.now.places (drop n (places_of a.t.now.words.now a.t.now.places)) l.lists) z l.invariant)
