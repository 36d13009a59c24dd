-- `reach::touching::touches` meets its contract: the rule at which it stops is one of the atom's list. Assumes nothing.
use mathlib.Core.Path.{◌≡◌, sym, ap, ◌∙◌, subst}
use mathlib.Core.List.{List}
use Prim.Native.Nat.{ℕ, ◌<◌}
use native.Mathlib.Omega.{arith}
use lib.IntN.{ℤ}
use lib.ListN.{length, get_or}
use Rattle.meaning.specs.Lists.{Is}
use Rattle.layout.specs.Layout.{part_at, pos_at, Members, RuleLies}
use Rattle.layout.proofs.Rounds.{members_wide}
use Rattle.heads.specs.Heads.{places_of, with_head, AllLie}
use Rattle.heads.proofs.Laws.{places_lie, with_lie}
use Rattle.reach.specs.Arcs.{listed}
use Rattle.reach.proofs.Members.{arc_at}
use Rattle.reach.proofs.touching.touches.Goals as goal

pub past-positive-requires : goal.past-positive-requires
past-positive-requires c =
    let those : let a = c.args in c.list-l.result.now ≡ with_head a.t.now.words.now a.p (places_of a.t.now.words.now a.t.now.places) = c.list-l.ensures ∙ (c.requires.0.each c.args.p c.requires.1 c.requires.2).same in
    let lie : AllLie c.args.t.now.places c.args.t.now.words.now c.list-l.result.now =
    let t = c.args.t.now.words.now in
    let tb = c.args.t.now.places in
    subst (AllLie tb t) (sym (those)) (with_lie tb t c.args.p (places_of t tb) (places_lie tb t tb.first tb.rules c.args.t.now.laid.rules_lie)) in
    let rule : let a = c.args in
    RuleLies a.t.now.places.atoms a.t.now.places.aggregates a.t.now.words.now (get_or c.list-l.result.now c.loop-at.at-index 0) = lie c.loop-at.at-index (omega arith) in
    (rule).heads.fits

pub part-body-requires : goal.part-body-requires
part-body-requires c =
    let those : let a = c.args in c.list-l.result.now ≡ with_head a.t.now.words.now a.p (places_of a.t.now.words.now a.t.now.places) = c.list-l.ensures ∙ (c.requires.0.each c.args.p c.requires.1 c.requires.2).same in
    let lie : AllLie c.args.t.now.places c.args.t.now.words.now c.list-l.result.now =
    let t = c.args.t.now.words.now in
    let tb = c.args.t.now.places in
    subst (AllLie tb t) (sym (those)) (with_lie tb t c.args.p (places_of t tb) (places_lie tb t tb.first tb.rules c.args.t.now.laid.rules_lie)) in
    let rule : let a = c.args in
    RuleLies a.t.now.places.atoms a.t.now.places.aggregates a.t.now.words.now (get_or c.list-l.result.now c.loop-at.at-index 0) = lie c.loop-at.at-index (omega arith) in
    rw c.past-positive.ensures (rule).poss.fits

pub atoms_lie-requires : goal.atoms_lie-requires
atoms_lie-requires c =
    let body : let t = c.args.t.now.words.now in
    c.part-body.result.now ≡ part_at t (pos_at t (get_or c.list-l.result.now c.loop-at.at-index 0)) = c.part-body.ensures ∙ ap (part_at c.args.t.now.words.now) c.past-positive.ensures in
    let those : let a = c.args in c.list-l.result.now ≡ with_head a.t.now.words.now a.p (places_of a.t.now.words.now a.t.now.places) = c.list-l.ensures ∙ (c.requires.0.each c.args.p c.requires.1 c.requires.2).same in
    let lie : AllLie c.args.t.now.places c.args.t.now.words.now c.list-l.result.now =
    let t = c.args.t.now.words.now in
    let tb = c.args.t.now.places in
    subst (AllLie tb t) (sym (those)) (with_lie tb t c.args.p (places_of t tb) (places_lie tb t tb.first tb.rules c.args.t.now.laid.rules_lie)) in
    let rule : let a = c.args in
    RuleLies a.t.now.places.atoms a.t.now.places.aggregates a.t.now.words.now (get_or c.list-l.result.now c.loop-at.at-index 0) = lie c.loop-at.at-index (omega arith) in
    let t = c.args.t.now.words.now in
    subst (Members 256) (sym (body)) (members_wide c.args.t.now.places.atoms 256 (part_at t (pos_at t (get_or c.list-l.result.now c.loop-at.at-index 0))) c.args.t.now.laid.few_atoms (rule).poss.members)

pub returns-then-atoms_lie : goal.returns-then-atoms_lie
returns-then-atoms_lie c =
    let those : let a = c.args in c.list-l.result.now ≡ with_head a.t.now.words.now a.p (places_of a.t.now.words.now a.t.now.places) = c.list-l.ensures ∙ (c.requires.0.each c.args.p c.requires.1 c.requires.2).same in
    let body : let t = c.args.t.now.words.now in
    c.part-body.result.now ≡ part_at t (pos_at t (get_or c.list-l.result.now c.loop-at.at-index 0)) = c.part-body.ensures ∙ ap (part_at c.args.t.now.words.now) c.past-positive.ensures in
    λ w r.
    let a = c.args in
    let t = a.t.now.words.now in
    let i = c.loop-at.at-index in
    let z = c.atoms_lie.ensures w c.if-atoms_lie.true in
    let q = z.0 in
    let h = subst (λ (m : List ℕ). i < length m) (those) (omega arith) in
    let m = subst (λ (m : List ℕ). Is (listed (part_at t (pos_at t (get_or m i 0))) q)) (those) (subst (λ (m : List ℤ). Is (listed m q)) (body) z.1) in
    (q, arc_at t a.t.now.places a.p q i h m, z.2)
