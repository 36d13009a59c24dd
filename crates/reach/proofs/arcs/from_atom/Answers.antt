-- `reach::arcs::from_atom` meets its contract. The invariant: the set so far and what the rules to come make arcs to are what all rules of the atom's list make arcs to. Assumes nothing.
use mathlib.Core.Path.{◌≡◌, refl, sym, ap, ◌∙◌, fun_ext, subst}
use mathlib.Core.Bool.{Bool}
use Prim.Native.Nat.{ℕ, ◌+◌}
use native.Mathlib.Omega.{arith}
use lib.ListN.{get_or, drop}
use Rattle.meaning.specs.Lists.{any}
use Rattle.layout.specs.Layout.{rule_at}
use Rattle.heads.specs.Heads.{places_of, with_head, AllLie}
use Rattle.heads.proofs.Laws.{places_lie, with_lie}
use Rattle.levels.specs.Levels.{union}
use Rattle.levels.specs.View.{row}
use Rattle.reach.specs.Arcs.{targets}
use Rattle.reach.proofs.Graph.{arcs_by_head}
use Rattle.reach.proofs.Sets.{moved, with_none, none}
use Rattle.reach.proofs.Walk.{places_end, places_on}
use Rattle.reach.proofs.arcs.from_atom.Invariants.{aims}
use Rattle.reach.proofs.arcs.from_atom.Goals as goal

pub loop-at-init : goal.loop-at-init
loop-at-init c = with_none (aims c.args.added c.args.t.now.words.now c.list-l.result.now) (row c.empty-all.result) c.empty-all.ensures

pub targets-next-requires : goal.targets-next-requires
targets-next-requires c =
    let a = c.args in
    let t = a.t.now.words.now in
    let tb = a.t.now.places in
    let those : c.list-l.result.now ≡ with_head t a.p (places_of t tb) = c.list-l.ensures ∙ (c.requires.0.each a.p c.requires.1 c.requires.2).same in
    let lie : AllLie tb t c.list-l.result.now = subst (AllLie tb t) (sym those) (with_lie tb t a.p (places_of t tb) (places_lie tb t tb.first tb.rules c.args.t.now.laid.rules_lie)) in
    lie c.loop-at.at-index (omega arith)

pub loop-at-preserved : goal.loop-at-preserved
loop-at-preserved c =
    let a = c.args in
    let t = a.t.now.words.now in
    let l = c.list-l.result.now in
    let i = c.loop-at.at-index in
    let S = row c.loop-at.all in
    let f : ℕ → ℕ → Bool = λ q j. targets a.added (rule_at t j) q in
    ap (union (aims a.added t (drop (i + 1) l))) c.targets-next.ensures
    ∙ sym (fun_ext (λ q. moved S q (f q (get_or l i 0)) _ _ _ (places_on l i (f q) (omega arith)) refl)) ∙ c.loop-at.invariant

pub returns : goal.returns
returns c =
    let a = c.args in
    let t = a.t.now.words.now in
    let l = c.list-l.result.now in
    let f : ℕ → ℕ → Bool = λ q j. targets a.added (rule_at t j) q in
    let those : l ≡ with_head t a.p (places_of t a.t.now.places) = c.list-l.ensures ∙ (c.requires.0.each a.p c.requires.1 c.requires.2).same in
    fun_ext (λ q. none (row c.loop-at.all) q _ (places_end l c.loop-at.at-index (f q) (omega arith))) ∙ c.loop-at.invariant
    ∙ fun_ext (λ q. ap (any (f q)) those ∙ arcs_by_head a.added t a.t.now.places a.p q)
