-- `reach::arcs::with_literals` meets its contract. The invariant: the set so far and the elements of the literals to come are all elements and the set at the start. Assumes nothing.
use borrow.Author.Rules.{rules}
use mathlib.Core.Path.{◌≡◌, sym, ap, ◌∙◌, subst}
use mathlib.Core.List.{List}
use Prim.Native.Nat.{ℕ, ◌+◌, ◌-◌, ◌≤◌}
use native.Mathlib.Omega.{arith}
use lib.IntN.{ℤ, pos, nat_abs}
use lib.ListN.{get_or, drop}
use Rattle.levels.specs.Levels.{union}
use Rattle.levels.specs.View.{row}
use Rattle.layout.specs.Layout.{pairs_at, start_from}
use Rattle.reach.specs.Arcs.{elements, literals, Elements}
use Rattle.reach.proofs.Sets.{literals_end, literals_on}
use Rattle.reach.proofs.Walk.{elements_laid}
use Rattle.reach.proofs.arcs.with_literals.Goals as goal

pub with_pairs-next-requires : goal.with_pairs-next-requires
with_pairs-next-requires c =
    let j = c.size.result in
    let e : j ≡ nat_abs (get_or c.args.l.now c.loop-w.w-index (pos 0)) = search rules in
    let h : (1 ≤ j) × (j ≤ c.args.t.now.places.aggregates) = rw e (c.requires _ (omega arith)) in
    subst (Elements 256) (sym c.elements_of-pairs.ensures) (elements_laid c.args.t.now.words.now c.args.t.now.places c.args.t.now.laid j h.0 h.1)

pub loop-w-preserved : goal.loop-w-preserved
loop-w-preserved c =
    let t = c.args.t.now.words.now in
    let l = c.args.l.now in
    let i = c.loop-w.w-index in
    let S = row c.loop-w.all in
    let e : c.size.result ≡ nat_abs (get_or l i (pos 0)) = search rules in
    ap (union (literals t (drop (i + 1) l)))
    (c.with_pairs-next.ensures ∙ ap (λ (m : List ℤ). union (elements m) S) c.elements_of-pairs.ensures
    ∙ ap (λ (j : ℕ). union (elements (pairs_at t (start_from t 2 (j - 1)))) S) e)
    ∙ sym (literals_on t l i S (omega arith)) ∙ c.loop-w.invariant

pub returns : goal.returns
returns c = literals_end c.args.t.now.words.now c.args.l.now c.loop-w.w-index (row c.loop-w.all) (omega arith) ∙ c.loop-w.invariant
