-- `reach::arcs::with_pairs` meets its contract. The invariant: the set so far and the atoms of the pairs to come are all atoms and the set at the start. Assumes nothing.
use mathlib.Core.Path.{sym, ap, ◌∙◌}
use Prim.Native.Nat.{ℕ, ◌+◌, ◌*◌}
use native.Mathlib.Omega.{arith}
use lib.ListN.{drop}
use Rattle.levels.specs.Levels.{union, only}
use Rattle.levels.specs.View.{row}
use Rattle.reach.specs.Arcs.{elements}
use Rattle.reach.proofs.Sets.{elements_end, elements_on}
use Rattle.reach.proofs.arcs.with_pairs.Goals as goal

pub loop-i-preserved : goal.loop-i-preserved
loop-i-preserved c =
    let l = c.args.l.now in
    let i = c.loop-i.i in
    let S = row c.loop-i.all in
    ap (union (elements (drop (2 * (i + 1)) l))) (c.with-next.ensures ∙ ap (λ (p : ℕ). union (only p) S) c.atom.ensures)
    ∙ sym (elements_on l i S (omega arith)) ∙ c.loop-i.invariant

pub returns : goal.returns
returns c = elements_end c.args.l.now c.loop-i.i (row c.loop-i.all) (omega arith) ∙ c.loop-i.invariant
