-- `reach::arcs::with_atoms` meets its contract. The invariant: the set so far and the atoms to come are all atoms and the set at the start. Assumes nothing.
use borrow.Author.Rules.{rules}
use mathlib.Core.Path.{◌≡◌, sym, ap, ◌∙◌}
use Prim.Native.Nat.{ℕ, ◌+◌}
use native.Mathlib.Omega.{arith}
use lib.IntN.{pos, nat_abs}
use lib.ListN.{get_or, drop}
use Rattle.levels.specs.Levels.{union, only}
use Rattle.levels.specs.View.{row}
use Rattle.reach.specs.Arcs.{listed}
use Rattle.reach.proofs.Sets.{listed_end, listed_on}
use Rattle.reach.proofs.arcs.with_atoms.Goals as goal

pub loop-w-preserved : goal.loop-w-preserved
loop-w-preserved c =
    let l = c.args.l.now in
    let i = c.loop-w.w-index in
    let S = row c.loop-w.all in
    let e : c.size.result ≡ nat_abs (get_or l i (pos 0)) = search rules in
    ap (union (listed (drop (i + 1) l))) (c.with-next.ensures ∙ ap (λ (p : ℕ). union (only p) S) e)
    ∙ sym (listed_on l i S (omega arith)) ∙ c.loop-w.invariant

pub returns : goal.returns
returns c = listed_end c.args.l.now c.loop-w.w-index (row c.loop-w.all) (omega arith) ∙ c.loop-w.invariant
