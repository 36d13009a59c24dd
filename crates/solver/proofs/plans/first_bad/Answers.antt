-- `solver::plans::first_bad` meets its contract: what the library's `position` finds is the first bad byte. Assumes nothing.
use borrow.Author.Rules.{rules}
use mathlib.Core.Path.{◌≡◌, sym, ◌∙◌}
use Prim.Native.Nat.{ℕ}
use native.Mathlib.Omega.{arith}
use lib.Dec.{ltb}
use lib.ListN.{take}
use Rattle.std.proofs.lemmas.Iterator.{YieldsList-from_slice}
use Rattle.std.proofs.lemmas.Iterator.Adapters.{position_from-zero}
use Rattle.std.proofs.lemmas.Iterator.Search.{position_from_yields_List}
use Rattle.solver.proofs.Offered.{bad_position}
use Rattle.solver.proofs.plans.first_bad.Goals as goal

pub returns : goal.returns
returns c =
    let a = c.args in
    position_from_yields_List (λ (b : ℕ). ltb 1 b) _ _ _ c.position.ensures.ran (YieldsList-from_slice (take a.n a.plan.now) cc) (λ x b q k. search rules)
    ∙ position_from-zero (λ (b : ℕ). ltb 1 b) (take a.n a.plan.now)
    ∙ sym (bad_position a.plan.now a.n 0 (omega arith))
