-- `reach::marks::put` meets its contract. The invariant: the atoms above l are put. Assumes nothing.
use mathlib.Core.Path.{◌≡◌, ap, ◌∙◌}
use mathlib.Core.Logic.{◌⊎◌, inl, inr}
use mathlib.Core.List.{List}
use Prim.Native.Nat.{ℕ, suc, ◌-◌, ◌*◌, ◌/◌, ◌≤◌, ◌<◌}
use native.Mathlib.Omega.{arith}
use lib.ListN.{get_or}
use Rattle.meaning.proofs.Cond.{lt_case}
use Rattle.meaning.proofs.Tools.{clash}
use Rattle.levels.specs.View.{row}
use Rattle.reach.specs.Visits.{within}
use Rattle.reach.proofs.Words.{row_off}
use Rattle.reach.proofs.Putting.{put_same}
use Rattle.reach.proofs.marks.put.Goals as goal

-- none of the set is among the atoms of a word that is 0
passed : (ws : List ℕ) (l n q : ℕ) → get_or ws ((l - 1) / 64) 0 ≡ 0 → within (suc (64 * ((l - 1) / 64))) n (row ws) q → (l < q) ⊎ (q ≤ l) → within (suc l) n (row ws) q
passed ws l n q e t (inl h) = (h, t.1, t.2)
passed ws l n q e t (inr h) =
    let k : (q - 1) / 64 ≡ (l - 1) / 64 = omega (arith, t.0) in
    absurd (clash t.2 (row_off ws q (omega (arith, t.0)) (ap (λ (i : ℕ). get_or ws i 0) k ∙ e)))

pub loop-l-preserved-then-to-k-eq0 : goal.loop-l-preserved-then-to-k-eq0
loop-l-preserved-then-to-k-eq0 c =
    let a = c.args in
    let l = c.loop-l.l in (
      omega arith,
      put_same (within (suc l) a.n (row a.to)) (within (suc (64 * ((l - 1) / 64))) a.n (row a.to)) _ _ _ _ _ _ c.loop-l.invariant.1
          (λ q t. passed a.to l a.n q c.if-to-k-eq0.true t (lt_case l q)) (λ q s. (omega (arith, s.0), s.1, s.2)),
    )
