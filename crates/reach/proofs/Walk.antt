-- The pairs of an accepted table's aggregates, and the members of a list of rules' places, one at a time. Assumes nothing.
use mathlib.Core.Path.{◌≡◌, sym, ap, ◌∙◌, subst}
use mathlib.Core.Bool.{Bool, false, ◌||◌}
use mathlib.Core.List.{List, ◌∷◌}
use Prim.Native.Nat.{ℕ, suc, ◌+◌, ◌-◌, ◌*◌, ◌≤◌, ◌<◌}
use native.Mathlib.Omega.{arith}
use lib.IntN.{ℤ, pos, nat_abs}
use lib.ListN.{length, get_or, drop, length-take, drop_of_length-le}
use lib.Seq.{drop-cons, get_or-take, get_or-drop}
use Rattle.meaning.specs.Lists.{any}
use Rattle.meaning.specs.Program.{In}
use Rattle.layout.specs.declared.Table.{Table}
use Rattle.layout.specs.Layout.{nat_at, pairs_at, start_from, AggregateLies, Laid}
use Rattle.reach.specs.Arcs.{Elements}

pub elements_lie : (top : ℕ) (t : List ℤ) (i : ℕ) → AggregateLies top t i → Elements top (pairs_at t i)
elements_lie top t i h k j =
    let n = nat_at t (i + 3) in
    let l : length (pairs_at t i) ≤ 2 * n = omega (arith, length-take (2 * n) (drop (i + 4) t)) in
    let e : get_or (pairs_at t i) (2 * k + 1) (pos 0) ≡ get_or t (i + 4 + 2 * k + 1) (pos 0) =
    get_or-take (2 * n) (drop (i + 4) t) (2 * k + 1) (pos 0) (omega arith) ∙ get_or-drop (i + 4) t (2 * k + 1) (pos 0) ∙ ap (λ (m : ℕ). get_or t m (pos 0)) (omega arith) in
    subst (λ (w : ℤ). In top (nat_abs w)) (sym e) (h.atoms k (omega arith))

pub elements_laid : (t : List ℤ) (tb : Table) → Laid t tb → (j : ℕ) → 1 ≤ j → j ≤ tb.aggregates → Elements 256 (pairs_at t (start_from t 2 (j - 1)))
elements_laid t tb h j a b k l =
    let i = elements_lie tb.atoms t (start_from t 2 (j - 1)) (h.aggregates (j - 1) (omega arith)) k l in
    (i.0, omega (arith, h.few_atoms))

-- ---- a list of places

module _ (l : List ℕ) (i : ℕ) (f : ℕ → Bool) where
  pub places_end : length l ≤ i → any f (drop i l) ≡ false
  places_end h = ap (any f) (drop_of_length-le l h)

  pub places_on : i < length l → any f (drop i l) ≡ f (get_or l i 0) || any f (drop (i + 1) l)
  places_on h =
      let e : suc i ≡ i + 1 = omega arith in
      ap (any f) (drop-cons l i 0 h ∙ ap (λ (j : ℕ). get_or l i 0 ∷ drop j l) e)
