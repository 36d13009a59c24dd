-- A member of a list, and an arc by a rule of an atom's list. Assumes nothing.
use mathlib.Core.Path.{◌≡◌, refl, sym, ◌∙◌, subst}
use mathlib.Core.Logic.{◌⊎◌, inl, inr, ◌≢◌}
use mathlib.Core.Bool.{Bool, true, false}
use mathlib.Core.List.{List, [], ◌∷◌}
use Prim.Native.Nat.{ℕ, zero, suc, ◌+◌, ◌<◌}
use native.Mathlib.Omega.{arith}
use lib.Dec.{eqb}
use lib.IntN.{ℤ, pos, nat_abs}
use lib.ListN.{length, get_or}
use borrow.Author.Tests.{eq-eqb}
use Rattle.meaning.specs.Lists.{Is, any, has}
use Rattle.meaning.specs.Program.{Program}
use Rattle.meaning.specs.Dependency.{arc, added_arc, any_arc}
use Rattle.meaning.proofs.Cond.{eq_case}
use Rattle.meaning.proofs.Tools.{or_l, or_r}
use Rattle.layout.specs.declared.Table.{Table}
use Rattle.layout.specs.Layout.{part_at, pos_at, rule_at, program_of}
use Rattle.heads.specs.Heads.{places_of, with_head}
use Rattle.reach.specs.Arcs.{arcs_of, targets, listed}
use Rattle.reach.proofs.Graph.{arcs_by_head}

-- a test that a member passes
pub any_at : (f : ℕ → Bool) (l : List ℕ) (k : ℕ) → k < length l → Is (f (get_or l k 0)) → Is (any f l)
any_at f [] k h e = absurd (omega arith)
any_at f (x ∷ l) zero h e = or_l (f x) (any f l) e
any_at f (x ∷ l) (suc k) h e = or_r (f x) (any f l) (any_at f l k (omega arith) e)

pub listed_at : (l : List ℤ) (k : ℕ) → k < length l → Is (listed l (nat_abs (get_or l k (pos 0))))
unfolding has
listed_at [] k h = absurd (omega arith)
listed_at (w ∷ l) zero h = or_l (eqb (nat_abs w) (nat_abs w)) _ (eq-eqb (nat_abs w) (nat_abs w) refl)
listed_at (w ∷ l) (suc k) h = or_r (eqb (nat_abs (get_or l k (pos 0))) (nat_abs w)) _ (listed_at l k (omega arith))

-- a positive body atom of a rule of the atom's list
pub arc_at : (t : List ℤ) (tb : Table) (p q k : ℕ) → let l = with_head t p (places_of t tb) in k < length l → Is (listed (part_at t (pos_at t (get_or l k 0))) q) → Is (arcs_of false (program_of t tb) p q)
unfolding targets rule_at
arc_at t tb p q k h e =
    let l = with_head t p (places_of t tb) in
    sym (arcs_by_head false t tb p q) ∙ any_at (λ (i : ℕ). targets false (rule_at t i) q) l k h (or_l (listed (part_at t (pos_at t (get_or l k 0))) q) false e)

-- the arcs to positive body atoms are among all arcs
pub arcs_more : (added : Bool) (P : Program) (p q : ℕ) → Is (arcs_of false P p q) → Is (arcs_of added P p q)
unfolding any_arc
arcs_more true P p q h = or_l (arc P p q) (added_arc P p q) h
arcs_more false P p q h = h

-- one more
pub each_more : (X : ℕ → Type 0) (i : ℕ) → X i → ((j : ℕ) → j < i → X j) → (j : ℕ) → j < i + 1 → X j
each_more X i here old j k = at (eq_case j i)
  where
    at : (j ≡ i) ⊎ (j ≢ i) → X j
    at (inl e) = subst X (sym e) here
    at (inr d) = old j (omega (arith, k, d))
