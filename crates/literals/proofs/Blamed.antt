-- The reason of an aggregate that lies in the table: what the code finds is the union over the elements that settle it. Assumes nothing.
use mathlib.Core.Path.{◌≡◌, refl, sym, ap₂}
use mathlib.Core.Bool.{Bool, true, false, not, ◌&&◌}
use mathlib.Core.List.Memᴰ
use mathlib.Core.List.{List, [], ◌∷◌}
use Prim.Native.Nat.{ℕ, ◌+◌, ◌<◌}
use native.Mathlib.Omega.{arith}
use mathlib.Core.Path.{ap, ◌∙◌}
use lib.Dec.{eqb}
use lib.IntN.{ℤ, pos}
use lib.ListN.{get_or}
use Rattle.meaning.specs.Lists.{Is, ◌∈◌, any}
use Rattle.meaning.specs.Program.{Element}
use Rattle.meaning.specs.declared.Comparison.{Comparison}
use Rattle.meaning.specs.declared.Comparison.TheVariants.{Less, Greater}
use Rattle.meaning.specs.declared.Function.{Function}
use Rattle.meaning.specs.declared.Function.TheVariants.{Count, Sum, Min, Max}
use Rattle.meaning.proofs.Tools.{contra, any_e, eq}
use Rattle.levels.specs.Levels.{Levels, union}
use Rattle.interpretation.specs.State.{Cell}
use Rattle.layout.specs.Layout.{Rising, AggregateLies, nat_at, function_by, comparison_by, pairs, pairs_at, aggregate_at}
use Rattle.valuing.specs.Values.{asks_each}
use Rattle.valuing.specs.Settling.{settling_of}
use Rattle.valuing.specs.Reasons.{reasons_at}
use Rattle.valuing.specs.Walk.{atoms_differ}
use Rattle.literals.specs.Elements.{limit_of}
use Rattle.literals.specs.Settled.{blamed_by}
use Rattle.literals.proofs.Runs.{adds_law}
use Rattle.literals.proofs.Singles.{single_law}

rising_above : (b : ℕ) (es : List Element) → Rising b es → (e : Element) → e ∈ es → b < e.atom
rising_above b [] h e m = absurd (Memᴰ.not-nil m)
rising_above b (d ∷ es) h e (Memᴰ.head q) = let x : e.atom ≡ d.atom = ap (λ (z : Element). z.atom) q in let k = h.0 in omega (arith, x, k)
rising_above b (d ∷ es) h e (Memᴰ.tail m) = let k = h.0 in let n = rising_above d.atom es h.1 e m in omega (arith, k, n)

-- atoms that ascend differ
pub rising_differ : (b : ℕ) (es : List Element) → Rising b es → Is (atoms_differ es)
rising_differ b [] h = refl
rising_differ b (e ∷ es) h =
    let q : any (λ (d : Element). eqb e.atom d.atom) es ≡ false = contra (any (λ (d : Element). eqb e.atom d.atom) es) {b = false} (λ x. absurd (bad (any_e (λ (d : Element). eqb e.atom d.atom) es x))) refl in
    ap (λ (x : Bool). not x && atoms_differ es) q ∙ rising_differ e.atom es h.1
  where
    bad : (d : Element) × (d ∈ es) × Is (eqb e.atom d.atom) → ⊥
    bad t = let n = rising_above e.atom es h.1 t.0 t.1 in let x = eq e.atom t.0.atom t.2 in omega (arith, n, x)

-- max asks each value where min does not
pub max_each : (c : Comparison) → not (asks_each Min c) ≡ asks_each Max c
max_each Less = refl
max_each Greater = refl

pub blamed_right : (a : ℕ → Cell) (r : ℕ → Levels) (B : Levels) (f : Function) (c : Comparison) (z : ℤ) (es : List Element) → Is (atoms_differ es)
    → blamed_by f c (limit_of z) a r es B ≡ union (reasons_at r (settling_of a (record { function = f; comparison = c; threshold = z; elements = es }))) B
blamed_right a r B Count c z es D = sym (adds_law a r B (record { function = Count; comparison = c; threshold = z; elements = es }) true (λ v. refl) refl D)
blamed_right a r B Sum c z es D = sym (adds_law a r B (record { function = Sum; comparison = c; threshold = z; elements = es }) false (λ v. refl) refl D)
blamed_right a r B Min c z es D = sym (single_law a Min refl c z es D r B)
blamed_right a r B Max c z es D = sym (single_law a Max refl c z es D r B)

-- the same of the aggregate that begins at i
pub blamed_at : (X : ℕ → Cell) (R : ℕ → Levels) (M : Levels) (t : List ℤ) (i : ℕ) (f : Function) (c : Comparison) (k : ℕ) (w : List ℤ) → AggregateLies 256 t i → f ≡ function_by (nat_at t i)
    → c ≡ comparison_by (nat_at t (i + 1)) → k ≡ limit_of (get_or t (i + 2) (pos 0)) → w ≡ pairs_at t i
    → blamed_by f c k X R (pairs w) M ≡ union (reasons_at R (settling_of X (aggregate_at t i))) M
unfolding aggregate_at
blamed_at X R M t i f c k w L ef ec ek ew =
    ap (λ (g : Function). blamed_by g c k X R (pairs w) M) ef ∙ ap (λ (x : Comparison). blamed_by (function_by (nat_at t i)) x k X R (pairs w) M) ec
    ∙ ap₂ (λ (n : ℕ) (m : List ℤ). blamed_by (function_by (nat_at t i)) (comparison_by (nat_at t (i + 1))) n X R (pairs m) M) ek ew
    ∙ blamed_right X R M (function_by (nat_at t i)) (comparison_by (nat_at t (i + 1))) (get_or t (i + 2) (pos 0)) (pairs (pairs_at t i)) (rising_differ 0 (pairs (pairs_at t i)) L.ascend)
