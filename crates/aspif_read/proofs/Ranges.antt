-- The ranges of a statement as the machine tests them are those of `Lines`. Assumes nothing.
use mathlib.Core.Path.{◌≡◌, refl, sym, ap, ◌∙◌}
use mathlib.Core.Bool.{Bool, true, false, ◌&&◌}
use mathlib.Core.List.{List, [], ◌∷◌}
use mathlib.Core.Option.{Option, some, none}
use Prim.Native.Nat.{ℕ, zero, suc, ◌<◌, ◌≤◌}
use native.Mathlib.Omega.{arith}
use borrow.Author.Tests.{lt-ltb, le-ltb, le-leb, lt-leb, leb-true, leb-false}
use lib.Dec.{leb, ltb}
use lib.IntN.{ℤ, pos, negsuc, pred_ℤ}
use lib.Signed.{le_z}
use Rattle.meaning.specs.Lists.{all}
use Rattle.meaning.specs.Program.{Element}
use Rattle.meaning.specs.Cycles.{inside}
use Rattle.table.specs.Roles.{within}
use Rattle.aspif.specs.Lines.{Weighed, cons_weight, weights_in}
use Rattle.aspif_read.proofs.Leaves.{cap, within_all, pair_atoms, fine, within_pairs, LowAll}

-- ---- the ranges, as tests

cap_le : (n k : ℕ) → k < 18446744073709551615 → leb (cap n) k ≡ leb n k
cap_le n k h = at (leb n k) refl
  where
    at : (b : Bool) → leb n k ≡ b → leb (cap n) k ≡ b
    at true e = let q = leb-true n k e in le-leb (cap n) k (omega arith)
    at false e = let q = leb-false n k e in lt-leb (cap n) k (omega arith)

inside_of : (p : ℕ) → 1 ≤ p → leb (cap p) 256 ≡ inside 256 p
inside_of p h = cap_le p 256 (omega arith) ∙ at (leb p 256) refl
  where
    at : (b : Bool) → leb p 256 ≡ b → b ≡ (ltb 0 p && ltb p 257)
    at true e = let q = leb-true p 256 e in rw (lt-ltb 0 p h, lt-ltb p 257 (omega arith))
    at false e = let q = leb-false p 256 e in rw (lt-ltb 0 p h, le-ltb p 257 (omega arith))

and_true : (a : Bool) → a ≡ (a && true)
and_true true = refl
and_true false = refl

and_assoc : (a b c : Bool) → (a && b && c) ≡ (a && (b && c))
and_assoc true b c = refl
and_assoc false b c = refl

pub within_all_lem : (l : List ℕ) (w : Bool) → LowAll l → within_all w l ≡ (w && all (inside 256) l)
within_all_lem [] w u = and_true w
within_all_lem (p ∷ l) w u =
    within_all_lem l (w && leb (cap p) 256) u.1 ∙ ap (λ (b : Bool). w && b && all (inside 256) l) (inside_of p u.0) ∙ and_assoc w (inside 256 p) (all (inside 256) l)

abbrev pub all_fine : List Weighed → Bool
all_fine l = all (λ (x : Weighed). fine 65535 x.weight) l

regroup : (w i f a g : Bool) → (w && i && f && (a && g)) ≡ (w && ((i && a) && (f && g)))
regroup false i f a g = refl
regroup true false f a g = refl
regroup true true true a g = refl
regroup true true false true g = refl
regroup true true false false g = refl

pub within_pairs_lem : (l : List Weighed) (w : Bool) → LowAll (pair_atoms l) → within_pairs w l ≡ (w && (all (inside 256) (pair_atoms l) && all_fine l))
within_pairs_lem [] w u = and_true w
within_pairs_lem (x ∷ l) w u =
    within_pairs_lem l (w && leb (cap x.atom) 256 && fine 65535 x.weight) u.1
    ∙ ap (λ (b : Bool). w && b && fine 65535 x.weight && (all (inside 256) (pair_atoms l) && all_fine l)) (inside_of x.atom u.0)
    ∙ regroup w (inside 256 x.atom) (fine 65535 x.weight) (all (inside 256) (pair_atoms l)) (all_fine l)

pub negative_weight : (l : List Weighed) → weights_in l ≡ none → all_fine l ≡ false
negative_weight [] e = absurd (let z : ◌≡◌ {A = ℕ} 0 1 = cc in omega arith)
negative_weight (x ∷ l) e = at (weights_in l) refl x.weight refl (λ g. negative_weight l g)
  where
    at : (o : Option (List Element)) → weights_in l ≡ o → (z : ℤ) → x.weight ≡ z → (weights_in l ≡ none → all_fine l ≡ false) → (fine 65535 x.weight && all_fine l) ≡ false
    at none f z g r = ap (λ (b : Bool). fine 65535 x.weight && b) (r f) ∙ off (fine 65535 x.weight)
      where
        off : (b : Bool) → (b && false) ≡ false
        off true = refl
        off false = refl
    at (some ds) f (ℤ.pos v) g r =
        let y : cons_weight x (some ds) ≡ some (record { value = v; atom = x.atom } ∷ ds) = rw (g, cons_weight) in
        absurd (let q : cons_weight x (some ds) ≡ none = ap (cons_weight x) (sym f) ∙ e in let z : ◌≡◌ {A = ℕ} 0 1 = cc in omega arith)
    at (some ds) f (negsuc v) g r = ap (λ (z : ℤ). fine 65535 z && all_fine l) g

pub bound_of_lem : (b : ℤ) → fine 4194305 b ≡ within (negsuc 0) (pos 4194304) (pred_ℤ b)
bound_of_lem (ℤ.pos zero) = refl
bound_of_lem (ℤ.pos (suc n)) = cap_le (suc n) 4194305 (omega arith) ∙ at (leb n 4194304) refl
  where
    at : (t : Bool) → leb n 4194304 ≡ t → leb (suc n) 4194305 ≡ within (negsuc 0) (pos 4194304) (pos n)
    at true e = let q = leb-true n 4194304 e in le-leb (suc n) 4194305 (omega arith) ∙ sym e
    at false e = let q = leb-false n 4194304 e in lt-leb (suc n) 4194305 (omega arith) ∙ sym e
bound_of_lem (negsuc n) = sym (ap (λ (b : Bool). b && le_z (negsuc (suc n)) (pos 4194304)) (lt-leb (suc n) 0 (omega arith)))
