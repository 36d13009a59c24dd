-- Sets of atoms that grow by one member of a list at a time. Assumes nothing.
use mathlib.Core.Path.{◌≡◌, refl, sym, ap, ◌∙◌, fun_ext}
use mathlib.Core.Bool.{Bool, true, false, cond, ◌||◌}
use mathlib.Core.List.{List}
use Prim.Native.Nat.{ℕ, ◌+◌, ◌-◌, ◌*◌, ◌≤◌, ◌<◌}
use lib.Dec.{eqb}
use lib.IntN.{ℤ, pos, nat_abs}
use lib.ListN.{length, get_or, drop}
use Rattle.meaning.specs.Cond.{if_eq}
use Rattle.meaning.specs.Lists.{any, has}
use Rattle.meaning.specs.Program.{Element}
use Rattle.meaning.specs.Dependency.{occurs}
use Rattle.layout.specs.Layout.{atoms, pairs_at, aggregate_at, start_from, literal_of}
use Rattle.levels.specs.Levels.{Levels, no_levels, union, only}
use Rattle.reach.specs.Arcs.{listed, elements, literals}
use Rattle.reach.proofs.Lists.{any_end, any_on, pair_end, pair_on}

only_is : (q p : ℕ) → if_eq q p true false ≡ eqb q p
unfolding if_eq
only_is q p = at (eqb q p)
  where
    at : (b : Bool) → cond b true false ≡ b
    at true = refl
    at false = refl

has_any : (q : ℕ) (l : List ℕ) → has q l ≡ any (eqb q) l
unfolding has
has_any q l = refl

-- the first of those to come put to what is there
pub moved : (S : Levels) (q : ℕ) (a b c d : Bool) → c ≡ a || b → d ≡ a → c || S q ≡ b || (d || S q)
moved S q a b c d e f = ap (λ (x : Bool). x || S q) e ∙ at a b ∙ ap (λ (x : Bool). b || (x || S q)) (sym f)
  where
    at : (a b : Bool) → (a || b) || S q ≡ b || (a || S q)
    at true true = refl
    at true false = refl
    at false b = refl

-- nothing there yet
pub with_none : (A S : Levels) → S ≡ no_levels → union A S ≡ A
with_none A S e = ap (union A) e ∙ fun_ext (λ q. at (A q))
  where
    at : (b : Bool) → b || false ≡ b
    at true = refl
    at false = refl

pub none : (S : Levels) (q : ℕ) (c : Bool) → c ≡ false → S q ≡ c || S q
none S q c e = sym (ap (λ (x : Bool). x || S q) e)

-- ---- a list's atoms

listed_cons : (l : List ℤ) (i q : ℕ) → i < length l → listed (drop i l) q ≡ eqb q (nat_abs (get_or l i (pos 0))) || listed (drop (i + 1) l) q
listed_cons l i q h =
    has_any q (atoms (drop i l)) ∙ any_on l i (eqb q) nat_abs h
    ∙ ap (λ (x : Bool). eqb q (nat_abs (get_or l i (pos 0))) || x) (sym (has_any q (atoms (drop (i + 1) l))))

module _ (l : List ℤ) (i : ℕ) (S : Levels) where
  pub listed_end : length l ≤ i → S ≡ union (listed (drop i l)) S
  listed_end h = fun_ext (λ q. none S q (listed (drop i l) q) (has_any q (atoms (drop i l)) ∙ any_end l i (eqb q) nat_abs h))

  pub listed_on : i < length l → union (listed (drop i l)) S ≡ union (listed (drop (i + 1) l)) (union (only (nat_abs (get_or l i (pos 0)))) S)
  listed_on h = fun_ext (λ q. moved S q _ _ _ _ (listed_cons l i q h) (only_is q (nat_abs (get_or l i (pos 0)))))

-- ---- the atoms of pairs

module _ (l : List ℤ) (i : ℕ) (S : Levels) where
  pub elements_end : length l ≤ 2 * i + 1 → S ≡ union (elements (drop (2 * i) l)) S
  elements_end h = fun_ext (λ q. none S q (elements (drop (2 * i) l) q) (pair_end l i (λ (e : Element). eqb q e.atom) h))

  pub elements_on : 2 * i + 1 < length l → union (elements (drop (2 * i) l)) S ≡ union (elements (drop (2 * (i + 1)) l)) (union (only (nat_abs (get_or l (2 * i + 1) (pos 0)))) S)
  elements_on h = fun_ext (λ q. moved S q _ _ _ _ (pair_on l i (λ (e : Element). eqb q e.atom) h) (only_is q (nat_abs (get_or l (2 * i + 1) (pos 0)))))

-- ---- the atoms of aggregate literals

occurs_is : (t : List ℤ) (w : ℤ) (q : ℕ) → elements (pairs_at t (start_from t 2 (nat_abs w - 1))) q ≡ occurs q (literal_of t w)
unfolding occurs aggregate_at
occurs_is t w q = refl

module _ (t l : List ℤ) (i : ℕ) (S : Levels) where
  pub literals_end : length l ≤ i → S ≡ union (literals t (drop i l)) S
  literals_end h = fun_ext (λ q. none S q (literals t (drop i l) q) (any_end l i (occurs q) (literal_of t) h))

  pub literals_on : i < length l
      → union (literals t (drop i l)) S ≡ union (literals t (drop (i + 1) l)) (union (elements (pairs_at t (start_from t 2 (nat_abs (get_or l i (pos 0)) - 1)))) S)
  literals_on h = fun_ext (λ q. moved S q _ _ _ _ (any_on l i (occurs q) (literal_of t) h) (occurs_is t (get_or l i (pos 0)) q))
