-- Lists of words: a test on some member of those from an index on, with the first of them apart. Assumes nothing.
use mathlib.Core.Path.{◌≡◌, refl, ap, ◌∙◌}
use mathlib.Core.Bool.{Bool, false, ◌||◌}
use mathlib.Core.List.{List, [], ◌∷◌, map}
use Prim.Native.Nat.{ℕ, suc, ◌+◌, ◌-◌, ◌*◌, ◌≤◌, ◌<◌}
use native.Mathlib.Omega.{arith}
use lib.IntN.{ℤ, pos, nat_abs}
use lib.ListN.{length, get_or, drop, drop_of_length-le, length-drop}
use lib.Seq.{drop-cons}
use Rattle.meaning.specs.Lists.{any}
use Rattle.meaning.specs.Program.{Element}
use Rattle.layout.specs.Layout.{pairs}

module _ (l : List ℤ) (i : ℕ) where
  on : i < length l → drop i l ≡ get_or l i (pos 0) ∷ drop (i + 1) l
  on h =
      let e : suc i ≡ i + 1 = omega arith in
      drop-cons l i (pos 0) h ∙ ap (λ (j : ℕ). get_or l i (pos 0) ∷ drop j l) e

  module _ {A : Type 0} (f : A → Bool) (g : ℤ → A) where
    pub any_end : length l ≤ i → any f (map g (drop i l)) ≡ false
    any_end h = ap (λ (m : List ℤ). any f (map g m)) (drop_of_length-le l h)

    pub any_on : i < length l → any f (map g (drop i l)) ≡ f (g (get_or l i (pos 0))) || any f (map g (drop (i + 1) l))
    any_on h = ap (λ (m : List ℤ). any f (map g m)) (on h)

-- the same said of i - 1 and i
pub any_down : (l : List ℤ) (i : ℕ) {A : Type 0} (f : A → Bool) (g : ℤ → A) → 0 < i → i ≤ length l → any f (map g (drop (i - 1) l)) ≡ f (g (get_or l (i - 1) (pos 0))) || any f (map g (drop i l))
any_down l i f g h k =
    let e : i - 1 + 1 ≡ i = omega arith in
    any_on l (i - 1) f g (omega arith) ∙ ap (λ (j : ℕ). f (g (get_or l (i - 1) (pos 0))) || any f (map g (drop j l))) e

-- ---- pairs of value and atom

pairs_cons : (v p : ℤ) (l : List ℤ) → pairs (v ∷ p ∷ l) ≡ record { value = nat_abs v; atom = nat_abs p } ∷ pairs l
unfolding pairs
pairs_cons v p l = refl

pairs_short : (l : List ℤ) → length l ≤ 1 → pairs l ≡ []
unfolding pairs
pairs_short [] h = refl
pairs_short (v ∷ []) h = refl
pairs_short (v ∷ p ∷ l) h = absurd (omega arith)

module _ (l : List ℤ) (i : ℕ) where
  abbrev here : Element
  here = record { value = nat_abs (get_or l (2 * i) (pos 0)); atom = nat_abs (get_or l (2 * i + 1) (pos 0)) }

  pairs_on : 2 * i + 1 < length l → pairs (drop (2 * i) l) ≡ here ∷ pairs (drop (2 * (i + 1)) l)
  pairs_on h =
      let j : ℕ = 2 * i in
      let e : j + 1 + 1 ≡ 2 * (i + 1) = omega arith in
      ap pairs (on l j (omega arith) ∙ ap (λ (m : List ℤ). get_or l j (pos 0) ∷ m) (on l (j + 1) h ∙ ap (λ (k : ℕ). get_or l (j + 1) (pos 0) ∷ drop k l) e))
      ∙ pairs_cons (get_or l j (pos 0)) (get_or l (j + 1) (pos 0)) (drop (2 * (i + 1)) l)

  module _ (f : Element → Bool) where
    pub pair_end : length l ≤ 2 * i + 1 → any f (pairs (drop (2 * i) l)) ≡ false
    pair_end h = ap (any f) (pairs_short (drop (2 * i) l) (omega (arith, length-drop (2 * i) l)))

    pub pair_on : 2 * i + 1 < length l → any f (pairs (drop (2 * i) l)) ≡ f here || any f (pairs (drop (2 * (i + 1)) l))
    pair_on h = ap (any f) (pairs_on h)

pub pair_down : (l : List ℤ) (i : ℕ) (f : Element → Bool) → 0 < i → 2 * i ≤ length l
    → any f (pairs (drop (2 * (i - 1)) l)) ≡ f record { value = nat_abs (get_or l (2 * (i - 1)) (pos 0)); atom = nat_abs (get_or l (2 * (i - 1) + 1) (pos 0)) } || any f (pairs (drop (2 * i) l))
pair_down l i f h k =
    let e : i - 1 + 1 ≡ i = omega arith in
    pair_on l (i - 1) f (omega arith)
    ∙ ap (λ (j : ℕ). f record { value = nat_abs (get_or l (2 * (i - 1)) (pos 0)); atom = nat_abs (get_or l (2 * (i - 1) + 1) (pos 0)) } || any f (pairs (drop (2 * j) l))) e
