-- A place i of a list t, by what stands there: `drop i t`. Assumes nothing.
use mathlib.Core.Path.{◌≡◌, refl, sym, ap, ◌∙◌}
use mathlib.Core.List.{List, [], ◌∷◌, ◌++◌}
use Prim.Native.Nat.{ℕ, zero, suc, ◌+◌, ◌-◌, ◌≤◌, ◌<◌}
use native.Mathlib.Omega.{arith}
use lib.ListN.{length, get_or, take, drop, length-drop, length-append}
use lib.Seq.{drop-drop, drop-append_seam, take-append_seam}

module _ {A : Type 0} where
  abbrev rest : List A → List A
  rest [] = []
  rest (x ∷ xs) = xs

  rest_drop : (t : List A) (i : ℕ) → rest (drop i t) ≡ drop (suc i) t
  rest_drop [] zero = refl
  rest_drop [] (suc i) = refl
  rest_drop (x ∷ xs) zero = refl
  rest_drop (x ∷ xs) (suc i) = rest_drop xs i

  -- the next place
  pub at_next : (t : List A) (i : ℕ) (w : A) (ws : List A) → drop i t ≡ w ∷ ws → drop (suc i) t ≡ ws
  at_next t i w ws d = sym (rest_drop t i) ∙ ap rest d

  abbrev head_or : A → List A → A
  head_or d [] = d
  head_or d (x ∷ xs) = x

  head_drop : (t : List A) (i : ℕ) (d : A) → get_or t i d ≡ head_or d (drop i t)
  head_drop [] zero d = refl
  head_drop [] (suc i) d = refl
  head_drop (x ∷ xs) zero d = refl
  head_drop (x ∷ xs) (suc i) d = head_drop xs i d

  -- the element there
  pub at_head : (t : List A) (i : ℕ) (w : A) (ws : List A) (d : A) → drop i t ≡ w ∷ ws → get_or t i d ≡ w
  at_head t i w ws d e = head_drop t i d ∙ ap (head_or d) e

  -- the place past a part
  pub at_skip : (t : List A) (i : ℕ) (l ws : List A) → drop i t ≡ l ++ ws → drop (i + length l) t ≡ ws
  at_skip t i l ws d = sym (drop-drop (length l) i t) ∙ ap (drop (length l)) d ∙ drop-append_seam l ws

  -- the part
  pub at_take : (t : List A) (i : ℕ) (l ws : List A) → drop i t ≡ l ++ ws → take (length l) (drop i t) ≡ l
  at_take t i l ws d = ap (take (length l)) d ∙ take-append_seam l ws

  -- what stands there lies within the list
  pub at_within : (t : List A) (i : ℕ) (l ws : List A) → drop i t ≡ l ++ ws → 0 < length l → i + length l ≤ length t
  at_within t i l ws d h =
      let e : length t - i ≡ length l + length ws = sym (length-drop i t) ∙ ap length d ∙ length-append l ws in
      omega arith

  pub at_below : (t : List A) (i : ℕ) (w : A) (ws : List A) → drop i t ≡ w ∷ ws → i < length t
  at_below t i w ws d =
      let e : length t - i ≡ suc (length ws) = sym (length-drop i t) ∙ ap length d in
      omega arith
