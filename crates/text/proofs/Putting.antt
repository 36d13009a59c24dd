-- Texts stored one after the other, as far as there is room: `Put` of two texts is `Put` of both. Assumes nothing.
use mathlib.Core.Path.{◌≡◌, refl, sym, ap, ◌∙◌}
use mathlib.Core.List.{List, [], ◌∷◌, ◌++◌}
use mathlib.Core.Logic.{◌⊎◌, inl, inr}
use Prim.Native.Nat.{ℕ, suc, ◌+◌, ◌<◌, ◌≤◌}
use native.Mathlib.Nat.{eq-or-lt_of_le}
use native.Mathlib.Omega.{arith}
use lib.ListN.{length, drop, set, length-append, length-set}
use lib.Seq.{sets, set_out, length-sets, sets-eq, append_snoc}
use Rattle.text.specs.Putting.{Put}

-- stores past the end change nothing
sets_out : (vs l : List ℕ) (i : ℕ) → length l ≤ i → sets l i vs ≡ l
sets_out [] l i h = refl
sets_out (v ∷ vs) l i h =
    let k : length (set l i v) ≤ suc i = simp length-set (omega arith) in
    sets_out vs (set l i v) (suc i) k ∙ set_out l i v h

sets_append : (xs ys l : List ℕ) (i : ℕ) → sets l i (xs ++ ys) ≡ sets (sets l i xs) (i + length xs) ys
sets_append [] ys l i = let e : i + 0 ≡ i = omega arith in rw e
sets_append (x ∷ xs) ys l i =
    let e : i + suc (length xs) ≡ suc i + length xs = omega arith in
    rw e (sets_append xs ys (set l i x) (suc i))

module _ (old mid new xs ys : List ℕ) (a b c : ℕ) (room : a ≤ length old) (p : Put old a xs b mid) (q : Put mid b ys c new) where
  mid_long : length mid ≡ length old
  mid_long = ap length p.has ∙ length-sets old a xs

  then_has : (b ≡ a + length xs) ⊎ (b < a + length xs) → new ≡ sets old a (xs ++ ys)
  then_has (inl h) = q.has ∙ ap (λ (i : ℕ). sets mid i ys) h ∙ ap (λ (l : List ℕ). sets l (a + length xs) ys) p.has ∙ sym (sets_append xs ys old a)
  then_has (inr h) =
      let z = p.ends in
      let m = mid_long in
      let f : length mid ≤ b = omega arith in
      let g : length (sets old a xs) ≤ a + length xs = rw (length-sets old a xs) (omega arith) in
      q.has ∙ sets_out ys mid b f ∙ p.has ∙ sym (sets_append xs ys old a ∙ sets_out ys (sets old a xs) (a + length xs) g)

  pub put_then : Put old a (xs ++ ys) c new
  put_then =
      let z = p.ends in
      let w = q.ends in
      let m = mid_long in
      let l = length-append xs ys in
      let k : b ≤ a + length xs = omega arith in
      record { ends = omega arith; has = then_has (eq-or-lt_of_le k) }

pub put_none : (old : List ℕ) (a : ℕ) → a ≤ length old → Put old a [] a old
put_none old a h = record { ends = omega arith; has = refl }

-- a text that has room is there whole
module _ (old new xs : List ℕ) (c : ℕ) (p : Put old 0 xs c new) (h : length xs ≤ length old) where
  pub put_length : c ≡ length xs
  put_length = let z = p.ends in omega arith

  pub put_whole : new ≡ xs ++ drop (length xs) old
  put_whole =
      let e : 0 + length xs ≡ length xs = omega arith in
      p.has ∙ sets-eq xs old 0 (omega arith) ∙ ap (λ (k : ℕ). xs ++ drop k old) e

pub put_inside : (old new xs : List ℕ) (a c : ℕ) → Put old a xs c new → c ≤ length new
put_inside old new xs a c p =
    let z = p.ends in
    let m : length new ≡ length old = ap length p.has ∙ length-sets old a xs in
    omega arith

pub put_long : (old new xs : List ℕ) (a c : ℕ) → Put old a xs c new → length new ≡ length old
put_long old new xs a c p = ap length p.has ∙ length-sets old a xs

pub put_past : (old : List ℕ) (a b : ℕ) → a ≤ length old → length old ≤ a → Put old a (b ∷ []) a old
put_past old a b h k = record { ends = omega arith; has = sym (set_out old a b k) }

-- a byte, and a text after it
pub put_on : (old mid new xs ys : List ℕ) (x a b c : ℕ) → a ≤ length old → Put old a (xs ++ (x ∷ [])) b mid → Put mid b ys c new → Put old a (xs ++ x ∷ ys) c new
put_on old mid new xs ys x a b c room p q = rw append_snoc at (put_then old mid new (xs ++ (x ∷ [])) ys a b c room p q)
