-- Words stored one after the other, as far as there is room: `Put` of two lists is `Put` of both. Assumes nothing.
use mathlib.Core.Path.{◌≡◌, refl, sym, ap, ◌∙◌, subst}
use mathlib.Core.Bool.{Bool}
use mathlib.Core.List.{List, [], ◌∷◌, ◌++◌}
use mathlib.Core.Logic.{◌⊎◌, inl, inr}
use Prim.Native.Nat.{ℕ, suc, ◌+◌, ◌<◌, ◌≤◌}
use native.Mathlib.Nat.{eq-or-lt_of_le}
use native.Mathlib.Omega.{arith}
use lib.IntN.{ℤ}
use lib.ListN.{length, drop, set, length-append, length-set}
use lib.Seq.{sets, set_out, length-sets, sets-eq}
use Rattle.aspif_read.specs.declared.putting.Next.{Next}
use Rattle.aspif_read.specs.Writing.{Put, Wrote, line_words, line_aggregates, section_from}

-- stores past the end change nothing
sets_out : (vs l : List ℤ) (i : ℕ) → length l ≤ i → sets l i vs ≡ l
sets_out [] l i h = refl
sets_out (v ∷ vs) l i h =
    let k : length (set l i v) ≤ suc i = simp length-set (omega arith) in
    sets_out vs (set l i v) (suc i) k ∙ set_out l i v h

sets_append : (xs ys l : List ℤ) (i : ℕ) → sets l i (xs ++ ys) ≡ sets (sets l i xs) (i + length xs) ys
sets_append [] ys l i = let e : i + 0 ≡ i = omega arith in rw e
sets_append (x ∷ xs) ys l i =
    let e : i + suc (length xs) ≡ suc i + length xs = omega arith in
    rw e (sets_append xs ys (set l i x) (suc i))

module _ (old mid new xs ys : List ℤ) (a b c : ℕ) (room : a ≤ length old) (p : Put old a xs b mid) (q : Put mid b ys c new) where
  mid_long : length mid ≡ length old
  mid_long = ap length p.has ∙ length-sets old a xs

  then_has : (b ≡ a + length xs) ⊎ (b < a + length xs) → new ≡ sets old a (xs ++ ys)
  then_has (inl h) = q.has ∙ ap (λ (i : ℕ). sets mid i ys) h ∙ ap (λ (l : List ℤ). sets l (a + length xs) ys) p.has ∙ sym (sets_append xs ys old a)
  then_has (inr h) =
      let z = p.ends in
      let m = mid_long in
      let f : length mid ≤ b = omega arith in
      let g : length (sets old a xs) ≤ a + length xs = rw (length-sets old a xs) (omega arith) in
      q.has ∙ sets_out ys mid b f ∙ p.has ∙ sym (sets_append xs ys old a ∙ sets_out ys (sets old a xs) (a + length xs) g)

  pub put_then : Put old a (xs ++ ys) c new
  put_then =
      let z = p.ends in
      let w = q.ends in
      let m = mid_long in
      let l = length-append xs ys in
      let k : b ≤ a + length xs = omega arith in
      record { ends = omega arith; has = then_has (eq-or-lt_of_le k) }

pub put_none : (old : List ℤ) (a : ℕ) → a ≤ length old → Put old a [] a old
put_none old a h = record { ends = omega arith; has = refl }

-- a list that has room is there whole
module _ (old new xs : List ℤ) (c : ℕ) (p : Put old 0 xs c new) (h : length xs ≤ length old) where
  pub put_length : c ≡ length xs
  put_length = let z = p.ends in omega arith

  pub put_whole : new ≡ xs ++ drop (length xs) old
  put_whole =
      let e : 0 + length xs ≡ length xs = omega arith in
      p.has ∙ sets-eq xs old 0 (omega arith) ∙ ap (λ (k : ℕ). xs ++ drop k old) e

pub put_inside : (old new xs : List ℤ) (a c : ℕ) → Put old a xs c new → c ≤ length new
put_inside old new xs a c p =
    let z = p.ends in
    let m : length new ≡ length old = ap length p.has ∙ length-sets old a xs in
    omega arith

pub put_long : (old new xs : List ℤ) (a c : ℕ) → Put old a xs c new → length new ≡ length old
put_long old new xs a c p = ap length p.has ∙ length-sets old a xs

pub put_past : (old : List ℤ) (a : ℕ) (z : ℤ) → a ≤ length old → length old ≤ a → Put old a (z ∷ []) a old
put_past old a z h k = record { ends = omega arith; has = sym (set_out old a z k) }

pub put_one : (old : List ℤ) (a : ℕ) (z : ℤ) → a < length old → Put old a (z ∷ []) (a + 1) (set old a z)
put_one old a z h = record { ends = omega arith; has = refl }

-- ---- a section

pub wrote_as : (old new ws vs : List ℤ) (a n k : ℕ) (to : Next) → Put old a ws to.at new → ws ≡ vs → to.before ≡ n → n ≡ k → Wrote old a vs k to new
wrote_as old new ws vs a n k to p e f g = record { put = subst (λ (l : List ℤ). Put old a l to.at new) e p; next = f ∙ g }

pub section_step : (rules : Bool) (old mid new : List ℤ) (a b c : ℕ) (to : Next) (l : List ℕ) (ls : List (List ℕ)) → a ≤ length old
    → Wrote old a (line_words rules b l) (b + line_aggregates l) to mid → Put mid to.at (section_from rules to.before ls) c new → Put old a (section_from rules b (l ∷ ls)) c new
section_step rules old mid new a b c to l ls room w p =
    put_then old mid new (line_words rules b l) (section_from rules (b + line_aggregates l) ls) a to.at c room w.put
    (subst (λ (n : ℕ). Put mid to.at (section_from rules n ls) c new) w.next p)
