-- Texts laid one after the other: `Put` of two texts is `Put` of both; and what a loop keeps that lays a text part by part. Assumes nothing.
use mathlib.Core.Path.{◌≡◌, refl, sym, ap, ◌∙◌}
use mathlib.Core.List.{List, [], ◌∷◌, ◌++◌}
use mathlib.Core.Logic.{◌⊎◌, inl, inr}
use Prim.Native.Nat.{ℕ, suc, ◌+◌, ◌<◌, ◌≤◌}
use native.Mathlib.Nat.{eq-or-lt_of_le}
use native.Mathlib.Omega.{arith}
use lib.ListN.{length, drop, set, length-append, length-set}
use lib.Seq.{sets, set_out, length-sets, sets-eq}
use Rattle.bytes_out.specs.Putting.{Put}

-- ---- stores past the end change nothing

sets_out : (vs l : List ℕ) (i : ℕ) → length l ≤ i → sets l i vs ≡ l
sets_out [] l i h = refl
sets_out (v ∷ vs) l i h =
    let k : length (set l i v) ≤ suc i = simp length-set (omega arith) in
    sets_out vs (set l i v) (suc i) k ∙ set_out l i v h

sets_append : (xs ys l : List ℕ) (i : ℕ) → sets l i (xs ++ ys) ≡ sets (sets l i xs) (i + length xs) ys
sets_append [] ys l i = let e : i + 0 ≡ i = omega arith in rw e
sets_append (x ∷ xs) ys l i =
    let e : i + suc (length xs) ≡ suc i + length xs = omega arith in
    rw e (sets_append xs ys (set l i x) (suc i))

-- ---- one text after another

module _ {old mid new xs ys : List ℕ} {a b c : ℕ} (p : Put old a xs b mid) (q : Put mid b ys c new) where
  mid_long : length mid ≡ length old
  mid_long = ap length p.has ∙ length-sets old a xs

  then_has : (b ≡ a + length xs) ⊎ (b < a + length xs) → new ≡ sets old a (xs ++ ys)
  then_has (inl h) = q.has ∙ ap (λ (i : ℕ). sets mid i ys) h ∙ ap (λ (l : List ℕ). sets l (a + length xs) ys) p.has ∙ sym (sets_append xs ys old a)
  then_has (inr h) =
      let z = p.ends in
      let m = mid_long in
      let r = p.fits in
      let f : length mid ≤ b = omega arith in
      let g : length (sets old a xs) ≤ a + length xs = rw (length-sets old a xs) (omega arith) in
      q.has ∙ sets_out ys mid b f ∙ p.has ∙ sym (sets_append xs ys old a ∙ sets_out ys (sets old a xs) (a + length xs) g)

  pub put_then : Put old a (xs ++ ys) c new
  put_then =
      let z = p.ends in
      let w = q.ends in
      let l = length-append xs ys in
      let k : b ≤ a + length xs = omega arith in
      record { fits = p.fits; ends = omega arith; has = then_has (eq-or-lt_of_le k) }

pub put_none : (old : List ℕ) (a : ℕ) → length old ≤ 18446744073709551615 → a ≤ 18446744073709551615 → Put old a [] a old
put_none old a h k = record { fits = h; ends = omega arith; has = refl }

pub put_long : {old new xs : List ℕ} {a c : ℕ} → Put old a xs c new → length new ≡ length old
put_long {old} {new} {xs} {a} {c} p = ap length p.has ∙ length-sets old a xs

-- ---- a loop that lays a text part by part: to lay the rest from here is to lay the whole from the start

pub record Left (old : List ℕ) (at : ℕ) (whole out : List ℕ) (to : ℕ) (rest : List ℕ) : Type 0 where
  pub low : to ≤ 18446744073709551615
  pub fits : length out ≤ 18446744073709551615
  pub long : length out ≡ length old
  pub onward : (end : ℕ) (new : List ℕ) → Put out to rest end new → Put old at whole end new

pub left_start : {old whole : List ℕ} {at : ℕ} → length old ≤ 18446744073709551615 → at ≤ 18446744073709551615 → Left old at whole old at whole
left_start h k = record { low = k; fits = h; long = refl; onward = λ end new p. p }

module _ {old whole out : List ℕ} {at to : ℕ} where
  pub left_step : {x rest after next : List ℕ} {on : ℕ} → rest ≡ x ++ after → Left old at whole out to rest → Put out to x on next → Left old at whole next on after
  left_step {x} {rest} {after} {next} {on} e l p =
      let z = p.ends in
      let r = p.fits in
      let k = put_long p in
      record { low = omega arith; fits = omega arith; long = k ∙ l.long; onward = λ end new q. l.onward end new (rw e (put_then p q)) }

  pub left_done : {rest : List ℕ} → rest ≡ [] → Left old at whole out to rest → Put old at whole to out
  left_done e l = l.onward to out (rw e (put_none out to l.fits l.low))

-- ---- a text that has room is there whole

module _ {old new xs : List ℕ} {c : ℕ} (p : Put old 0 xs c new) where
  -- the index is at most the length of the buffer exactly if the text fits
  pub put_fits : c ≤ length old → length old < 18446744073709551615 → length xs ≤ length old
  put_fits h k = let z = p.ends in omega arith

  pub put_length : length xs ≤ length old → c ≡ length xs
  put_length h = let z = p.ends in let r = p.fits in omega arith

  pub put_whole : length xs ≤ length old → new ≡ xs ++ drop (length xs) old
  put_whole h =
      let e : 0 + length xs ≡ length xs = omega arith in
      p.has ∙ sets-eq xs old 0 (omega arith) ∙ ap (λ (k : ℕ). xs ++ drop k old) e
