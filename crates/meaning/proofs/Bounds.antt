-- What bounds an aggregate's value in every completion: count and sum grow with the interpretation, and min and max compare as "some" and "all".
-- Assumes nothing.
use mathlib.Core.Path.{◌≡◌, refl, ap, ◌∙◌}
use mathlib.Core.Logic.{◌⊎◌, inl, inr}
use mathlib.Core.Bool.{Bool, true, false, ◌&&◌, ◌||◌, false≢true}
use mathlib.Core.Option.{Option, none, some}
use mathlib.Core.List.Memᴰ
use mathlib.Core.List.{List, [], ◌∷◌}
use Prim.Native.Nat.{ℕ, ◌<◌, ◌≤◌, min, max}
use native.Mathlib.Nat.{le_refl}
use native.Mathlib.Omega.{arith}
use lib.ListN.{length}
use lib.IntN.{pos}
use lib.Dec.{ltb, ltb→lt, lt→ltb, nltb→le}
use Rattle.meaning.specs.Lists.{Is, ◌∈◌, all, any, cons_if}
use Rattle.meaning.specs.Program.{Element}
use Rattle.meaning.specs.Aggregates.{Atoms, values, total, join, least_of, most_of, compares}
use Rattle.meaning.specs.declared.Comparison.TheVariants.{Less, Greater}
use Rattle.meaning.proofs.Tools.{both, cases, is_not_lem, and_i, and_l, and_r, or_l, or_r, or_e, T→Is, Is→T}

-- ---- count and sum

cons_if_total : (a b : Bool) (v : ℕ) (l k : List ℕ) → (Is a → Is b) → total l ≤ total k → total (cons_if a v l) ≤ total (cons_if b v k)
cons_if_total true true v l k h t = omega arith
cons_if_total true false v l k h t = absurd (false≢true (h refl))
cons_if_total false true v l k h t = omega arith
cons_if_total false false v l k h t = t

pub total_mono : (X Y : Atoms) (es : List Element) → ((e : Element) → e ∈ es → Is (X e.atom) → Is (Y e.atom)) → total (values X es) ≤ total (values Y es)
total_mono X Y [] f = le_refl 0
total_mono X Y (e ∷ es) f =
    cons_if_total (X e.atom) (Y e.atom) e.value _ _ (f e (Memᴰ.head refl)) (total_mono X Y es (λ d m. f d (Memᴰ.tail m)))

cons_if_length : (a b : Bool) (v : ℕ) (l k : List ℕ) → (Is a → Is b) → length l ≤ length k → length (cons_if a v l) ≤ length (cons_if b v k)
cons_if_length true true v l k h t = omega arith
cons_if_length true false v l k h t = absurd (false≢true (h refl))
cons_if_length false true v l k h t = omega arith
cons_if_length false false v l k h t = t

pub length_mono : (X Y : Atoms) (es : List Element) → ((e : Element) → e ∈ es → Is (X e.atom) → Is (Y e.atom)) → length (values X es) ≤ length (values Y es)
length_mono X Y [] f = le_refl 0
length_mono X Y (e ∷ es) f =
    cons_if_length (X e.atom) (Y e.atom) e.value _ _ (f e (Memᴰ.head refl)) (length_mono X Y es (λ d m. f d (Memᴰ.tail m)))

-- ---- min and max

pub lt : (m n : ℕ) → Is (ltb m n) → m < n
lt m n h = ltb→lt m n (Is→T _ h)

pub lt_i : (m n : ℕ) → m < n → Is (ltb m n)
lt_i m n h = T→Is _ (lt→ltb m n h)

pub ge : (m n : ℕ) → ltb m n ≡ false → n ≤ m
ge m n h = nltb→le m n (Is→T _ (is_not_lem (ltb m n) h))

pick : (v w : ℕ) → (a : ℕ) → (a ≡ v) ⊎ (a ≡ w) → (f : ℕ → Bool) → Is (f a) → Is (f v || f w)
pick v w a (inl e) f h = or_l _ _ (rw e at h)
pick v w a (inr e) f h = or_r (f v) _ (rw e at h)

min_is : (v w : ℕ) → (min v w ≡ v) ⊎ (min v w ≡ w)
min_is v w = at (cases (ltb v w))
  where
    at : Is (ltb v w) ⊎ (ltb v w ≡ false) → (min v w ≡ v) ⊎ (min v w ≡ w)
    at (inl h) = inl (omega (arith, lt v w h))
    at (inr h) = inr (omega (arith, ge v w h))

max_is : (v w : ℕ) → (max v w ≡ v) ⊎ (max v w ≡ w)
max_is v w = at (cases (ltb v w))
  where
    at : Is (ltb v w) ⊎ (ltb v w ≡ false) → (max v w ≡ v) ⊎ (max v w ≡ w)
    at (inl h) = inr (omega (arith, lt v w h))
    at (inr h) = inl (omega (arith, ge v w h))

or_with_false : (b : Bool) → b ≡ (b || false)
or_with_false true = refl
or_with_false false = refl

and_with_true : (b : Bool) → b ≡ (b && true)
and_with_true true = refl
and_with_true false = refl

-- the least of the values is below t exactly if one of them is
min_below : (v w t : ℕ) → ltb (min v w) t ≡ (ltb v t || ltb w t)
min_below v w t = both _ _ (λ h. pick v w (min v w) (min_is v w) (λ a. ltb a t) h) (λ h. back (or_e (ltb v t) _ h))
  where
    back : Is (ltb v t) ⊎ Is (ltb w t) → Is (ltb (min v w) t)
    back (inl h) = lt_i (min v w) t (omega (arith, lt v t h))
    back (inr h) = lt_i (min v w) t (omega (arith, lt w t h))

pub least_below : (t : ℕ) (vs : List ℕ) → compares Less (pos t) (least_of vs) ≡ any (λ v. ltb v t) vs
least_below t [] = refl
least_below t (v ∷ vs) = at (least_of vs) ∙ ap (λ (b : Bool). ltb v t || b) (least_below t vs)
  where
    at : (o : Option ℕ) → compares Less (pos t) (join min v o) ≡ (ltb v t || compares Less (pos t) o)
    at none = or_with_false (ltb v t)
    at (some w) = min_below v w t

-- the least of some values is above t exactly if all are
min_above : (v w t : ℕ) → ltb t (min v w) ≡ (ltb t v && ltb t w)
min_above v w t =
    both _ _ (λ h. let l = lt t (min v w) h in and_i (lt_i t v (omega arith)) (lt_i t w (omega arith)))
    (λ h. lt_i t (min v w) (omega (arith, lt t v (and_l _ _ h), lt t w (and_r (ltb t v) _ h))))

pub least_above : (t v : ℕ) (vs : List ℕ) → compares Greater (pos t) (least_of (v ∷ vs)) ≡ all (λ w. ltb t w) (v ∷ vs)
least_above t v [] = and_with_true (ltb t v)
least_above t v (w ∷ ws) = at (least_of ws) ∙ ap (λ (b : Bool). ltb t v && b) (least_above t w ws)
  where
    at : (o : Option ℕ) → compares Greater (pos t) (join min v (join min w o)) ≡ (ltb t v && compares Greater (pos t) (join min w o))
    at none = min_above v w t
    at (some u) = min_above v (min w u) t

-- the most of the values is above t exactly if one of them is
max_above : (v w t : ℕ) → ltb t (max v w) ≡ (ltb t v || ltb t w)
max_above v w t = both _ _ (λ h. pick v w (max v w) (max_is v w) (λ a. ltb t a) h) (λ h. back (or_e (ltb t v) _ h))
  where
    back : Is (ltb t v) ⊎ Is (ltb t w) → Is (ltb t (max v w))
    back (inl h) = lt_i t (max v w) (omega (arith, lt t v h))
    back (inr h) = lt_i t (max v w) (omega (arith, lt t w h))

pub most_above : (t : ℕ) (vs : List ℕ) → compares Greater (pos t) (most_of vs) ≡ any (λ v. ltb t v) vs
most_above t [] = refl
most_above t (v ∷ vs) = at (most_of vs) ∙ ap (λ (b : Bool). ltb t v || b) (most_above t vs)
  where
    at : (o : Option ℕ) → compares Greater (pos t) (join max v o) ≡ (ltb t v || compares Greater (pos t) o)
    at none = or_with_false (ltb t v)
    at (some w) = max_above v w t

-- the most of some values is below t exactly if all are
max_below : (v w t : ℕ) → ltb (max v w) t ≡ (ltb v t && ltb w t)
max_below v w t =
    both _ _ (λ h. let l = lt (max v w) t h in and_i (lt_i v t (omega arith)) (lt_i w t (omega arith)))
    (λ h. lt_i (max v w) t (omega (arith, lt v t (and_l _ _ h), lt w t (and_r (ltb v t) _ h))))

pub most_below : (t v : ℕ) (vs : List ℕ) → compares Less (pos t) (most_of (v ∷ vs)) ≡ all (λ w. ltb w t) (v ∷ vs)
most_below t v [] = and_with_true (ltb v t)
most_below t v (w ∷ ws) = at (most_of ws) ∙ ap (λ (b : Bool). ltb v t && b) (most_below t w ws)
  where
    at : (o : Option ℕ) → compares Less (pos t) (join max v (join max w o)) ≡ (ltb v t && compares Less (pos t) (join max w o))
    at none = max_below v w t
    at (some u) = max_below v (max w u) t
