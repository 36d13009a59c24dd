-- A rule put at the front of a list: that list has one more, all others stay (`front-..`); and a rule put at the front of the lists of a head's atoms
-- (`put-..`). Assumes nothing.
use mathlib.Core.Path.{◌≡◌, refl, sym, ap, ◌∙◌, subst}
use mathlib.Core.Logic.{◌⊎◌, inl, inr, ◌≢◌}
use mathlib.Core.Bool.{Bool, true, false, cond}
use mathlib.Core.List.{List, ◌∷◌}
use Prim.Native.Nat.{ℕ, suc, ◌+◌, ◌-◌, ◌*◌, ◌≤◌, ◌<◌}
use native.Mathlib.Omega.{arith}
use lib.ListN.{length, get_or, take, drop, set, length-set}
use lib.Seq.{get_or-set_same, get_or-set_other, drop-set-lt, drop-set-add, take-set-le, drop-cons}
use Rattle.meaning.specs.Lists.{has}
use Rattle.meaning.proofs.Cond.{eq_case, lt_case}
use Rattle.heads.specs.Heads.{bounds, size, list_at, Regions, Put}
use Rattle.heads.proofs.Lists.{part}

-- a part that ends before the index that is written
part_before : (a : List ℕ) (s n j v : ℕ) → s + n ≤ j → part (set a j v) s n ≡ part a s n
part_before a s n j v h =
    let e : j ≡ s + (j - s) = omega arith in
    ap (λ (k : ℕ). part (set a k v) s n) e ∙ ap (take n) (drop-set-add s a (j - s) v) ∙ take-set-le n (drop s a) (j - s) v (omega arith)

-- ---- one list

module _ (b : List ℕ) (R : Regions b) (x i : ℕ) (low : 1 ≤ x) (small : x ≤ 256) (room : (q : ℕ) → q < x → get_or b (2 * q + 1) 0 < get_or b (2 * x) 0) where
  abbrev f : ℕ
  f = get_or b (2 * x) 0 - 1

  abbrev c : List ℕ
  c = set (set b f i) (2 * x) f

  -- the word before the list lies behind the header, and there is one
  above : bounds ≤ f
  above = omega (arith, room 0 (omega arith), R.first, R.ordered 0 (omega arith))

  is_one_lem : f + 1 ≡ get_or b (2 * x) 0
  is_one_lem = omega (arith, above)

  front_within : f < size
  front_within = omega (arith, is_one_lem, R.ordered x small, R.fits x small)

  sized : length (set b f i) ≡ size
  sized = length-set b f i ∙ R.sized

  -- the header
  word_other : (j : ℕ) → j < bounds → j ≢ 2 * x → get_or c j 0 ≡ get_or b j 0
  word_other j h n = get_or-set_other (set b f i) (2 * x) j f 0 n ∙ get_or-set_other b f j i 0 (λ e. omega (arith, e, above))

  front_end : (p : ℕ) → p ≤ 256 → get_or c (2 * p + 1) 0 ≡ get_or b (2 * p + 1) 0
  front_end p h = word_other (2 * p + 1) (omega arith) (λ e. omega (arith, e))

  front_begin : get_or c (2 * x) 0 ≡ f
  front_begin = get_or-set_same (set b f i) (2 * x) f 0 (omega (arith, sized))

  front_begin_other : (p : ℕ) → p ≤ 256 → p ≢ x → get_or c (2 * p) 0 ≡ get_or b (2 * p) 0
  front_begin_other p h n = word_other (2 * p) (omega arith) (λ e. n (omega (arith, e)))

  -- every list lies behind the header
  behind : (p : ℕ) → p ≤ 256 → bounds ≤ get_or b (2 * p) 0
  behind p h = at (eq_case p 0)
    where
      at : (p ≡ 0) ⊎ (p ≢ 0) → bounds ≤ get_or b (2 * p) 0
      at (inl e) = subst (λ (q : ℕ). bounds ≤ get_or b (2 * q) 0) (sym e) (omega (arith, R.first))
      at (inr n) = omega (arith, R.first, R.ordered 0 (omega arith), R.apart 0 p (omega (arith, n)) h)

  -- the lists
  front_list : list_at c x ≡ i ∷ list_at b x
  front_list =
      let e = get_or b (2 * x + 1) 0 in
      let n : e - f ≡ suc (e - get_or b (2 * x) 0) = omega (arith, is_one_lem, R.ordered x small) in
      let s : suc f ≡ get_or b (2 * x) 0 = omega (arith, is_one_lem) in
      let cut : drop f c ≡ i ∷ drop (get_or b (2 * x) 0) b =
      drop-set-lt f (set b f i) (2 * x) f (omega (arith, above))
      ∙ drop-cons (set b f i) f 0 (omega (arith, sized, front_within))
      ∙ ap (λ (v : ℕ). v ∷ drop (suc f) (set b f i)) (get_or-set_same b f i 0 (omega (arith, R.sized, front_within)))
      ∙ ap (λ (m : List ℕ). i ∷ m) (drop-set-lt (suc f) b f i (omega arith) ∙ ap (λ (k : ℕ). drop k b) s) in
      ap (λ (k : ℕ). part c k (get_or c (2 * x + 1) 0 - k)) front_begin ∙ ap (λ (k : ℕ). part c f (k - f)) (front_end x small) ∙ ap (part c f) n
      ∙ ap (take (suc (e - get_or b (2 * x) 0))) cut

  -- a part that is another list's
  apart_part : (p : ℕ) → p ≤ 256 → p ≢ x → (p < x) ⊎ (x ≤ p) → let s = get_or b (2 * p) 0 in let e = get_or b (2 * p + 1) 0 in part (set b f i) s (e - s) ≡ part b s (e - s)
  apart_part p h n (inl k) =
      let s = get_or b (2 * p) 0 in
      let e = get_or b (2 * p + 1) 0 in
      part_before b s (e - s) f i (omega (arith, R.ordered p h, room p k))
  apart_part p h n (inr k) =
      let s = get_or b (2 * p) 0 in
      let e = get_or b (2 * p + 1) 0 in
      ap (take (e - s)) (drop-set-lt s b f i (omega (arith, is_one_lem, R.ordered x small, R.apart x p (omega (arith, n)) h)))

  front_list_other : (p : ℕ) → p ≤ 256 → p ≢ x → list_at c p ≡ list_at b p
  front_list_other p h n =
      let s = get_or b (2 * p) 0 in
      let e = get_or b (2 * p + 1) 0 in
      ap (λ (k : ℕ). part c k (get_or c (2 * p + 1) 0 - k)) (front_begin_other p h n) ∙ ap (λ (k : ℕ). part c s (k - s)) (front_end p h)
      ∙ ap (take (e - s)) (drop-set-lt s (set b f i) (2 * x) f (omega (arith, behind p h))) ∙ apart_part p h n (lt_case p x)

  -- the order of the lists
  front_ordered : (p : ℕ) → p ≤ 256 → (p ≡ x) ⊎ (p ≢ x) → get_or c (2 * p) 0 ≤ get_or c (2 * p + 1) 0
  front_ordered p h (inl e) = subst (λ (q : ℕ). get_or c (2 * q) 0 ≤ get_or c (2 * q + 1) 0) (sym e) (omega (arith, front_begin, front_end x small, R.ordered x small))
  front_ordered p h (inr n) = omega (arith, front_begin_other p h n, front_end p h, R.ordered p h)

  front_apart : (p q : ℕ) → p < q → q ≤ 256 → (q ≡ x) ⊎ (q ≢ x) → get_or c (2 * p + 1) 0 ≤ get_or c (2 * q) 0
  front_apart p q k h (inl e) =
      let l : p < x = omega (arith, e) in
      subst (λ (r : ℕ). get_or c (2 * p + 1) 0 ≤ get_or c (2 * r) 0) (sym e) (omega (arith, front_begin, front_end p (omega arith), room p l))
  front_apart p q k h (inr n) = omega (arith, front_begin_other q h n, front_end p (omega arith), R.apart p q k h)

  front_regions : Regions c
  front_regions = record {
    sized = length-set (set b f i) (2 * x) f ∙ sized;
    first = word_other 0 (omega arith) (λ e. omega (arith, e)) ∙ R.first;
    ordered = λ p h. front_ordered p h (eq_case p x);
    apart = λ p q k h. front_apart p q k h (eq_case q x);
    fits = λ p h. omega (arith, front_end p h, R.fits p h);
  }

-- ---- the lists of a head's atoms, from the last on

module _ (a : List ℕ) (i : ℕ) where
  abbrev begins : ℕ → Bool → ℕ
  begins p d = cond d (get_or a (2 * p) 0 - 1) (get_or a (2 * p) 0)

  abbrev lists : ℕ → Bool → List ℕ
  lists p d = cond d (i ∷ list_at a p) (list_at a p)

  -- none is put yet
  pub put_start : (l : List ℕ) → Regions a → ((p : ℕ) → has p l ≡ false) → Put l i a a
  put_start l R h = record { regions = R; begins = λ p s. sym (ap (begins p) (h p)); ends = λ p s. refl; lists = λ p s. sym (ap (lists p) (h p)) }

  module _ (l m b : List ℕ) (u : Put l i a b) where
    -- one more where it is put already
    pub put_again : ((p : ℕ) → has p m ≡ has p l) → Put m i a b
    put_again h = record {
      regions = u.regions;
      begins = λ p s. u.begins p s ∙ sym (ap (begins p) (h p));
      ends = u.ends;
      lists = λ p s. u.lists p s ∙ sym (ap (lists p) (h p));
    }

    -- one more, x
    module _ (x : ℕ) (low : 1 ≤ x) (small : x ≤ 256) (none : has x l ≡ false) (room : (q : ℕ) → q < x → get_or a (2 * q + 1) 0 < get_or a (2 * x) 0) where
      fresh : get_or b (2 * x) 0 ≡ get_or a (2 * x) 0
      fresh = u.begins x small ∙ ap (begins x) none

      still : (q : ℕ) → q < x → get_or b (2 * q + 1) 0 < get_or b (2 * x) 0
      still q h = omega (arith, fresh, u.ends q (omega arith), room q h)

      -- the list begins behind the header, past a free word at least, and within the array
      pub put_within : (bounds < get_or b (2 * x) 0) × (get_or b (2 * x) 0 ≤ size)
      put_within = (omega (arith, still 0 (omega arith), u.regions.first, u.regions.ordered 0 (omega arith)), omega (arith, u.regions.ordered x small, u.regions.fits x small))

      module _ (here : has x m ≡ true) (other : (p : ℕ) → p ≢ x → has p m ≡ has p l) where
        abbrev d : List ℕ
        d = set (set b (get_or b (2 * x) 0 - 1) i) (2 * x) (get_or b (2 * x) 0 - 1)

        one_begins : (p : ℕ) → p ≤ 256 → (p ≡ x) ⊎ (p ≢ x) → get_or d (2 * p) 0 ≡ begins p (has p m)
        one_begins p s (inl e) =
            subst (λ (q : ℕ). get_or d (2 * q) 0 ≡ begins q (has q m)) (sym e)
            (front_begin b u.regions x i low small still ∙ ap (λ (n : ℕ). n - 1) fresh ∙ sym (ap (begins x) here))
        one_begins p s (inr n) = front_begin_other b u.regions x i low small still p s n ∙ u.begins p s ∙ sym (ap (begins p) (other p n))

        one_lists : (p : ℕ) → p ≤ 256 → (p ≡ x) ⊎ (p ≢ x) → list_at d p ≡ lists p (has p m)
        one_lists p s (inl e) =
            subst (λ (q : ℕ). list_at d q ≡ lists q (has q m)) (sym e)
            (front_list b u.regions x i low small still ∙ ap (λ (k : List ℕ). i ∷ k) (u.lists x small ∙ ap (lists x) none) ∙ sym (ap (lists x) here))
        one_lists p s (inr n) = front_list_other b u.regions x i low small still p s n ∙ u.lists p s ∙ sym (ap (lists p) (other p n))

        pub put_one : Put m i a d
        put_one = record {
          regions = front_regions b u.regions x i low small still;
          begins = λ p s. one_begins p s (eq_case p x);
          ends = λ p s. front_end b u.regions x i low small still p s ∙ u.ends p s;
          lists = λ p s. one_lists p s (eq_case p x);
        }
