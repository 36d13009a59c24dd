-- The counts of the lists: one head counted (`counted-..`), one rule counted (`counts-..`), and where each list ends by the counts (`end-..`, `ended-..`).
-- Assumes nothing.
use mathlib.Core.Path.{◌≡◌, refl, sym, ap, ◌∙◌, subst}
use mathlib.Core.Logic.{◌⊎◌, inl, inr, ◌≢◌}
use mathlib.Core.Bool.{Bool, true, false, cond}
use mathlib.Core.List.{List, [], ◌∷◌}
use Prim.Native.Nat.{ℕ, zero, suc, ◌+◌, ◌-◌, ◌*◌, ◌≤◌, ◌<◌}
use native.Mathlib.Omega.{arith}
use lib.IntN.{ℤ}
use lib.ListN.{length, get_or, take, drop, set, length-set, length-drop}
use lib.Seq.{get_or-set_same, get_or-set_other, drop-set-lt}
use Rattle.meaning.specs.Lists.{has}
use Rattle.meaning.proofs.Cond.{eq_case}
use Rattle.layout.specs.Layout.{atoms, part_at, Laid}
use Rattle.layout.specs.declared.Table.{Table}
use Rattle.heads.specs.Heads.{bounds, size, places_of, with_head, Counted, Counts, end_of, Ended}
use Rattle.heads.proofs.Walks.{places_length, with_nil, with_split, with_short}
use Rattle.heads.proofs.Room.{total, total_zero, total_suc}

-- ---- a head, from its last atom on

module _ (a : List ℕ) where
  -- p's count, where it is in what is counted or not
  abbrev to : ℕ → Bool → ℕ
  to p d = cond d (get_or a (2 * p + 1) 0 + 1) (get_or a (2 * p + 1) 0)

  -- none is counted yet
  pub counted_start : (l : List ℕ) → length a ≡ size → ((p : ℕ) → has p l ≡ false) → Counted l a a
  counted_start l z f = record { sized = z; behind = refl; counts = λ p h. sym (ap (to p) (f p)) }

  module _ (l m b : List ℕ) (c : Counted l a b) where
    -- one more that is counted already
    pub counted_again : ((p : ℕ) → has p m ≡ has p l) → Counted m a b
    counted_again f = record { sized = c.sized; behind = c.behind; counts = λ p h. c.counts p h ∙ sym (ap (to p) (f p)) }

    -- an atom that is not counted yet has its count of before
    pub counted_fresh : (x : ℕ) → x ≤ 256 → has x l ≡ false → get_or b (2 * x + 1) 0 ≡ get_or a (2 * x + 1) 0
    counted_fresh x h e = c.counts x h ∙ ap (to x) e

    -- one more, x
    module _ (x : ℕ) (small : x ≤ 256) (none : has x l ≡ false) (here : has x m ≡ true) (other : (p : ℕ) → p ≢ x → has p m ≡ has p l) where
      abbrev more : ℕ
      more = get_or b (2 * x + 1) 0 + 1

      more_here : get_or (set b (2 * x + 1) more) (2 * x + 1) 0 ≡ to x (has x m)
      more_here = get_or-set_same b (2 * x + 1) more 0 (omega (arith, c.sized)) ∙ ap (λ (n : ℕ). n + 1) (counted_fresh x small none) ∙ sym (ap (to x) here)

      more_at : (p : ℕ) → p ≤ 256 → (p ≡ x) ⊎ (p ≢ x) → get_or (set b (2 * x + 1) more) (2 * p + 1) 0 ≡ to p (has p m)
      more_at p h (inl e) = subst (λ (q : ℕ). get_or (set b (2 * x + 1) more) (2 * q + 1) 0 ≡ to q (has q m)) (sym e) more_here
      more_at p h (inr n) = get_or-set_other b (2 * x + 1) (2 * p + 1) more 0 (λ q. n (omega (arith, q))) ∙ c.counts p h ∙ sym (ap (to p) (other p n))

      pub counted_one : Counted m a (set b (2 * x + 1) more)
      counted_one = record {
        sized = length-set b (2 * x + 1) more ∙ c.sized;
        behind = drop-set-lt bounds b (2 * x + 1) more (omega arith) ∙ c.behind;
        counts = λ p h. more_at p h (eq_case p x);
      }

-- ---- where each list ends

module _ (a : List ℕ) (s : ℕ) where
  pub end_zero : end_of a s 0 ≡ s
  unfolding end_of
  end_zero = refl

  pub end_suc : (p : ℕ) → end_of a s (suc p) ≡ end_of a s p + get_or a (2 * suc p + 1) 0
  unfolding end_of
  end_suc p = refl

  pub end_on : (p : ℕ) → end_of a s (p + 1) ≡ end_of a s p + get_or a (2 * (p + 1) + 1) 0
  end_on p =
      let e : suc p ≡ p + 1 = omega arith in
      ap (end_of a s) (sym e) ∙ end_suc p ∙ ap (λ (q : ℕ). end_of a s p + get_or a (2 * q + 1) 0) e

  pub end_at : (p : ℕ) → 1 ≤ p → end_of a s p ≡ end_of a s (p - 1) + get_or a (2 * p + 1) 0
  end_at p h =
      let e : p ≡ suc (p - 1) = omega arith in
      ap (end_of a s) e ∙ end_suc (p - 1) ∙ ap (λ (q : ℕ). end_of a s (p - 1) + get_or a (2 * q + 1) 0) (sym e)

  -- they rise
  end_add : (p k : ℕ) → end_of a s p ≤ end_of a s (p + k)
  end_add p zero =
      let e : p + 0 ≡ p = omega arith in
      omega (arith, ap (end_of a s) e)
  end_add p (suc k) =
      let e : p + suc k ≡ p + k + 1 = omega arith in
      omega (arith, ap (end_of a s) e, end_on (p + k), end_add p k)

  pub end_rise : (p q : ℕ) → p ≤ q → end_of a s p ≤ end_of a s q
  end_rise p q h =
      let e : p + (q - p) ≡ q = omega arith in
      omega (arith, ap (end_of a s) e, end_add p (q - p))

-- ---- the rules, from the last on

length_cond : (b : Bool) (i : ℕ) (l : List ℕ) → length (cond b (i ∷ l) l) ≡ cond b (length l + 1) (length l)
length_cond true i l = omega arith
length_cond false i l = refl

module _ (t : List ℤ) (tb : Table) where
  abbrev P : List ℕ
  P = places_of t tb

  -- no rule is counted yet
  pub counts_start : (a : List ℕ) → length a ≡ size → take tb.rules (drop bounds a) ≡ P → ((i : ℕ) → i < bounds → get_or a i 0 ≡ 0) → Counts t tb [] a
  counts_start a z e f = record {
    sized = z;
    places = e;
    counts = λ p h. f (2 * p + 1) (omega (arith, h)) ∙ sym (ap (λ (m : List ℕ). length m) (with_nil t p));
  }

  -- one more
  pub counts_on : (k : ℕ) (a b : List ℕ) → k < tb.rules → Counts t tb (drop (k + 1) P) a → Counted (atoms (part_at t (get_or P k 0))) a b → Counts t tb (drop k P) b
  counts_on k a b h c d = record {
    sized = d.sized;
    places = ap (take tb.rules) d.behind ∙ c.places;
    counts = λ p s. let W = with_head t p (drop (k + 1) P) in let i = get_or P k 0 in let has? = has p (atoms (part_at t i)) in
        d.counts p s ∙ ap (λ (n : ℕ). cond has? (n + 1) n) (c.counts p s) ∙ sym (length_cond has? i W)
        ∙ sym (ap (λ (m : List ℕ). length m) (with_split t p P k (omega (arith, h, places_length t tb.first tb.rules))));
  }

  -- each count is small
  pub counts_few : Laid t tb → (k : ℕ) (a : List ℕ) → Counts t tb (drop k P) a → (p : ℕ) → p ≤ 256 → get_or a (2 * p + 1) 0 ≤ 1024
  counts_few laid k a c p h =
      omega (arith, c.counts p h, with_short t p (drop k P), length-drop k P, places_length t tb.first tb.rules, laid.few_rules)

  -- where list p ends
  pub end_total : (a : List ℕ) → Counts t tb P a → (s p : ℕ) → p ≤ 256 → end_of a s p ≡ s + total t P p
  end_total a c s zero h = omega (arith, end_zero a s, total_zero t P)
  end_total a c s (suc p) h = omega (arith, end_suc a s p, total_suc t P p, c.counts (suc p) h, end_total a c s p (omega arith))

-- ---- the ends, from the first on

module _ (a : List ℕ) (s : ℕ) where
  -- the list of x, empty so far
  module _ (b : List ℕ) (x : ℕ) (d : Ended s (x - 1) a b) (low : 1 ≤ x) (h : x ≤ 256) where
    abbrev e : ℕ
    e = end_of a s x

    abbrev begun : List ℕ
    begun = set b (2 * x) e

    -- other words stay
    ended_other : (i : ℕ) → i ≢ 2 * x → i ≢ 2 * x + 1 → get_or (set begun (2 * x + 1) e) i 0 ≡ get_or b i 0
    ended_other i m n = get_or-set_other begun (2 * x + 1) i e 0 n ∙ get_or-set_other b (2 * x) i e 0 m

    ended_begin : (q : ℕ) → 1 ≤ q → q ≤ x → (q ≡ x) ⊎ (q ≢ x) → get_or (set begun (2 * x + 1) e) (2 * q) 0 ≡ end_of a s q
    ended_begin q k m (inl u) =
        subst (λ (r : ℕ). get_or (set begun (2 * x + 1) e) (2 * r) 0 ≡ end_of a s r) (sym u)
        (get_or-set_other begun (2 * x + 1) (2 * x) e 0 (λ w. omega (arith, w)) ∙ get_or-set_same b (2 * x) e 0 (omega (arith, d.sized)))
    ended_begin q k m (inr n) = ended_other (2 * q) (λ w. n (omega (arith, w))) (λ w. omega (arith, w)) ∙ d.begins q k (omega (arith, n))

    ended_end : (q : ℕ) → q ≤ x → (q ≡ x) ⊎ (q ≢ x) → get_or (set begun (2 * x + 1) e) (2 * q + 1) 0 ≡ end_of a s q
    ended_end q m (inl u) =
        subst (λ (r : ℕ). get_or (set begun (2 * x + 1) e) (2 * r + 1) 0 ≡ end_of a s r) (sym u)
        (get_or-set_same begun (2 * x + 1) e 0 (omega (arith, d.sized, length-set b (2 * x) e)))
    ended_end q m (inr n) = ended_other (2 * q + 1) (λ w. omega (arith, w)) (λ w. n (omega (arith, w))) ∙ d.ends q (omega (arith, n))

    pub ended_on : Ended s x a (set begun (2 * x + 1) e)
    ended_on = record {
      sized = length-set begun (2 * x + 1) e ∙ length-set b (2 * x) e ∙ d.sized;
      behind = drop-set-lt bounds begun (2 * x + 1) e (omega arith) ∙ drop-set-lt bounds b (2 * x) e (omega arith) ∙ d.behind;
      first = ended_other 0 (λ w. omega (arith, w)) (λ w. omega (arith, w)) ∙ d.first;
      begins = λ q k m. ended_begin q k m (eq_case q x);
      ends = λ q m. ended_end q m (eq_case q x);
    }

    -- the counts to come stay
    pub ended_later : (q : ℕ) → x < q → get_or (set begun (2 * x + 1) e) (2 * q + 1) 0 ≡ get_or b (2 * q + 1) 0
    ended_later q m = ended_other (2 * q + 1) (λ w. omega (arith, w)) (λ w. omega (arith, w))

-- what begins and ends of list 0 change: nothing behind, and no other end
module _ (a : List ℕ) (s : ℕ) where
  abbrev pub started : List ℕ
  started = set (set a 0 bounds) 1 s

  started_later : (q : ℕ) → 0 < q → get_or started (2 * q + 1) 0 ≡ get_or a (2 * q + 1) 0
  started_later q h =
      get_or-set_other (set a 0 bounds) 1 (2 * q + 1) s 0 (λ w. omega (arith, w)) ∙ get_or-set_other a 0 (2 * q + 1) bounds 0 (λ w. omega (arith, w))

  pub started_end : (p : ℕ) → end_of started s p ≡ end_of a s p
  started_end zero = end_zero started s ∙ sym (end_zero a s)
  started_end (suc p) = omega (arith, end_suc started s p, end_suc a s p, started_end p, started_later (suc p) (omega arith))

  pub started_sized : length a ≡ size → length started ≡ size
  started_sized z = length-set (set a 0 bounds) 1 s ∙ length-set a 0 bounds ∙ z

  pub started_ended : length a ≡ size → Ended s 0 started started
  started_ended z =
      let b = set a 0 bounds in
      let y : length b ≡ size = length-set a 0 bounds ∙ z in
      record {
        sized = started_sized z;
        behind = refl;
        first = get_or-set_other b 1 0 s 0 (λ q. omega (arith, q)) ∙ get_or-set_same a 0 bounds 0 (omega arith);
        begins = λ p h k. absurd (omega (arith, h, k));
        ends = λ p h. let e : p ≡ 0 = omega (arith, h) in
            subst (λ (q : ℕ). get_or started (2 * q + 1) 0 ≡ end_of started s q) (sym e) (get_or-set_same b 1 s 0 (omega arith) ∙ sym (end_zero started s));
      }

  pub ended_whole : (n : ℕ) (b : List ℕ) → Ended s n started b → Ended s n a b
  ended_whole n b d = record {
    sized = d.sized;
    behind = d.behind ∙ drop-set-lt bounds (set a 0 bounds) 1 s (omega arith) ∙ drop-set-lt bounds a 0 bounds (omega arith);
    first = d.first;
    begins = λ p h k. d.begins p h k ∙ started_end p;
    ends = λ p h. d.ends p h ∙ started_end p;
  }
