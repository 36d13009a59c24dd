-- Sets of atoms by their members, their size, and what putting an atom on the list makes of both. Assumes nothing.
use mathlib.Core.Path.{◌≡◌, refl, sym, ap, ◌∙◌, subst}
use mathlib.Core.Logic.{◌⊎◌, inl, inr, ◌≢◌}
use mathlib.Core.Bool.{Bool, true, false, cond}
use mathlib.Core.List.{List}
use Prim.Native.Nat.{ℕ, zero, suc, ◌+◌, ◌-◌, ◌≤◌, ◌<◌}
use native.Mathlib.Omega.{arith}
use lib.ListN.{length, get_or, set, length-set}
use lib.Seq.{get_or-set_same, get_or-set_other}
use Rattle.meaning.specs.Lists.{Is}
use Rattle.meaning.proofs.Cond.{if_eq_yes, if_eq_no, eq_case, lt_case}
use Rattle.meaning.proofs.Tools.{clash, or_e, or_l, or_r}
use Rattle.levels.specs.Levels.{Levels, no_levels, union, only}
use Rattle.reach.specs.Visits.{Part, size, Queue, Put}

-- ---- one atom alone, and one more

pub only_i : (p : ℕ) → Is (only p p)
only_i p = if_eq_yes p p true false refl

pub only_e : (p q : ℕ) → Is (only p q) → q ≡ p
only_e p q h = at (eq_case q p)
  where
    at : (q ≡ p) ⊎ (q ≢ p) → q ≡ p
    at (inl e) = e
    at (inr d) = absurd (clash h (if_eq_no q p true false d))

module _ (p : ℕ) (A B : Levels) (more : B ≡ union (only p) A) where
  pub more_here : Is (B p)
  more_here = ap (λ (X : Levels). X p) more ∙ or_l (only p p) (A p) (only_i p)

  pub more_old : Part A B
  more_old q h = ap (λ (X : Levels). X q) more ∙ or_r (only p q) (A q) h

  pub more_e : (q : ℕ) → Is (B q) → (q ≡ p) ⊎ Is (A q)
  more_e q h = at (or_e (only p q) (A q) (sym (ap (λ (X : Levels). X q) more) ∙ h))
    where
      at : Is (only p q) ⊎ Is (A q) → (q ≡ p) ⊎ Is (A q)
      at (inl k) = inl (only_e p q k)
      at (inr k) = inr k

-- ---- how many there are

step_le : (a b : Bool) (x y : ℕ) → (Is a → Is b) → x ≤ y → cond a (suc x) x ≤ cond b (suc y) y
step_le true true x y h k = omega arith
step_le true false x y h k = absurd (clash (h refl) refl)
step_le false true x y h k = omega arith
step_le false false x y h k = k

step_lt : (a b : Bool) (x y : ℕ) → (Is a → Is b) → x < y → cond a (suc x) x < cond b (suc y) y
step_lt true true x y h k = omega arith
step_lt true false x y h k = absurd (clash (h refl) refl)
step_lt false true x y h k = omega arith
step_lt false false x y h k = k

step_new : (a b : Bool) (x y : ℕ) → a ≡ false → Is b → x ≤ y → cond a (suc x) x < cond b (suc y) y
step_new true b x y e h k = absurd (clash refl e)
step_new false true x y e h k = omega arith
step_new false false x y e h k = absurd (clash h refl)

pub size_le : (A B : Levels) (n : ℕ) → Part A B → size A n ≤ size B n
unfolding size
size_le A B zero h = omega arith
size_le A B (suc n) h = step_le (A (suc n)) (B (suc n)) (size A n) (size B n) (h (suc n)) (size_le A B n h)

pub size_lt : (A B : Levels) (n : ℕ) → Part A B → (q : ℕ) → 1 ≤ q → q ≤ n → A q ≡ false → Is (B q) → size A n < size B n
unfolding size
size_lt A B zero h q l k e f = absurd (omega arith)
size_lt A B (suc n) h q l k e f = at (eq_case q (suc n)) (λ j. size_lt A B n h q l j e f)
  where
    at : (q ≡ suc n) ⊎ (q ≢ suc n) → (q ≤ n → size A n < size B n) → cond (A (suc n)) (suc (size A n)) (size A n) < cond (B (suc n)) (suc (size B n)) (size B n)
    at (inl d) rest =
        step_new (A (suc n)) (B (suc n)) (size A n) (size B n) (ap A (sym d) ∙ e) (ap B (sym d) ∙ f) (size_le A B n h)
    at (inr d) rest = step_lt (A (suc n)) (B (suc n)) (size A n) (size B n) (h (suc n)) (rest (omega (arith, d)))

pub size_top : (A : Levels) (n : ℕ) → size A n ≤ n
unfolding size
size_top A zero = omega arith
size_top A (suc n) = at (A (suc n)) (size_top A n)
  where
    at : (a : Bool) → size A n ≤ n → cond a (suc (size A n)) (size A n) ≤ suc n
    at true h = omega arith
    at false h = omega arith

-- ---- the list

-- there is room for an atom that is not marked
pub room : (A : Levels) (l : List ℕ) (k p : ℕ) → Queue A l k → 1 ≤ p → p ≤ 256 → A p ≡ false → k < 256
room A l k p Q h j e =
    omega (arith, Q.few, size_lt A (union (only p) A) 256 (more_old p A (union (only p) A) refl) p h j e (more_here p A (union (only p) A) refl), size_top (union (only p) A) 256)

-- nothing new
pub put_none : (T : ℕ → Type 0) (A : Levels) (l : List ℕ) (k : ℕ) → Queue A l k → ((q : ℕ) → T q → Is (A q)) → Put T A l k A l k
put_none T A l k Q h =
    record { queue = Q; kept = λ q i. i; added = h; only = λ q i. inl i; longer = omega arith; same = λ i j. refl }

-- one atom at the end
module _ (T : ℕ → Type 0) (A B : Levels) (l : List ℕ) (k p : ℕ) (Q : Queue A l k) (h : 1 ≤ p) (j : p ≤ 256) (e : A p ≡ false) (more : B ≡ union (only p) A)
    (fits : T p) (alone : (q : ℕ) → T q → q ≡ p) where
  here : k < length l
  here = omega (arith, room A l k p Q h j e, Q.sized)

  last : suc (get_or (set l k (p - 1)) k 0) ≡ p
  last = let w : get_or (set l k (p - 1)) k 0 ≡ p - 1 = get_or-set_same l k (p - 1) 0 here in omega (arith, w)

  old : (i : ℕ) → i < k → get_or (set l k (p - 1)) i 0 ≡ get_or l i 0
  old i m = get_or-set_other l k i (p - 1) 0 (λ d. omega (arith, d))

  queue : Queue B (set l k (p - 1)) (k + 1)
  queue = record {
    sized = length-set l k (p - 1) ∙ Q.sized;
    few = omega (arith, Q.few, size_lt A B 256 (more_old p A B more) p h j e (more_here p A B more));
    each = λ i m. at i m (lt_case i k);
    all = λ q m. found q (more_e p A B more q m);
  }
    where
      at : (i : ℕ) → i < k + 1 → (i < k) ⊎ (k ≤ i) → Is (B (suc (get_or (set l k (p - 1)) i 0)))
      at i m (inl d) = subst (λ (x : ℕ). Is (B (suc x))) (sym (old i d)) (more_old p A B more (suc (get_or l i 0)) (Q.each i d))
      at i m (inr d) =
          let w : i ≡ k = omega arith in
          subst (λ (x : ℕ). Is (B x)) (sym (ap (λ (x : ℕ). suc (get_or (set l k (p - 1)) x 0)) w ∙ last)) (more_here p A B more)

      found : (q : ℕ) → (q ≡ p) ⊎ Is (A q) → (i : ℕ) × (i < k + 1) × (suc (get_or (set l k (p - 1)) i 0) ≡ q)
      found q (inl d) = (k, omega arith, last ∙ sym d)
      found q (inr d) = let w = Q.all q d in (w.0, omega (arith, w.1), ap suc (old w.0 w.1) ∙ w.2)

  pub put_new : Put T A l k B (set l k (p - 1)) (k + 1)
  put_new = record {
    queue = queue;
    kept = more_old p A B more;
    added = λ q t. subst (λ (x : ℕ). Is (B x)) (sym (alone q t)) (more_here p A B more);
    only = λ q m. at q (more_e p A B more q m);
    longer = omega arith;
    same = old;
  }
    where
      at : (q : ℕ) → (q ≡ p) ⊎ Is (A q) → Is (A q) ⊎ T q
      at q (inl d) = inr (subst T (sym d) fits)
      at q (inr d) = inl d

-- one after the other
pub put_then : (S T U : ℕ → Type 0) (A : Levels) (l : List ℕ) (k : ℕ) (B : Levels) (m : List ℕ) (j : ℕ) (C : Levels) (o : List ℕ) (i : ℕ)
    → Put S A l k B m j → Put T B m j C o i → ((q : ℕ) → U q → S q ⊎ T q) → ((q : ℕ) → S q → U q) → ((q : ℕ) → T q → U q) → Put U A l k C o i
put_then S T U A l k B m j C o i x y split left right = record {
  queue = y.queue;
  kept = λ q h. y.kept q (x.kept q h);
  added = λ q u. into q (split q u);
  only = λ q h. back q (y.only q h);
  longer = omega (arith, x.longer, y.longer);
  same = λ n h. y.same n (omega (arith, x.longer)) ∙ x.same n h;
}
  where
    into : (q : ℕ) → S q ⊎ T q → Is (C q)
    into q (inl s) = y.kept q (x.added q s)
    into q (inr t) = y.added q t

    first : (q : ℕ) → Is (A q) ⊎ S q → Is (A q) ⊎ U q
    first q (inl h) = inl h
    first q (inr s) = inr (left q s)

    back : (q : ℕ) → Is (B q) ⊎ T q → Is (A q) ⊎ U q
    back q (inl h) = first q (x.only q h)
    back q (inr t) = inr (right q t)

-- the first atom
pub start_queue : (l : List ℕ) (p : ℕ) → length l ≡ 256 → 1 ≤ p → p ≤ 256 → Queue (only p) (set l 0 (p - 1)) 1
start_queue l p e h j = record {
  sized = length-set l 0 (p - 1) ∙ e;
  few = omega (arith, size_lt no_levels (only p) 256 (λ q i. absurd (clash i refl)) p h j refl (only_i p));
  each = λ i m. subst (λ (x : ℕ). Is (only p x)) (sym (first i m)) (only_i p);
  all = λ q m. (0, omega arith, first 0 (omega arith) ∙ sym (only_e p q m));
}
  where
    first : (i : ℕ) → i < 1 → suc (get_or (set l 0 (p - 1)) i 0) ≡ p
    first i m =
        let z : i ≡ 0 = omega arith in
        let w : get_or (set l 0 (p - 1)) 0 0 ≡ p - 1 = get_or-set_same l 0 (p - 1) 0 (omega arith) in
        ap (λ (x : ℕ). suc (get_or (set l 0 (p - 1)) x 0)) z ∙ omega (arith, w)

-- the same set said otherwise
pub put_same : (S T : ℕ → Type 0) (A : Levels) (l : List ℕ) (k : ℕ) (B : Levels) (m : List ℕ) (j : ℕ) → Put S A l k B m j → ((q : ℕ) → T q → S q) → ((q : ℕ) → S q → T q) → Put T A l k B m j
put_same S T A l k B m j x f g = record { queue = x.queue; kept = x.kept; added = λ q t. x.added q (f q t); only = λ q h. at q (x.only q h); longer = x.longer; same = x.same }
  where
    at : (q : ℕ) → Is (A q) ⊎ S q → Is (A q) ⊎ T q
    at q (inl h) = inl h
    at q (inr s) = inr (g q s)
