-- Tests on lists and finite graphs, as facts.
-- Assumes nothing.
use mathlib.Core.Path.{◌≡◌, refl, sym, ap, ◌∙◌}
use mathlib.Core.Logic.{◌⊎◌, inl, inr, ◌≢◌}
use mathlib.Core.Bool.{Bool, true, false, not, ◌&&◌, ◌||◌, false≢true}
use mathlib.Core.List.Memᴰ
use mathlib.Core.List.Memᴰ.{cast as mem-cast}
use mathlib.Core.List.{List, [], ◌∷◌}
use Prim.Native.Nat.{ℕ, zero, suc, ◌+◌, ◌≤◌, ◌<◌, zero-le}
use native.Mathlib.Omega.{arith}
use native.Mathlib.Nat.{not-suc-le-zero, le_refl}
use lib.Dec.{T, eqb, eqb→eq, eqb_refl}
use Rattle.meaning.specs.Lists.{Is, ◌∈◌, all, any, cons_if, keep, has}
use Rattle.meaning.specs.Dependency.{Chain, stay, go}
use Rattle.meaning.specs.Cycles.{via}

-- ---- Booleans

pub clash : {b : Bool} → Is b → b ≡ false → ⊥
clash h k = false≢true (sym k ∙ h)

pub cases : (b : Bool) → Is b ⊎ (b ≡ false)
cases true = inl refl
cases false = inr refl

pub not_is : (b : Bool) → Is (not b) → b ≡ false
not_is true h = sym h
not_is false h = refl

pub is_not_lem : (b : Bool) → b ≡ false → Is (not b)
is_not_lem b e = ap not e

pub not_false : (b : Bool) → not b ≡ false → Is b
not_false true h = refl
not_false false h = sym h

pub and_i : {a b : Bool} → Is a → Is b → Is (a && b)
and_i h k = cc

pub and_l : (a b : Bool) → Is (a && b) → Is a
and_l true b h = refl
and_l false b h = h

pub and_r : (a b : Bool) → Is (a && b) → Is b
and_r true b h = h
and_r false b h = absurd (false≢true h)

pub or_l : (a b : Bool) → Is a → Is (a || b)
or_l a b h = cc

pub or_r : (a b : Bool) → Is b → Is (a || b)
or_r true b h = refl
or_r false b h = h

pub or_e : (a b : Bool) → Is (a || b) → Is a ⊎ Is b
or_e true b h = inl refl
or_e false b h = inr h

pub or_false : (a b : Bool) → (a || b) ≡ false → (a ≡ false) × (b ≡ false)
or_false true b e = absurd (false≢true (sym e))
or_false false b e = (refl, e)

-- two tests that pass together are equal
pub both : (a b : Bool) → (Is a → Is b) → (Is b → Is a) → a ≡ b
both true true f g = refl
both true false f g = sym (f refl)
both false true f g = g refl
both false false f g = refl

pub contra : (a : Bool) {b : Bool} → (Is a → Is b) → b ≡ false → a ≡ false
contra true f e = absurd (clash (f refl) e)
contra false f e = refl

pub T→Is : (b : Bool) → T b → Is b
T→Is true h = refl
T→Is false h = absurd h

pub Is→T : (b : Bool) → Is b → T b
Is→T true h = tt
Is→T false h = absurd (false≢true h)

pub eq : (m n : ℕ) → Is (eqb m n) → m ≡ n
eq m n h = eqb→eq m n (Is→T _ h)

pub eq_i : {m n : ℕ} → m ≡ n → Is (eqb m n)
eq_i {m} {n} e = rw e (T→Is _ (eqb_refl n))

pub neq : (m n : ℕ) → eqb m n ≡ false → m ≢ n
neq m n h e = clash (eq_i e) h

pub neq_i : (m n : ℕ) → m ≢ n → eqb m n ≡ false
neq_i m n f = contra (eqb m n) {b = false} (λ h. absurd (f (eq m n h))) refl

-- ---- lists

module _ {A : Type 0} where
  pub all_at : (f : A → Bool) {x : A} (l : List A) → Is (all f l) → x ∈ l → Is (f x)
  all_at f (y ∷ l) h (Memᴰ.head e) = ap f e ∙ and_l _ _ h
  all_at f [] h x3 = elim x3 [ ]
  all_at f (y ∷ l) h (Memᴰ.tail m) = all_at f l (and_r (f y) (all f l) h) m

  pub all_i : (f : A → Bool) (l : List A) → ((x : A) → x ∈ l → Is (f x)) → Is (all f l)
  all_i f [] h = refl
  all_i f (y ∷ l) h = and_i (h y (Memᴰ.head refl)) (all_i f l (λ x m. h x (Memᴰ.tail m)))

  pub any_i : (f : A → Bool) {x : A} (l : List A) → x ∈ l → Is (f x) → Is (any f l)
  any_i f (y ∷ l) (Memᴰ.head e) h = or_l _ _ (rw e at h)
  any_i f [] x3 h = elim x3 [ ]
  any_i f (y ∷ l) (Memᴰ.tail m) h = or_r (f y) _ (any_i f l m h)

  pub any_e : (f : A → Bool) (l : List A) → Is (any f l) → (x : A) × (x ∈ l) × Is (f x)
  any_e f [] h = absurd (false≢true h)
  any_e f (y ∷ l) h = at (λ k. any_e f l k) (or_e _ _ h)
    where
      at : (Is (any f l) → (x : A) × (x ∈ l) × Is (f x)) → Is (f y) ⊎ Is (any f l) → (x : A) × (x ∈ y ∷ l) × Is (f x)
      at rest (inl k) = (y, Memᴰ.head refl, k)
      at rest (inr k) = let t = rest k in (t.0, Memᴰ.tail t.1, t.2)

  -- some element passes, or none does
  pub any_cases : (f : A → Bool) (l : List A) → ((x : A) × (x ∈ l) × Is (f x)) ⊎ ((x : A) → x ∈ l → f x ≡ false)
  any_cases f l = at (cases (any f l))
    where
      none : (x : A) → x ∈ l → any f l ≡ false → (b : Bool) → f x ≡ b → b ≡ false
      none x m e true h = absurd (clash (any_i f l m h) e)
      none x m e false h = refl

      at : Is (any f l) ⊎ (any f l ≡ false) → ((x : A) × (x ∈ l) × Is (f x)) ⊎ ((x : A) → x ∈ l → f x ≡ false)
      at (inl h) = inl (any_e f l h)
      at (inr e) = inr (λ x m. none x m e (f x) refl)

  cons_if_tail : (b : Bool) {x : A} (y : A) {l : List A} → x ∈ l → x ∈ cons_if b y l
  cons_if_tail true y m = Memᴰ.tail m
  cons_if_tail false y m = m

  cons_if_e : (b : Bool) {x : A} (y : A) {l : List A} → x ∈ cons_if b y l → (Is b × (x ≡ y)) ⊎ (x ∈ l)
  cons_if_e true y (Memᴰ.head e) = inl (refl, e)
  cons_if_e true y (Memᴰ.tail m) = inr m
  cons_if_e false y m = inr m

  pub keep_i : (f : A → Bool) {x : A} (l : List A) → x ∈ l → Is (f x) → x ∈ keep f l
  keep_i f (y ∷ l) (Memᴰ.head e) h =
      let k : Is (f y) = rw e at h in
      rw k (Memᴰ.head e)
  keep_i f [] x3 h = elim x3 [ ]
  keep_i f (y ∷ l) (Memᴰ.tail m) h = cons_if_tail (f y) y (keep_i f l m h)

  pub keep_e : (f : A → Bool) {x : A} (l : List A) → x ∈ keep f l → (x ∈ l) × Is (f x)
  keep_e f [] m = elim m [ ]
  keep_e f {x} (y ∷ l) m = at (λ k. keep_e f l k) (cons_if_e (f y) y m)
    where
      at : (x ∈ keep f l → (x ∈ l) × Is (f x)) → (Is (f y) × (x ≡ y)) ⊎ (x ∈ keep f l) → (x ∈ y ∷ l) × Is (f x)
      at rest (inl k) = (Memᴰ.head k.1, ap f k.1 ∙ k.0)
      at rest (inr k) = let t = rest k in (Memᴰ.tail t.0, t.1)

-- ---- atoms in lists

pub has_i : {p : ℕ} {l : List ℕ} → p ∈ l → Is (has p l)
unfolding has
has_i {p} {l} m = any_i (eqb p) l m (eq_i {m = p} refl)

pub has_e : {p : ℕ} (l : List ℕ) → Is (has p l) → p ∈ l
unfolding has
has_e {p} l h = let t = any_e (eqb p) l h in mem-cast (eq p t.0 t.2) t.1

-- ---- how many numbers below n pass

unfoldable pub bit : Bool → ℕ
bit true = 1
bit false = 0

unfoldable pub number : ℕ → (ℕ → Bool) → ℕ
number zero f = zero
number (suc n) f = bit (f n) + number n f

bit_le : (a b : Bool) → (Is a → Is b) → bit a ≤ bit b
unfolding bit
bit_le true true h = omega arith
bit_le true false h = absurd (false≢true (h refl))
bit_le false b h = zero-le

pub number_le : (n : ℕ) (f g : ℕ → Bool) → ((a : ℕ) → a < n → Is (f a) → Is (g a)) → number n f ≤ number n g
unfolding number
number_le zero f g h = zero-le
number_le (suc n) f g h = omega (arith, bit_le (f n) (g n) (h n (omega arith)), number_le n f g (λ a k. h a (omega arith)))

pub number_lt : (n : ℕ) (f g : ℕ → Bool) → ((a : ℕ) → a < n → Is (f a) → Is (g a)) → (a : ℕ) → a < n → f a ≡ false → Is (g a) → number n f < number n g
unfolding number bit
number_lt zero f g h a k x y = absurd (not-suc-le-zero k)
number_lt (suc n) f g h a k x y = at (λ l. number_lt n f g (λ a k. h a (omega arith)) a l x y) (cases (eqb a n))
  where
    at : (a < n → number n f < number n g) → Is (eqb a n) ⊎ (eqb a n ≡ false) → number (suc n) f < number (suc n) g
    at rest (inl e) =
        let p : bit (f n) ≡ 0 = ap bit (rw (eq a n e) at x) in
        let q : bit (g n) ≡ 1 = ap bit (rw (eq a n e) at y) in
        omega (arith, number_le n f g (λ a k. h a (omega arith)))
    at rest (inr e) =
        let l : a < n = omega (arith, neq a n e) in
        omega (arith, bit_le (f n) (g n) (h n (omega arith)), rest l)

pub number_top : (n : ℕ) (f : ℕ → Bool) → number n f ≤ n
unfolding number bit
number_top zero f = zero-le
number_top (suc n) f = omega (arith, number_top n f, top (f n))
  where
    top : (b : Bool) → bit b ≤ 1
    top true = le_refl 1
    top false = zero-le

-- some number below n passes, or none does
pub find : (n : ℕ) (f : ℕ → Bool) → ((a : ℕ) × (a < n) × Is (f a)) ⊎ ((a : ℕ) → a < n → f a ≡ false)
find zero f = inr (λ a k. absurd (not-suc-le-zero k))
find (suc n) f = at (find n f) (cases (f n))
  where
    at : ((a : ℕ) × (a < n) × Is (f a)) ⊎ ((a : ℕ) → a < n → f a ≡ false) → Is (f n) ⊎ (f n ≡ false)
        → ((a : ℕ) × (a < suc n) × Is (f a)) ⊎ ((a : ℕ) → a < suc n → f a ≡ false)
    at (inl t) d = inl (t.0, omega arith, t.2)
    at (inr g) (inl h) = inl (n, omega arith, h)
    at (inr g) (inr e) = inr (λ a k. last a k (cases (eqb a n)))
      where
        last : (a : ℕ) → a < suc n → Is (eqb a n) ⊎ (eqb a n ≡ false) → f a ≡ false
        last a k (inl h) = ap f (eq a n h) ∙ e
        last a k (inr h) = g a (omega (arith, neq a n h))

-- ---- chains of arcs, and the test of `specs/Cycles.antt`

module _ (R : ℕ → ℕ → Bool) where
  chain_cast : {p q s : ℕ} → Chain R p q → q ≡ s → Chain R p s
  chain_cast (stay e') e = stay (e' ∙ e)
  chain_cast (go d a) e = go d (rw e at a)

  pub chain_join : {p q s : ℕ} → Chain R p q → Chain R q s → Chain R p s
  chain_join c (stay e) = chain_cast c e
  chain_join c (go d a) = go (chain_join c d) a

  pub via_chain : (m p q : ℕ) → Is (via R m p q) → Chain R p q
  unfolding via
  via_chain zero p q h = at (or_e _ _ h)
    where
      at : Is (eqb p q) ⊎ Is (R p q) → Chain R p q
      at (inl e) = stay (eq p q e)
      at (inr a) = go (stay refl) a
  via_chain (suc m) p q h = at (λ k. via_chain m p q k) (λ k. via_chain m p m k) (λ k. via_chain m m q k) (or_e _ _ h)
    where
      at : (Is (via R m p q) → Chain R p q) → (Is (via R m p m) → Chain R p m) → (Is (via R m m q) → Chain R m q)
          → Is (via R m p q) ⊎ Is (via R m p m && via R m m q) → Chain R p q
      at f g h (inl k) = f k
      at f g h (inr k) = chain_join (g (and_l _ _ k)) (h (and_r (via R m p m) _ k))

  via_up : (m p q : ℕ) → Is (via R zero p q) → Is (via R m p q)
  unfolding via
  via_up zero p q h = h
  via_up (suc m) p q h = or_l _ _ (via_up m p q h)

  -- the two kinds of a step
  via_e : (m p q : ℕ) → Is (via R (suc m) p q) → Is (via R m p q) ⊎ (Is (via R m p m) × Is (via R m m q))
  unfolding via
  via_e m p q h = at (or_e _ _ h)
    where
      at : Is (via R m p q) ⊎ Is (via R m p m && via R m m q) → Is (via R m p q) ⊎ (Is (via R m p m) × Is (via R m m q))
      at (inl k) = inl k
      at (inr k) = inr (and_l _ _ k, and_r (via R m p m) _ k)

  -- a chain through m
  via_m : (m p q : ℕ) → Is (via R m p m) → Is (via R m m q) → Is (via R (suc m) p q)
  unfolding via
  via_m m p q a b = or_r (via R m p q) _ (and_i a b)

  to_m : (m p : ℕ) → Is (via R (suc m) p m) → Is (via R m p m)
  to_m m p h = at (via_e m p m h)
    where
      at : Is (via R m p m) ⊎ (Is (via R m p m) × Is (via R m m m)) → Is (via R m p m)
      at (inl k) = k
      at (inr k) = k.0

  from_m : (m q : ℕ) → Is (via R (suc m) m q) → Is (via R m m q)
  from_m m q h = at (via_e m m q h)
    where
      at : Is (via R m m q) ⊎ (Is (via R m m m) × Is (via R m m q)) → Is (via R m m q)
      at (inl k) = k
      at (inr k) = k.1

  via_up1 : (m p q : ℕ) → Is (via R m p q) → Is (via R (suc m) p q)
  unfolding via
  via_up1 m p q h = or_l _ _ h

  pub via_join : (m p k q : ℕ) → k < m → Is (via R m p k) → Is (via R m k q) → Is (via R m p q)
  via_join zero p k q l a b = absurd (not-suc-le-zero l)
  via_join (suc m) p k q l a b = at (λ p q l. via_join m p k q l) (cases (eqb k m))
    where
      parts : ((p q : ℕ) → Is (via R m p k) → Is (via R m k q) → Is (via R m p q))
          → Is (via R m p k) ⊎ (Is (via R m p m) × Is (via R m m k)) → Is (via R m k q) ⊎ (Is (via R m k m) × Is (via R m m q)) → Is (via R (suc m) p q)
      parts ih (inl a) (inl b) = via_up1 m p q (ih p q a b)
      parts ih (inl a) (inr b) = via_m m p q (ih p m a b.0) b.1
      parts ih (inr a) (inl b) = via_m m p q a.0 (ih m q a.1 b)
      parts ih (inr a) (inr b) = via_m m p q a.0 b.1

      at : ((p q : ℕ) → k < m → Is (via R m p k) → Is (via R m k q) → Is (via R m p q)) → Is (eqb k m) ⊎ (eqb k m ≡ false) → Is (via R (suc m) p q)
      at ih (inl e) = via_m m p q (to_m m p (rw (eq k m e) at a)) (from_m m q (rw (eq k m e) at b))
      at ih (inr e) = parts (λ p q. ih p q (omega (arith, neq k m e))) (via_e m p k a) (via_e m k q b)

  -- with all targets of arcs below n the test is exact
  pub chain_via : (n : ℕ) → ((p q : ℕ) → Is (R p q) → p < n) → {p q : ℕ} → Chain R p q → Is (via R n p q)
  unfolding via
  chain_via n low (stay e) = via_up n _ _ (or_l _ _ (eq_i e))
  chain_via n low {p} (go {q} {s} c a) = via_join n p q s (low q s a) (chain_via n low c) (via_up n q s (or_r (eqb q s) _ a))
