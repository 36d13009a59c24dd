-- The walk back, one atom at a time, and what it comes to where a walk adds nothing. Assumes nothing.
use mathlib.Core.Path.{◌≡◌, refl, sym, ap, ◌∙◌, subst}
use mathlib.Core.Logic.{◌⊎◌, inl, inr, ◌↔◌}
use mathlib.Core.Bool.{Bool, false}
use mathlib.Core.List.{List, [], ◌∷◌, ◌++◌}
use Prim.Native.Nat.{ℕ, suc, ◌+◌, ◌-◌, ◌≤◌, ◌<◌}
use native.Mathlib.Omega.{arith}
use lib.ListN.{length, get_or, take, length-take}
use lib.Seq.{get_or-take, get_or-append_seam, take-append_seam}
use Rattle.std.proofs.lemmas.List.{length-take-le, length_push, take-take}
use Rattle.meaning.specs.Lists.{Is}
use Rattle.meaning.specs.Dependency.{Chain, stay, go}
use Rattle.meaning.proofs.Cond.{lt_case}
use Rattle.meaning.proofs.Tools.{clash, chain_join}
use Rattle.levels.specs.Levels.{Levels, union, only}
use Rattle.reach.specs.Visits.{size, Visited, Reached, Led, Walked, Circle}
use Rattle.reach.proofs.Putting.{only_i, only_e, more_here, more_old, more_e, size_lt, size_top}

-- ---- one atom

module _ (R : ℕ → ℕ → Bool) (q : ℕ) (A : Levels) (a : ℕ) (fits : a ≤ size A 256) where
  -- nothing marked
  pub led_none : ((u : ℕ) → Is (R q u) → Is (A u) → Is (A q)) → Led R q A a A a
  led_none h = record { kept = λ s i. i; only = λ s i. inl i; sized = fits; more = omega arith; still = λ e s i. i; done = λ e. h }

  -- q marked
  pub led_one : (B : Levels) → B ≡ union (only q) A → 1 ≤ q → q ≤ 256 → A q ≡ false → (u : ℕ) → Is (R q u) → Is (A u) → Led R q A a B (a + 1)
  led_one B more h k e u r i = record {
    kept = more_old q A B more;
    only = λ s j. at s (more_e q A B more s j);
    sized = omega (arith, size_lt A B 256 (more_old q A B more) q h k e (more_here q A B more));
    more = omega arith;
    still = λ z. absurd (omega arith);
    done = λ z. absurd (omega arith);
  }
    where
      at : (s : ℕ) → (s ≡ q) ⊎ Is (A s) → Is (A s) ⊎ ((s ≡ q) × ((u : ℕ) × Is (R q u) × Is (A u)))
      at s (inl d) = inr (d, (u, r, i))
      at s (inr d) = inl d

-- ---- one more on the list

module _ (R : ℕ → ℕ → Bool) (l : List ℕ) (k : ℕ) (A : Levels) (a : ℕ) where
  pub walked_none : a ≤ size A 256 → Walked R l k k A a A a
  walked_none h = record {
    kept = λ s i. i;
    from = λ s i. inl i;
    sound = λ p f. f;
    sized = h;
    more = omega arith;
    still = λ e s i. i;
    done = λ e j m n. absurd (omega arith);
  }

  pub walked_on : (i : ℕ) (B : Levels) (b : ℕ) (C : Levels) (c : ℕ) → 0 < i → i ≤ k → Walked R l i k A a B b → Led R (suc (get_or l (i - 1) 0)) B b C c → Walked R l (i - 1) k A a C c
  walked_on i B b C c h g x y = record {
    kept = λ s m. y.kept s (x.kept s m);
    from = λ s m. at s (y.only s m);
    sound = λ p f s m. chain p f s (y.only s m);
    sized = y.sized;
    more = omega (arith, x.more, y.more);
    still = λ e s m. x.still (omega (arith, e, x.more, y.more)) s (y.still (omega (arith, e, x.more, y.more)) s m);
    done = λ e j m n u r t. met e j m n u r t (lt_case j i);
  }
    where
      q : ℕ
      q = suc (get_or l (i - 1) 0)

      at : (s : ℕ) → Is (B s) ⊎ ((s ≡ suc (get_or l (i - 1) 0)) × ((u : ℕ) × Is (R (suc (get_or l (i - 1) 0)) u) × Is (B u))) → Is (A s) ⊎ ((j : ℕ) × (j < k) × (suc (get_or l j 0) ≡ s))
      at s (inl m) = x.from s m
      at s (inr w) = inr (i - 1, omega arith, sym w.0)

      chain : (p : ℕ) → ((s : ℕ) → Is (A s) → Chain R s p) → (s : ℕ) → Is (B s) ⊎ ((s ≡ suc (get_or l (i - 1) 0)) × ((u : ℕ) × Is (R (suc (get_or l (i - 1) 0)) u) × Is (B u))) → Chain R s p
      chain p f s (inl m) = x.sound p f s m
      chain p f s (inr w) = chain_join R (go (stay w.0) w.1.1) (x.sound p f w.1.0 w.1.2)

      met : c ≡ a → (j : ℕ) → i - 1 ≤ j → j < k → (u : ℕ) → Is (R (suc (get_or l j 0)) u) → Is (A u) → (j < i) ⊎ (i ≤ j) → Is (A (suc (get_or l j 0)))
      met e j m n u r t (inl d) =
          let z : j ≡ i - 1 = omega arith in
          let f : b ≡ a = omega (arith, e, x.more, y.more) in
          let g : c ≡ b = omega (arith, e, x.more, y.more) in
          let r' : Is (R (suc (get_or l (i - 1) 0)) u) = subst (λ (w : ℕ). Is (R (suc (get_or l w 0)) u)) z r in
          subst (λ (w : ℕ). Is (A (suc (get_or l w 0)))) (sym z) (x.still f (suc (get_or l (i - 1) 0)) (y.done g u r' (x.kept u t)))
      met e j m n u r t (inr d) = x.done (omega (arith, e, x.more, y.more)) j d n u r t

-- ---- the visit's list

pub reached_of : (R : ℕ → ℕ → Bool) (p : ℕ) (A : Levels) (l : List ℕ) (k : ℕ) → Visited R p A l k → Reached R p l k
reached_of R p A l k v = record {
  few = omega (arith, v.queue.few, size_top A 256);
  each = λ i h. (v.exact (suc (get_or l i 0))).0 (v.queue.each i h);
  all = λ q c. v.queue.all q ((v.exact q).1 c);
}

-- ---- the circle

-- the marked atoms lie on the circle of p, and p is marked
pub record Back (R : ℕ → ℕ → Bool) (p : ℕ) (A : Levels) (a : ℕ) : Type 0 where
  pub begun : Is (A p)
  pub round : (q : ℕ) → Is (A q) → Circle R p q
  pub fits : a ≤ size A 256

module _ (R : ℕ → ℕ → Bool) (p : ℕ) (l : List ℕ) (k : ℕ) (reached : Reached R p l k) where
  pub back_first : (A : Levels) → A ≡ only p → 1 ≤ p → p ≤ 256 → Back R p A 1
  back_first A e h j = record {
    begun = ap (λ (X : Levels). X p) e ∙ only_i p;
    round = λ q m. let d = only_e p q (sym (ap (λ (X : Levels). X q) e) ∙ m) in record { there = stay (sym d); back = stay d };
    fits = omega (arith, size_lt (λ (q : ℕ). false) A 256 (λ q m. absurd (none m)) p h j refl (ap (λ (X : Levels). X p) e ∙ only_i p));
  }
    where
      none : Is false → ⊥
      none m = clash m refl

  pub back_on : (A : Levels) (a : ℕ) (B : Levels) (b : ℕ) → Back R p A a → Walked R l 0 k A a B b → Back R p B b
  back_on A a B b x w = record { begun = w.kept p x.begun; round = λ q m. record { there = there q (w.from q m); back = w.sound p (λ s i. (x.round s i).back) q m }; fits = w.sized }
    where
      there : (q : ℕ) → Is (A q) ⊎ ((j : ℕ) × (j < k) × (suc (get_or l j 0) ≡ q)) → Chain R p q
      there q (inl m) = (x.round q m).there
      there q (inr j) = subst (Chain R p) j.2 (reached.each j.0 j.1)

  pub back_end : (A : Levels) (a : ℕ) (B : Levels) (b : ℕ) → Back R p A a → Walked R l 0 k A a B b → b ≡ a → (q : ℕ) → Is (A q) ↔ Circle R p q
  back_end A a B b x w e q = (x.round q, λ c. lead q p c.there c.back x.begun)
    where
      closed : (u s : ℕ) → Chain R p u → Is (R u s) → Is (A s) → Is (A u)
      closed u s c r m =
          let j = reached.all u c in
          subst (λ (y : ℕ). Is (A y)) j.2 (w.done e j.0 (omega arith) j.1 s (subst (λ (y : ℕ). Is (R y s)) (sym j.2) r) m)

      lead : (q s : ℕ) → Chain R p q → Chain R q s → Is (A s) → Is (A q)
      lead q s c (stay d) m = subst (λ (y : ℕ). Is (A y)) (sym d) m
      lead q s c (go {q = u} d r) m = lead q u c d (closed u s (chain_join R c d) r m)

-- ---- a list read from its end: what is left, and the one before it

pub from_back : (l left rest : List ℕ) (q : ℕ) → left ≡ take (length left) l → left ≡ rest ++ (q ∷ [])
    → (rest ≡ take (length rest) l) × (length left ≡ length rest + 1) × (length left ≤ length l) × (q ≡ get_or l (length rest) 0)
from_back l left rest q front e =
    let n : length left ≡ length rest + 1 = ap length e ∙ length_push rest q in
    let within : length left ≤ length l = omega (arith, ap length front, length-take (length left) l) in (
      sym (take-append_seam rest (q ∷ [])) ∙ ap (take (length rest)) (sym e ∙ front) ∙ take-take (length rest) (length left) l (omega arith),
      n,
      within,
      sym (get_or-append_seam rest q [] 0) ∙ ap (λ (m : List ℕ). get_or m (length rest) 0) (sym e ∙ front) ∙ get_or-take (length left) l (length rest) 0 (omega arith),
    )

-- the list of a visit as a slice
pub reached_slice : (R : ℕ → ℕ → Bool) (p : ℕ) (l : List ℕ) (k : ℕ) → length l ≡ 256 → Reached R p l k → Reached R p (take k l) (length (take k l))
reached_slice R p l k n x =
    let few : k ≤ 256 = x.few in
    let e : length (take k l) ≡ k = length-take-le k l (omega arith) in record {
      few = omega arith;
      each = λ i h. let s : i < k = omega arith in subst (λ (w : ℕ). Chain R p (suc w)) (sym (get_or-take k l i 0 s)) (x.each i s);
      all = λ q c. let w = x.all q c in (w.0, omega (arith, w.1), ap suc (get_or-take k l w.0 0 w.1) ∙ w.2);
    }
