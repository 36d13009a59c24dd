-- Names of circles, one atom after the other; at the end, equal names say exactly which atoms reach each other. Assumes nothing.
use mathlib.Core.Path.{◌≡◌, refl, sym, ap, ◌∙◌, subst}
use mathlib.Core.Logic.{◌⊎◌, inl, inr, ◌↔◌, ◌≢◌}
use mathlib.Core.Bool.{Bool, false, cond, ◌&&◌}
use mathlib.Core.List.{List}
use Prim.Native.Nat.{ℕ, suc, ◌+◌, ◌-◌, ◌≤◌, ◌<◌}
use native.Mathlib.Omega.{arith}
use lib.ListN.{length, get_or, set, length-set}
use lib.Seq.{get_or-set_same, get_or-set_other}
use borrow.Author.Tests.{eq-eqb, eqb-true}
use Rattle.meaning.specs.Lists.{Is}
use Rattle.meaning.specs.Program.{Program, In, AtomsIn}
use Rattle.meaning.specs.Dependency.{Chain, stay, go}
use Rattle.meaning.specs.Cycles.{via}
use Rattle.meaning.proofs.Cond.{eq_case}
use Rattle.meaning.proofs.Tools.{clash, cases, both, and_i, and_l, and_r, or_e, or_r, chain_join, via_chain, chain_via}
use Rattle.levels.specs.Levels.{Levels, union}
use Rattle.reach.specs.Arcs.{arcs_of}
use Rattle.reach.specs.Visits.{Circle, Off, Settling, Settled}
use Rattle.reach.proofs.Graph.{arcs_low, chain_inside}
use Rattle.reach.proofs.Settled.{chain_closed, off_alone, settled_alone}
use Rattle.depend.specs.Circles.{name_of, alike, Apart, Renamed, Named, Final}

-- ---- circles

module _ (R : ℕ → ℕ → Bool) where
  pub circle_self : (p : ℕ) → Circle R p p
  circle_self p = record { there = stay refl; back = stay refl }

  pub circle_sym : (p q : ℕ) → Circle R p q → Circle R q p
  circle_sym p q c = record { there = c.back; back = c.there }

  pub circle_join : (p q s : ℕ) → Circle R p q → Circle R q s → Circle R p s
  circle_join p q s c d = record { there = chain_join R c.there d.there; back = chain_join R d.back c.back }

-- ---- names given to a set, from the last atom to the first

module _ (n p : ℕ) (A : Levels) (x : List ℕ) where
  pub renamed_first : length x ≡ 256 → Renamed n n A p x x
  renamed_first e = record { sized = e; low = λ q h k. refl; put = λ q h k. absurd (omega arith); kept = λ q h k. absurd (omega arith) }

  -- an atom of the set
  pub renamed_put : (i : ℕ) (y : List ℕ) → 0 < i → i ≤ n → n ≤ 256 → Renamed i n A p x y → Is (A i) → Renamed (i - 1) n A p x (set y (i - 1) (p - 1))
  renamed_put i y h k m r a = record {
    sized = length-set y (i - 1) (p - 1) ∙ r.sized;
    low = λ q f g. other q f (λ e. omega (arith, e)) ∙ r.low q f (omega arith);
    put = λ q f g b. at q f g b (eq_case q i);
    kept = λ q f g b. old q f g b (eq_case q i);
  }
    where
      here : name_of (set y (i - 1) (p - 1)) i ≡ p - 1
      here = get_or-set_same y (i - 1) (p - 1) 0 (omega (arith, r.sized))

      other : (q : ℕ) → 1 ≤ q → (q ≡ i → ⊥) → name_of (set y (i - 1) (p - 1)) q ≡ name_of y q
      other q f d = get_or-set_other y (i - 1) (q - 1) (p - 1) 0 (λ e. d (omega (arith, e)))

      at : (q : ℕ) → i - 1 < q → q ≤ n → Is (A q) → (q ≡ i) ⊎ (q ≢ i) → name_of (set y (i - 1) (p - 1)) q ≡ p - 1
      at q f g b (inl e) = ap (name_of (set y (i - 1) (p - 1))) e ∙ here
      at q f g b (inr d) = other q (omega arith) d ∙ r.put q (omega (arith, d)) g b

      old : (q : ℕ) → i - 1 < q → q ≤ n → A q ≡ false → (q ≡ i) ⊎ (q ≢ i) → name_of (set y (i - 1) (p - 1)) q ≡ name_of x q
      old q f g b (inl e) = absurd (clash a (ap A (sym e) ∙ b))
      old q f g b (inr d) = other q (omega arith) d ∙ r.kept q (omega (arith, d)) g b

  -- any other
  pub renamed_pass : (i : ℕ) (y : List ℕ) → 0 < i → Renamed i n A p x y → A i ≡ false → Renamed (i - 1) n A p x y
  renamed_pass i y h r a = record {
    sized = r.sized;
    low = λ q f g. r.low q f (omega arith);
    put = λ q f g b. at q f g b (eq_case q i);
    kept = λ q f g b. old q f g b (eq_case q i);
  }
    where
      at : (q : ℕ) → i - 1 < q → q ≤ n → Is (A q) → (q ≡ i) ⊎ (q ≢ i) → name_of y q ≡ p - 1
      at q f g b (inl e) = absurd (clash (ap A (sym e) ∙ b) a)
      at q f g b (inr d) = r.put q (omega (arith, d)) g b

      old : (q : ℕ) → i - 1 < q → q ≤ n → A q ≡ false → (q ≡ i) ⊎ (q ≢ i) → name_of y q ≡ name_of x q
      old q f g b (inl e) = r.low q (omega arith) (omega (arith, e))
      old q f g b (inr d) = r.kept q (omega (arith, d)) g b

-- ---- one atom after the other

module _ (added : Bool) (n : ℕ) (P : Program) (A : AtomsIn n P) where
  abbrev R : ℕ → ℕ → Bool
  R = arcs_of added P

  pub named_first : (x : List ℕ) → n ≤ 256 → length x ≡ 256 → Apart 256 x → Named R n 0 x
  named_first x m e a = record {
    sized = e;
    own = λ q i. let w : suc (name_of x q) ≡ q = omega (arith, a (q - 1) (omega (arith, i.0, i.1)), i.0) in subst (λ (y : ℕ). Circle R y q) (sym w) (circle_self R q);
    low = λ q i. inl (a (q - 1) (omega (arith, i.0, i.1)));
    done = λ p q i j h. absurd (omega (arith, i.0));
  }

  -- nothing to do for an atom whose circle has one name
  pub named_one : (k : ℕ) (x : List ℕ) → Named R n k x → ((q : ℕ) → In n q → Circle R (k + 1) q → name_of x q ≡ name_of x (k + 1)) → Named R n (k + 1) x
  named_one k x N f = record { sized = N.sized; own = N.own; low = λ q i. later q (N.low q i); done = λ p q i j h c. at p q i j h c (eq_case p (k + 1)) }
    where
      later : (q : ℕ) → (name_of x q ≡ q - 1) ⊎ (name_of x q < k) → (name_of x q ≡ q - 1) ⊎ (name_of x q < k + 1)
      later q (inl e) = inl e
      later q (inr h) = inr (omega arith)

      at : (p q : ℕ) → In n p → In n q → p ≤ k + 1 → Circle R p q → (p ≡ k + 1) ⊎ (p ≢ k + 1) → name_of x q ≡ name_of x p
      at p q i j h c (inl e) = f q j (subst (λ (y : ℕ). Circle R y q) e c) ∙ ap (name_of x) (sym e)
      at p q i j h c (inr d) = N.done p q i j (omega (arith, d)) c

  -- as of one that is alone on it
  pub named_alone : (k : ℕ) (x : List ℕ) → Named R n k x → Off R (k + 1) → Named R n (k + 1) x
  named_alone k x N o = named_one k x N (λ q j c. ap (name_of x) (sym (off_alone R (k + 1) q o c)))

  -- nor for one whose circle has a name
  pub named_before : (k : ℕ) (x : List ℕ) → Named R n k x → k < n → name_of x (k + 1) ≢ k → Named R n (k + 1) x
  named_before k x N h d = record { sized = N.sized; own = N.own; low = λ q i. later q (N.low q i); done = λ p q i j g c. at p q i j g c (eq_case p (k + 1)) }
    where
      later : (q : ℕ) → (name_of x q ≡ q - 1) ⊎ (name_of x q < k) → (name_of x q ≡ q - 1) ⊎ (name_of x q < k + 1)
      later q (inl e) = inl e
      later q (inr h) = inr (omega arith)

      here : In n (k + 1)
      here = (omega arith, omega arith)

      lower : (name_of x (k + 1) ≡ k + 1 - 1) ⊎ (name_of x (k + 1) < k) → name_of x (k + 1) < k
      lower (inl e) = absurd (d (omega (arith, e)))
      lower (inr g) = g

      -- the atom that gives the name
      l : ℕ
      l = suc (name_of x (k + 1))

      round : Circle R l (k + 1)
      round = N.own (k + 1) here

      inside : In n l
      inside = chain_inside added n P A (k + 1) l here round.back

      first : l ≤ k
      first = lower (N.low (k + 1) here)

      at : (p q : ℕ) → In n p → In n q → p ≤ k + 1 → Circle R p q → (p ≡ k + 1) ⊎ (p ≢ k + 1) → name_of x q ≡ name_of x p
      at p q i j g c (inl e) =
          N.done l q inside j first (circle_join R l (k + 1) q round (subst (λ (y : ℕ). Circle R y q) e c)) ∙ sym (N.done l (k + 1) inside here first round) ∙ ap (name_of x) (sym e)
      at p q i j g c (inr e) = N.done p q i j (omega (arith, e)) c

  -- the circle of the next atom named by it
  pub named_on : (k : ℕ) (x y : List ℕ) (S : Levels) → Named R n k x → k < n → ((q : ℕ) → Is (S q) ↔ Circle R (k + 1) q) → Renamed 0 n S (k + 1) x y → Named R n (k + 1) y
  named_on k x y S N h exact r = record {
    sized = r.sized;
    own = λ q i. own q i (cases (S q));
    low = λ q i. low q i (cases (S q));
    done = λ p q i j g c. done p q i j g c (cases (S p)) (cases (S q));
  }
    where
      on : (q : ℕ) → In n q → Is (S q) → name_of y q ≡ k
      on q i s = let e : k + 1 - 1 ≡ k = omega arith in r.put q i.0 i.1 s ∙ e

      off : (q : ℕ) → In n q → S q ≡ false → name_of y q ≡ name_of x q
      off q i s = r.kept q i.0 i.1 s

      own : (q : ℕ) → In n q → Is (S q) ⊎ (S q ≡ false) → Circle R (suc (name_of y q)) q
      own q i (inl s) = let e : suc (name_of y q) ≡ k + 1 = omega (arith, on q i s) in subst (λ (z : ℕ). Circle R z q) (sym e) ((exact q).0 s)
      own q i (inr s) = subst (λ (z : ℕ). Circle R (suc z) q) (sym (off q i s)) (N.own q i)

      old : (q : ℕ) → (name_of x q ≡ q - 1) ⊎ (name_of x q < k) → name_of y q ≡ name_of x q → (name_of y q ≡ q - 1) ⊎ (name_of y q < k + 1)
      old q (inl e) w = inl (w ∙ e)
      old q (inr g) w = inr (omega (arith, w))

      low : (q : ℕ) → In n q → Is (S q) ⊎ (S q ≡ false) → (name_of y q ≡ q - 1) ⊎ (name_of y q < k + 1)
      low q i (inl s) = inr (omega (arith, on q i s))
      low q i (inr s) = old q (N.low q i) (off q i s)

      done : (p q : ℕ) → In n p → In n q → p ≤ k + 1 → Circle R p q → Is (S p) ⊎ (S p ≡ false) → Is (S q) ⊎ (S q ≡ false) → name_of y q ≡ name_of y p
      done p q i j g c (inl s) (inl t) = on q j t ∙ sym (on p i s)
      done p q i j g c (inl s) (inr t) = absurd (clash ((exact q).1 (circle_join R (k + 1) p q ((exact p).0 s) c)) t)
      done p q i j g c (inr s) (inl t) = absurd (clash ((exact p).1 (circle_join R (k + 1) q p ((exact q).0 t) (circle_sym R p q c))) s)
      done p q i j g c (inr s) (inr t) =
          let d : p ≢ k + 1 = λ e. clash ((exact p).1 (subst (λ (z : ℕ). Circle R z p) e (circle_self R p))) s in
          off q j t ∙ N.done p q i j (omega (arith, d)) c ∙ sym (off p i s)

  -- ---- what is done with

  pub final_first : (x : List ℕ) (B : Levels) → Settled R B → Final R n x B
  final_first x B s = record { closed = s.closed; one = λ p q i j h c. ap (name_of x) (sym (settled_alone R B s p q h c)) }

  -- atoms on no cycle besides
  pub final_more : (x : List ℕ) (B C : Levels) → Final R n x B → Settling R B C → Final R n x C
  final_more x B C f s = record { closed = s.closed; one = λ p q i j h c. at p q i j c (s.off p h) }
    where
      at : (p q : ℕ) → In n p → In n q → Circle R p q → Is (B p) ⊎ Off R p → name_of x q ≡ name_of x p
      at p q i j c (inl h) = f.one p q i j h c
      at p q i j c (inr o) = ap (name_of x) (sym (off_alone R p q o c))

  -- another circle named, by an atom that is not done with
  module _ (k : ℕ) (x y : List ℕ) (S B : Levels) (f : Final R n x B) (new : B (k + 1) ≡ false) (exact : (q : ℕ) → Is (S q) ↔ Circle R (k + 1) q) (r : Renamed 0 n S (k + 1) x y) where
    -- none of its atoms is
    apart : (q : ℕ) → Is (B q) → S q ≡ false
    apart q h = at (cases (S q))
      where
        at : Is (S q) ⊎ (S q ≡ false) → S q ≡ false
        at (inl s) = absurd (clash (chain_closed R B f.closed q (k + 1) h ((exact q).0 s).back) new)
        at (inr e) = e

    off : (q : ℕ) → In n q → Is (B q) → name_of y q ≡ name_of x q
    off q i h = r.kept q i.0 i.1 (apart q h)

    pub final_kept : Final R n y B
    final_kept = record {
      closed = f.closed;
      one = λ p q i j h c. off q j (chain_closed R B f.closed p q h c.there) ∙ f.one p q i j h c ∙ sym (off p i h);
    }

    -- and the circle with them, where it leads to nothing else
    pub final_round : (C : Levels) → C ≡ union S B → ((q : ℕ) → Chain R (k + 1) q → Is (C q)) → Final R n y C
    final_round C e all = record {
      closed = λ p q h a. next p q a (or_e (S p) (B p) (ap (λ (X : Levels). X p) (sym e) ∙ h));
      one = λ p q i j h c. one p q i j c (or_e (S p) (B p) (ap (λ (X : Levels). X p) (sym e) ∙ h));
    }
      where
        next : (p q : ℕ) → Is (R p q) → Is (S p) ⊎ Is (B p) → Is (C q)
        next p q a (inl s) = all q (go ((exact p).0 s).there a)
        next p q a (inr h) = ap (λ (X : Levels). X q) e ∙ or_r (S q) (B q) (f.closed p q h a)

        on : (q : ℕ) → In n q → Is (S q) → name_of y q ≡ k + 1 - 1
        on q i s = r.put q i.0 i.1 s

        one : (p q : ℕ) → In n p → In n q → Circle R p q → Is (S p) ⊎ Is (B p) → name_of y q ≡ name_of y p
        one p q i j c (inl s) = on q j ((exact q).1 (circle_join R (k + 1) p q ((exact p).0 s) c)) ∙ sym (on p i s)
        one p q i j c (inr h) = final_kept.one p q i j h c

  -- ---- what equal names say

  pub alike↔circle : (x : List ℕ) → Named R n n x → (p q : ℕ) → In n p → In n q → Is (alike x p q) ↔ Circle R p q
  alike↔circle x N p q i j = (
    λ h.
        let e : name_of x p ≡ name_of x q = eqb-true (name_of x p) (name_of x q) h in
        let l = suc (name_of x p) in
        circle_join R p l q (circle_sym R l p (N.own p i)) (subst (λ (y : ℕ). Circle R (suc y) q) (sym e) (N.own q j)),
    λ c. eq-eqb (name_of x p) (name_of x q) (sym (N.done p q i j i.1 c)),
  )

  -- as `meaning`'s tests ask it
  pub alike_via : (x : List ℕ) → Named R n n x → (p q : ℕ) → In n p → In n q → alike x p q ≡ via R (suc n) p q && via R (suc n) q p
  alike_via x N p q i j =
      both (alike x p q) (via R (suc n) p q && via R (suc n) q p)
      (λ h. let c = (alike↔circle x N p q i j).0 h in and_i (into c.there) (into c.back))
      (λ h. (alike↔circle x N p q i j).1 (record { there = via_chain R (suc n) p q (and_l _ _ h); back = via_chain R (suc n) q p (and_r (via R (suc n) p q) _ h) }))
    where
      into : {u v : ℕ} → Chain R u v → Is (via R (suc n) u v)
      into c = chain_via R (suc n) (arcs_low added n P A) c

-- ---- a name of its own for each atom

pub apart_on : (x : List ℕ) (i : ℕ) → i < length x → Apart i x → Apart (i + 1) (set x i i)
apart_on x i h a k m = at (eq_case k i)
  where
    at : (k ≡ i) ⊎ (k ≢ i) → get_or (set x i i) k 0 ≡ k
    at (inl e) = ap (λ (j : ℕ). get_or (set x i i) j 0) e ∙ get_or-set_same x i i 0 h ∙ sym e
    at (inr d) = get_or-set_other x i k i 0 d ∙ a k (omega (arith, d))

-- ---- one atom named or passed over

pub renamed_on : (n p : ℕ) (A : Levels) (x : List ℕ) (i : ℕ) (y z : List ℕ) → 0 < i → i ≤ n → n ≤ 256 → Renamed i n A p x y → z ≡ cond (A i) (set y (i - 1) (p - 1)) y → Renamed (i - 1) n A p x z
renamed_on n p A x i y z h k m r e = at (cases (A i))
  where
    at : Is (A i) ⊎ (A i ≡ false) → Renamed (i - 1) n A p x z
    at (inl a) = subst (Renamed (i - 1) n A p x) (sym (e ∙ ap (λ (b : Bool). cond b (set y (i - 1) (p - 1)) y) a)) (renamed_put n p A x i y h k m r a)
    at (inr a) = subst (Renamed (i - 1) n A p x) (sym (e ∙ ap (λ (b : Bool). cond b (set y (i - 1) (p - 1)) y) a)) (renamed_pass n p A x i y h r a)
