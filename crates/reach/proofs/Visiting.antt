-- The visit, one atom at a time: what holds of the marks and the list on the way, that it is kept, and what it comes to at the end. Assumes nothing.
use mathlib.Core.Path.{◌≡◌, sym, ap, ◌∙◌, subst}
use mathlib.Core.Logic.{◌⊎◌, inl, inr}
use mathlib.Core.Bool.{Bool}
use mathlib.Core.List.{List}
use Prim.Native.Nat.{ℕ, suc, ◌+◌, ◌≤◌, ◌<◌}
use native.Mathlib.Omega.{arith}
use lib.ListN.{get_or}
use Rattle.meaning.specs.Lists.{Is}
use Rattle.meaning.specs.Program.{In}
use Rattle.meaning.specs.Dependency.{Chain, stay, go}
use Rattle.meaning.proofs.Cond.{lt_case}
use Rattle.levels.specs.Levels.{Levels, only}
use Rattle.reach.specs.Visits.{within, Queue, Put, Visited}
use Rattle.reach.proofs.Putting.{only_i, only_e}

-- all marked atoms are reached; the arcs of those on the list before index i go to marked atoms
pub record Visiting (R : ℕ → ℕ → Bool) (p : ℕ) (A : Levels) (l : List ℕ) (k i : ℕ) : Type 0 where
  pub queue : Queue A l k
  pub begun : Is (A p)
  pub reached : (q : ℕ) → Is (A q) → Chain R p q
  pub done : (j : ℕ) → j < i → (q : ℕ) → Is (R (suc (get_or l j 0)) q) → Is (A q)
  pub upto : i ≤ k

module _ (R : ℕ → ℕ → Bool) (p : ℕ) where
  pub visit_first : (A : Levels) (l : List ℕ) (k : ℕ) → A ≡ only p → Queue (only p) l k → Visiting R p A l k 0
  visit_first A l k e Q = record {
    queue = subst (λ (X : Levels). Queue X l k) (sym e) Q;
    begun = ap (λ (X : Levels). X p) e ∙ only_i p;
    reached = λ q h. stay (sym (only_e p q (sym (ap (λ (X : Levels). X q) e) ∙ h)));
    done = λ j h. absurd (omega arith);
    upto = omega arith;
  }

  pub visit_on : (n : ℕ) → ((u q : ℕ) → Is (R u q) → In n q) → (A : Levels) (l : List ℕ) (k i : ℕ) → Visiting R p A l k i → i < k
      → (T : Levels) → T ≡ R (suc (get_or l i 0)) → (B : Levels) (m : List ℕ) (j : ℕ) → Put (within 1 n T) A l k B m j → Visiting R p B m j (i + 1)
  visit_on n inside A l k i v h T e B m j x = record {
    queue = x.queue;
    begun = x.kept p v.begun;
    reached = λ q b. at q (x.only q b);
    done = λ o g q r. met o g q r (lt_case o i);
    upto = omega (arith, x.longer);
  }
    where
      at : (q : ℕ) → Is (A q) ⊎ within 1 n T q → Chain R p q
      at q (inl a) = v.reached q a
      at q (inr t) = go (v.reached (suc (get_or l i 0)) (v.queue.each i h)) (sym (ap (λ (X : Levels). X q) e) ∙ t.2)

      next : (q : ℕ) → Is (R (suc (get_or l i 0)) q) → Is (B q)
      next q r = let w = inside (suc (get_or l i 0)) q r in x.added q (w.0, w.1, ap (λ (X : Levels). X q) e ∙ r)

      met : (o : ℕ) → o < i + 1 → (q : ℕ) → Is (R (suc (get_or m o 0)) q) → (o < i) ⊎ (i ≤ o) → Is (B q)
      met o g q r (inl d) = x.kept q (v.done o d q (subst (λ (y : ℕ). Is (R (suc y) q)) (x.same o (omega arith)) r))
      met o g q r (inr d) =
          let z : o ≡ i = omega arith in
          next q (subst (λ (y : ℕ). Is (R (suc y) q)) (ap (λ (y : ℕ). get_or m y 0) z ∙ x.same i h) r)

  -- the marked atoms are closed under arcs: they are all that p reaches
  pub visit_end : (A : Levels) (l : List ℕ) (k i : ℕ) → Visiting R p A l k i → k ≤ i → Visited R p A l k
  visit_end A l k i v h = record { queue = v.queue; exact = λ q. (v.reached q, marked q) }
    where
      closed : (u q : ℕ) → Is (A u) → Is (R u q) → Is (A q)
      closed u q a r = let w = v.queue.all u a in v.done w.0 (omega (arith, w.1)) q (subst (λ (y : ℕ). Is (R y q)) (sym w.2) r)

      marked : (q : ℕ) → Chain R p q → Is (A q)
      marked q (stay e) = subst (λ (y : ℕ). Is (A y)) e v.begun
      marked q (go {q = u} c a) = closed u q (marked u c) a
