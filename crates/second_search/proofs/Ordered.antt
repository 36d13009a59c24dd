-- What the second search needs to know of its interpretations so that no index leaves its array: an atom's level is at most its number, the present level is below each
-- undefined atom, and each level is at most its choice atom. Propagation, a choice and a step back keep it. Assumes nothing.
use Prim.Native.Nat.{ℕ, zero, suc, ◌≤◌, ◌<◌}
use native.Mathlib.Omega.{arith}
use mathlib.Core.Path.{◌≡◌, refl, sym, ◌∙◌, ap}
use mathlib.Core.Logic.{◌≢◌, ◌⊎◌, inl, inr}
use mathlib.Core.Bool.{Bool, true, false}
use mathlib.Core.Option.{none, some}
use Rattle.meaning.specs.Cond.{if_lt, if_eq}
use Rattle.meaning.specs.Aggregates.{Atoms}
use Rattle.meaning.proofs.Cond.{if_lt_yes, if_lt_no, if_eq_yes, if_eq_no, eq_case, lt_case}
use Rattle.levels.specs.Levels.{Levels}
use Rattle.interpretation.specs.State.{Cell, undefined, defined, Interpretation, put, undone, lowest, with_cells}
use Rattle.interpretation.proofs.Cells.{not_defined, same_level, cell_case}
use Rattle.search.specs.Search.{Problem, opened_as, jumped_as, pinned_cell}
use Rattle.search.specs.Laws.{Laws}
use Rattle.search.proofs.Parts.{lowest_some}
use Rattle.smaller.specs.Smaller.{given, others}
use Rattle.second_search.specs.Looking.{start_cells, start_of}

pub record Ordered (n : ℕ) (s : Interpretation) : Type 0 where
  pub low : (q : ℕ) → 1 ≤ q → (v : Bool) (l : ℕ) → s.cell q ≡ defined v l → l ≤ q
  pub free : (q : ℕ) → 1 ≤ q → s.cell q ≡ undefined → s.level < q
  pub inside : (l : ℕ) → 1 ≤ l → l ≤ s.level → (l ≤ s.choice l) × (s.choice l ≤ n)

pub level_in : (n : ℕ) (s : Interpretation) → Ordered n s → s.level ≤ n
level_in n s o = at (lt_case 0 s.level)
  where
    at : (0 < s.level) ⊎ (s.level ≤ 0) → s.level ≤ n
    at (inl h) = let t = o.inside s.level h (omega arith) in let a = t.0 in let b = t.1 in omega arith
    at (inr h) = omega arith

-- ---- at the start

given_level : (b v : Bool) (l : ℕ) → pinned_cell (given b) ≡ defined v l → l ≡ 0
given_level true v l e = absurd (not_defined refl e)
given_level false v l e = sym (same_level {c = defined false 0} refl e)

start_level : (n : ℕ) (X : Atoms) (q : ℕ) (v : Bool) (l : ℕ) → start_cells n X q ≡ defined v l → l ≡ 0
unfolding others
start_level n X zero v l e = absurd (not_defined refl e)
start_level n X (suc q) v l e = at (lt_case q n)
  where
    at : (q < n) ⊎ (n ≤ q) → l ≡ 0
    at (inl h) = given_level (X (suc q)) v l (ap pinned_cell (sym (if_lt_yes q n (given (X (suc q))) none h)) ∙ e)
    at (inr h) = absurd (not_defined refl (ap pinned_cell (sym (if_lt_no q n (given (X (suc q))) none h)) ∙ e))

pub ordered_start : (n : ℕ) (X : Atoms) → Ordered n (start_of n X)
ordered_start n X = record {
  low = λ q h v l e. let z = start_level n X q v l e in omega arith;
  free = λ q h e. omega arith;
  inside = λ l h k. absurd (omega arith);
}

-- ---- propagation

pub ordered_propagated : (AS : Atoms → Type 0) (P : Problem) → Laws AS P → (n : ℕ) (s : Interpretation) (r : ℕ → Levels) → Ordered n s → Ordered n (with_cells s (P.propagate s r).cell)
ordered_propagated AS P L n s r o = record { low = λ q h v l e. was_low q h v l e (cell_case (s.cell q)); free = λ q h e. was_free q h e (cell_case (s.cell q)); inside = o.inside }
  where
    was_low : (q : ℕ) → 1 ≤ q → (v : Bool) (l : ℕ) → (P.propagate s r).cell q ≡ defined v l → (s.cell q ≡ undefined) ⊎ ((u : Bool) × (k : ℕ) × (s.cell q ≡ defined u k)) → l ≤ q
    was_low q h v l e (inl u) = let z = L.new_level s r q v l u e in let f = o.free q h u in omega arith
    was_low q h v l e (inr (u, k, d)) = o.low q h u l (d ∙ ap (defined u) (same_level (L.keeps s r q u k d) e))

    was_free : (q : ℕ) → 1 ≤ q → (P.propagate s r).cell q ≡ undefined → (s.cell q ≡ undefined) ⊎ ((u : Bool) × (k : ℕ) × (s.cell q ≡ defined u k)) → s.level < q
    was_free q h e (inl u) = o.free q h u
    was_free q h e (inr (u, k, d)) = absurd (not_defined e (L.keeps s r q u k d))

-- ---- a choice at the lowest undefined atom

pub ordered_opened : (n : ℕ) (v : Bool) (s : Interpretation) → Ordered n s → (p : ℕ) → lowest s.cell n ≡ some p → Ordered n (opened_as v p s)
ordered_opened n v s o p e =
    let w = lowest_some s.cell n p e in
    let d = o.free p w.0 w.2 in
    record {
      low = λ q h u l f. at_low d q h u l f (eq_case q p);
      free = λ q h f. at_free d w.3 q h f (eq_case q p) (lt_case q p);
      inside = λ l h k. at_inside d w.1 l h k (eq_case l (suc s.level));
    }
  where
    at_low : s.level < p → (q : ℕ) → 1 ≤ q → (u : Bool) (l : ℕ) → put p (defined v (suc s.level)) s.cell q ≡ defined u l → (q ≡ p) ⊎ (q ≢ p) → l ≤ q
    at_low d q h u l f (inl i) = let j : suc s.level ≡ l = same_level {c = defined v (suc s.level)} refl (sym (if_eq_yes q p (defined v (suc s.level)) (s.cell q) i) ∙ f) in omega arith
    at_low d q h u l f (inr m) = o.low q h u l (sym (if_eq_no q p (defined v (suc s.level)) (s.cell q) m) ∙ f)

    at_free : s.level < p → ((q : ℕ) → 1 ≤ q → q < p → (u : Bool) × (l : ℕ) × (s.cell q ≡ defined u l)) → (q : ℕ) → 1 ≤ q → put p (defined v (suc s.level)) s.cell q ≡ undefined
        → (q ≡ p) ⊎ (q ≢ p) → (q < p) ⊎ (p ≤ q) → suc s.level < q
    at_free d b q h f (inl i) k = absurd (not_defined f (if_eq_yes q p (defined v (suc s.level)) (s.cell q) i))
    at_free d b q h f (inr m) (inl k) = let x = b q h k in absurd (not_defined (sym (if_eq_no q p (defined v (suc s.level)) (s.cell q) m) ∙ f) x.2)
    at_free d b q h f (inr m) (inr k) = omega arith

    at_inside : s.level < p → p ≤ n → (l : ℕ) → 1 ≤ l → l ≤ suc s.level → (l ≡ suc s.level) ⊎ (l ≢ suc s.level)
        → (l ≤ if_eq l (suc s.level) p (s.choice l)) × (if_eq l (suc s.level) p (s.choice l) ≤ n)
    at_inside d m l h k (inl i) = let z = if_eq_yes l (suc s.level) p (s.choice l) i in (omega arith, omega arith)
    at_inside d m l h k (inr j) =
        let z = if_eq_no l (suc s.level) p (s.choice l) j in
        let t = o.inside l h (omega arith) in
        let a = t.0 in
        let b = t.1 in
        (omega arith, omega arith)

-- ---- a step back to level j + 1

pub ordered_jumped : (n : ℕ) (v : Bool) (s : Interpretation) → Ordered n s → (j : ℕ) → suc j ≤ s.level → Ordered n (jumped_as v j s)
unfolding undone
ordered_jumped n v s o j k =
    record {
      low = λ q h u l f. at_low q h u l f (eq_case q (s.choice (suc j)));
      free = λ q h f. at_free q h f (eq_case q (s.choice (suc j)));
      inside = λ l h m. at_inside l h m;
    }
  where
    kept : (q : ℕ) → 1 ≤ q → (c : Cell) → s.cell q ≡ c → (u : Bool) (l : ℕ) → undone (suc j) c ≡ defined u l → l ≤ q
    kept q h undefined e u l f = absurd (not_defined refl f)
    kept q h (defined w m) e u l f = at (lt_case m (suc j))
      where
        at : (m < suc j) ⊎ (suc j ≤ m) → l ≤ q
        at (inl b) = let z : m ≡ l = same_level {c = defined w m} refl (sym (if_lt_yes m (suc j) (defined w m) undefined b) ∙ f) in let y = o.low q h w m e in omega arith
        at (inr b) = absurd (not_defined (if_lt_no m (suc j) (defined w m) undefined b) f)

    gone : (q : ℕ) → 1 ≤ q → (c : Cell) → s.cell q ≡ c → undone (suc j) c ≡ undefined → j < q
    gone q h undefined e f = let y = o.free q h e in omega arith
    gone q h (defined w m) e f = at (lt_case m (suc j))
      where
        at : (m < suc j) ⊎ (suc j ≤ m) → j < q
        at (inl b) = absurd (not_defined f (if_lt_yes m (suc j) (defined w m) undefined b))
        at (inr b) = let y = o.low q h w m e in omega arith

    chosen : suc j ≤ s.choice (suc j)
    chosen = (o.inside (suc j) (omega arith) k).0

    at_low : (q : ℕ) → 1 ≤ q → (u : Bool) (l : ℕ) → put (s.choice (suc j)) (defined v j) (λ q. undone (suc j) (s.cell q)) q ≡ defined u l → (q ≡ s.choice (suc j)) ⊎ (q ≢ s.choice (suc j)) → l ≤ q
    at_low q h u l f (inl i) = let z : j ≡ l = same_level {c = defined v j} refl (sym (if_eq_yes q (s.choice (suc j)) (defined v j) (undone (suc j) (s.cell q)) i) ∙ f) in let y = chosen in omega arith
    at_low q h u l f (inr m) = kept q h (s.cell q) refl u l (sym (if_eq_no q (s.choice (suc j)) (defined v j) (undone (suc j) (s.cell q)) m) ∙ f)

    at_free : (q : ℕ) → 1 ≤ q → put (s.choice (suc j)) (defined v j) (λ q. undone (suc j) (s.cell q)) q ≡ undefined → (q ≡ s.choice (suc j)) ⊎ (q ≢ s.choice (suc j)) → j < q
    at_free q h f (inl i) = absurd (not_defined f (if_eq_yes q (s.choice (suc j)) (defined v j) (undone (suc j) (s.cell q)) i))
    at_free q h f (inr m) = gone q h (s.cell q) refl (sym (if_eq_no q (s.choice (suc j)) (defined v j) (undone (suc j) (s.cell q)) m) ∙ f)

    at_inside : (l : ℕ) → 1 ≤ l → l ≤ j → (l ≤ if_lt l (suc j) (s.choice l) 0) × (if_lt l (suc j) (s.choice l) 0 ≤ n)
    at_inside l h m =
        let z = if_lt_yes l (suc j) (s.choice l) 0 (omega arith) in
        let t = o.inside l h (omega arith) in
        let a = t.0 in
        let b = t.1 in
        (omega arith, omega arith)
