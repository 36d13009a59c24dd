-- The start is `Ordered`, and setting an undefined atom, a choice, a jump and propagation keep a state so.
-- Assumes nothing.
use Prim.Native.Nat.{ℕ, zero, suc, ◌≤◌, ◌<◌}
use mathlib.Core.Path.{◌≡◌, refl, sym, ◌∙◌, ap, subst}
use mathlib.Core.Logic.{◌≢◌, ◌⊎◌, inl, inr}
use mathlib.Core.Bool.{Bool, true, false, cond}
use mathlib.Core.Option.{some}
use native.Mathlib.Omega.{arith}
use Rattle.meaning.specs.Cond.{if_lt, if_eq}
use Rattle.meaning.specs.Program.{Program, AtomsIn}
use Rattle.meaning.proofs.Cond.{if_lt_yes, if_lt_no, if_eq_yes, if_eq_no, eq_case, lt_case}
use Rattle.levels.specs.Levels.{Levels}
use Rattle.interpretation.specs.State.{Cell, undefined, defined, Interpretation, unset, put, set_at, opened, undone, jumped, lowest, with_cells}
use Rattle.interpretation.proofs.Cells.{not_defined, same_level}
use Rattle.steps.specs.Steps.{Verdict, settled, conflict, Work, if_settled, pass, passes, begin, propagate}
use Rattle.steps.proofs.Lift.{by_pass}
use Rattle.search.proofs.Parts.{lowest_some}
use Rattle.jumping.specs.Jumping.{Ordered}

-- p is an undefined atom of 1 .. n
pub record Open (n : ℕ) (a : ℕ → Cell) (p : ℕ) : Type 0 where
  pub low : 1 ≤ p
  pub high : p ≤ n
  pub undef : a p ≡ undefined

module _ (n : ℕ) where
  pub choice_in : (s : Interpretation) → Ordered n s → (l : ℕ) → 1 ≤ l → l ≤ s.level → (l ≤ s.choice l) × (1 ≤ s.choice l) × (s.choice l ≤ n)
  choice_in s o l h k = o.low (s.choice l) true l (o.chosen l h k)

  pub level_in : (s : Interpretation) → Ordered n s → s.level ≤ n
  level_in s o = at (lt_case 0 s.level)
    where
      at : (0 < s.level) ⊎ (s.level ≤ 0) → s.level ≤ n
      at (inl h) = omega (arith, choice_in s o s.level h (omega arith))
      at (inr h) = omega arith

  pub ordered_start : Ordered n unset
  ordered_start = record { low = λ q v l e. absurd (not_defined refl e); free = λ q h e. omega arith; chosen = λ l h k. absurd (omega arith) }

  -- an atom that was undefined got a cell of level k
  module _ (s : Interpretation) (o : Ordered n s) (p k : ℕ) (v : Bool) (h : Open n s.cell p) (k≤p : k ≤ p) where
    put_low : (q : ℕ) (w : Bool) (l : ℕ) → put p (defined v k) s.cell q ≡ defined w l → (l ≤ q) × (1 ≤ q) × (q ≤ n)
    put_low q w l e = at (eq_case q p)
      where
        at : (q ≡ p) ⊎ (q ≢ p) → (l ≤ q) × (1 ≤ q) × (q ≤ n)
        at (inl i) =
            let j : k ≡ l = same_level {c = (defined v k)} refl (sym (if_eq_yes q p (defined v k) (s.cell q) i) ∙ e) in
            let a = h.low in let b = h.high in
            (omega arith, omega arith, omega arith)
        at (inr n) = o.low q w l (sym (if_eq_no q p (defined v k) (s.cell q) n) ∙ e)

    put_free : (q : ℕ) → 1 ≤ q → put p (defined v k) s.cell q ≡ undefined → (s.level < q) × (q ≢ p) × (s.cell q ≡ undefined)
    put_free q i e = at (eq_case q p)
      where
        at : (q ≡ p) ⊎ (q ≢ p) → (s.level < q) × (q ≢ p) × (s.cell q ≡ undefined)
        at (inl j) = absurd (not_defined e (if_eq_yes q p (defined v k) (s.cell q) j))
        at (inr n) = let u = sym (if_eq_no q p (defined v k) (s.cell q) n) ∙ e in (o.free q i u, n, u)

    put_old : (q : ℕ) (w : Bool) (l : ℕ) → s.cell q ≡ defined w l → put p (defined v k) s.cell q ≡ defined w l
    put_old q w l e = if_eq_no q p (defined v k) (s.cell q) (λ i. not_defined h.undef (ap s.cell (sym i) ∙ e)) ∙ e

  pub ordered_set : (s : Interpretation) → Ordered n s → (p : ℕ) (v : Bool) → Open n s.cell p → Ordered n (set_at p v s)
  ordered_set s o p v h =
      let d = o.free p h.low h.undef in
      record {
        low = put_low s o p s.level v h (omega arith);
        free = λ q i e. (put_free s o p s.level v h (omega arith) q i e).0;
        chosen = λ l i j. put_old s o p s.level v h (omega arith) (s.choice l) true l (o.chosen l i j);
      }

  pub ordered_open : (s : Interpretation) → Ordered n s → (p : ℕ) → lowest s.cell n ≡ some p → Ordered n (opened p s)
  ordered_open s o p e =
      let w = lowest_some s.cell n p e in
      let h : Open n s.cell p = record { low = w.0; high = w.1; undef = w.2 } in
      let d = o.free p w.0 w.2 in
      record {
        low = put_low s o p (suc s.level) true h (omega arith);
        free = λ q i u. above w q i (put_free s o p (suc s.level) true h (omega arith) q i u) (lt_case q p);
        chosen = λ l i j. at h (omega arith) l i j (eq_case l (suc s.level));
      }
    where
      above : (1 ≤ p) × (p ≤ n) × (s.cell p ≡ undefined) × ((q : ℕ) → 1 ≤ q → q < p → (v : Bool) × (l : ℕ) × (s.cell q ≡ defined v l))
          → (q : ℕ) → 1 ≤ q → (s.level < q) × (q ≢ p) × (s.cell q ≡ undefined) → (q < p) ⊎ (p ≤ q) → suc s.level < q
      above w q i u (inl g) = let x = w.3 q i g in absurd (not_defined u.2 x.2)
      above w q i u (inr g) = let d = o.free p w.0 w.2 in let m = u.1 in omega arith

      at : Open n s.cell p → suc s.level ≤ p → (l : ℕ) → 1 ≤ l → l ≤ suc s.level → (l ≡ suc s.level) ⊎ (l ≢ suc s.level)
          → put p (defined true (suc s.level)) s.cell (if_eq l (suc s.level) p (s.choice l)) ≡ defined true l
      at h g l i j (inl e) =
          ap (put p (defined true (suc s.level)) s.cell) (if_eq_yes l (suc s.level) p (s.choice l) e)
          ∙ if_eq_yes p p (defined true (suc s.level)) (s.cell p) refl ∙ ap (defined true) (sym e)
      at h g l i j (inr m) =
          ap (put p (defined true (suc s.level)) s.cell) (if_eq_no l (suc s.level) p (s.choice l) m)
          ∙ put_old s o p (suc s.level) true h g (s.choice l) true l (o.chosen l i (omega (arith, m)))

  pub ordered_jump : (s : Interpretation) → Ordered n s → (j : ℕ) → suc j ≤ s.level → Ordered n (jumped j s)
  unfolding undone
  ordered_jump s o j h0 =
      record { low = λ q v l e. low q v l e (eq_case q (s.choice (suc j))) (s.cell q) refl; free = λ q h e. free q h e (eq_case q (s.choice (suc j))) (s.cell q) refl; chosen = λ l h k. chosen l h k }
    where
      kept : (v : Bool) (l : ℕ) (w : Bool) (k : ℕ) → undone (suc j) (defined v l) ≡ defined w k → (l ≡ k) × (l < (suc j))
      kept v l w k e = at (lt_case l (suc j))
        where
          at : (l < (suc j)) ⊎ ((suc j) ≤ l) → (l ≡ k) × (l < (suc j))
          at (inl g) = (same_level {c = (defined v l)} refl (sym (if_lt_yes l (suc j) (defined v l) undefined g) ∙ e), g)
          at (inr g) = absurd (not_defined refl (sym (if_lt_no l (suc j) (defined v l) undefined g) ∙ e))

      gone : (v : Bool) (l : ℕ) → undone (suc j) (defined v l) ≡ undefined → (suc j) ≤ l
      gone v l e = at (lt_case l (suc j))
        where
          at : (l < (suc j)) ⊎ ((suc j) ≤ l) → (suc j) ≤ l
          at (inl g) = absurd (not_defined e (if_lt_yes l (suc j) (defined v l) undefined g))
          at (inr g) = g

      low : (q : ℕ) (v : Bool) (l : ℕ) → put (s.choice (suc j)) (defined false j) (λ q. undone (suc j) (s.cell q)) q ≡ defined v l → (q ≡ s.choice (suc j)) ⊎ (q ≢ s.choice (suc j)) → (c : Cell) → s.cell q ≡ c → (l ≤ q) × (1 ≤ q) × (q ≤ n)
      low q v l e (inl h) c d =
          let k : j ≡ l = same_level {c = (defined false j)} refl (sym (if_eq_yes q (s.choice (suc j)) (defined false j) (undone (suc j) (s.cell q)) h) ∙ e) in
          let w = choice_in s o (suc j) (omega arith) h0 in
          (omega arith, omega arith, omega arith)
      low q v l e (inr n) undefined d = absurd (not_defined refl (ap (undone (suc j)) (sym d) ∙ sym (if_eq_no q (s.choice (suc j)) (defined false j) (undone (suc j) (s.cell q)) n) ∙ e))
      low q v l e (inr n) (defined w k) d =
          let x = kept w k v l (ap (undone (suc j)) (sym d) ∙ sym (if_eq_no q (s.choice (suc j)) (defined false j) (undone (suc j) (s.cell q)) n) ∙ e) in
          let y = o.low q w k d in
          (omega arith, omega arith, omega arith)

      free : (q : ℕ) → 1 ≤ q → put (s.choice (suc j)) (defined false j) (λ q. undone (suc j) (s.cell q)) q ≡ undefined → (q ≡ s.choice (suc j)) ⊎ (q ≢ s.choice (suc j)) → (c : Cell) → s.cell q ≡ c → j < q
      free q h e (inl g) c d = absurd (not_defined e (if_eq_yes q (s.choice (suc j)) (defined false j) (undone (suc j) (s.cell q)) g))
      free q h e (inr n) undefined d = let w = o.free q h d in omega arith
      free q h e (inr n) (defined w k) d =
          let x = gone w k (ap (undone (suc j)) (sym d) ∙ sym (if_eq_no q (s.choice (suc j)) (defined false j) (undone (suc j) (s.cell q)) n) ∙ e) in
          let y = o.low q w k d in
          omega arith

      chosen : (l : ℕ) → 1 ≤ l → l ≤ j → put (s.choice (suc j)) (defined false j) (λ q. undone (suc j) (s.cell q)) (if_lt l (suc j) (s.choice l) 0) ≡ defined true l
      chosen l h k =
          let c = o.chosen l h (omega arith) in
          let n : s.choice l ≢ s.choice (suc j) = λ e. (let z = same_level {c = s.cell (s.choice (suc j))} (ap s.cell (sym e) ∙ c) (o.chosen (suc j) (omega arith) h0) in omega arith) in
          ap (put (s.choice (suc j)) (defined false j) (λ q. undone (suc j) (s.cell q))) (if_lt_yes l (suc j) (s.choice l) 0 (omega arith)) ∙ if_eq_no (s.choice l) (s.choice (suc j)) (defined false j) (undone (suc j) (s.cell (s.choice l))) n
          ∙ ap (undone (suc j)) c ∙ if_lt_yes l (suc j) (defined true l) undefined (omega arith)

  -- ---- propagation

  -- the interpretation of a working state, whose choices are those of the search
  abbrev within : (ℕ → ℕ) → Work → Interpretation
  within choice w = record { level = w.level; choice = choice; cell = w.cell }

  module _ (choice : ℕ → ℕ) (P : Program) (A : AtomsIn n P) where
    abbrev Keeps : Work → Work → Type 0
    Keeps w u = (u.level ≡ w.level) × (Ordered n (within choice w) → Ordered n (within choice u))

    pass_keeps : (w : Work) → Keeps w (pass P n w)
    pass_keeps w =
        by_pass n Keeps (λ w. (refl, λ o. o)) (λ w u x f g. (g.0 ∙ f.0, λ o. g.1 (f.1 o)))
        (λ p v R w u i. (refl, λ o. ordered_set (within choice w) o p v (record { low = i.0; high = i.1; undef = u })))
        (λ C w. (refl, λ o. record { low = o.low; free = o.free; chosen = o.chosen })) P A w

    passes_keep : (f : ℕ) (w : Work) → Keeps w (passes P n f w)
    passes_keep zero w = (refl, λ o. o)
    passes_keep (suc f) w = at (pass P n w).verdict (pass P n w).changed (pass_keeps w) (passes_keep f (pass P n w))
      where
        at : (v : Verdict) (b : Bool) → Keeps w (pass P n w) → Keeps (pass P n w) (passes P n f (pass P n w)) → Keeps w (if_settled v (cond b (passes P n f (pass P n w)) (pass P n w)) (pass P n w))
        at settled true h k = (k.0 ∙ h.0, λ o. k.1 (h.1 o))
        at settled false h k = h
        at (conflict C) b h k = h

  pub propagate_ordered : (P : Program) → AtomsIn n P → (i : Interpretation) (r : ℕ → Levels) → Ordered n i → Ordered n (with_cells i (propagate P n i r).cell)
  unfolding propagate
  propagate_ordered P A i r o =
      let k = passes_keep i.choice P A (suc n) (begin i r) in
      subst (λ (l : ℕ). Ordered n (record { level = l; choice = i.choice; cell = (passes P n (suc n) (begin i r)).cell })) k.0 (k.1 (record { low = o.low; free = o.free; chosen = o.chosen }))
