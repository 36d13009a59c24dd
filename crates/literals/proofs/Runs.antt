-- Count and sum: the runs of `specs/Settled.antt` have the reasons of what settles the aggregate.
--   adds_law     the union over `settling_of`'s elements
-- Assumes nothing.
use mathlib.Core.Path.{◌≡◌, refl, sym, ◌∙◌, ap, ap₂, fun_ext}
use mathlib.Core.Logic.{◌⊎◌, inl, inr}
use mathlib.Core.Bool.{Bool, true, false, cond, ◌||◌, beq}
use mathlib.Core.List.{List, [], ◌∷◌, ◌++◌}
use Prim.Native.Nat.{ℕ, ◌+◌, ◌-◌}
use native.Mathlib.Omega.{arith}
use Rattle.meaning.specs.Lists.{Is, cons_if}
use Rattle.meaning.specs.Program.{Element, Aggregate}
use Rattle.meaning.specs.declared.Comparison.{Comparison}
use Rattle.meaning.proofs.Tools.{clash, cases}
use Rattle.levels.specs.Levels.{Levels, union}
use Rattle.interpretation.specs.State.{Cell, undefined, defined, truth_of}
use Rattle.valuing.specs.Settling.{is_false, is_defined, atoms_that, settling_of}
use Rattle.valuing.specs.Reasons.{reasons_at}
use Rattle.valuing.specs.Walk.{adds, weight, add_if, drop_if, worth, whole, alike, Step, walk, keeps, true_step, false_step, settling_walk, atoms_differ}
use Rattle.valuing.proofs.Walk.{append_nil, atoms_snoc, walk_law}
use Rattle.literals.specs.Elements.{limit_of, weight_of, part_of}
use Rattle.literals.specs.Settled.{join_if, of_sign, alike_by, whole_of, bound_by, Told, pick_told, run_of, or_else, adds_of}
use Rattle.literals.proofs.Together.{union_assoc, union_none, union_turn}
use Rattle.literals.proofs.Amounts.{passes_limit}

-- ---- unions

or_both : (t f b : Bool) → ((t || f) || b) ≡ ((t || b) || (f || b))
or_both true f b = refl
or_both false true true = refl
or_both false true false = refl
or_both false false true = refl
or_both false false false = refl

union_both : (T F B : Levels) → union (union T F) B ≡ union (union T B) (union F B)
union_both T F B = fun_ext (λ l. or_both (T l) (F l) (B l))

module _ (r : ℕ → Levels) where
  -- an atom more in front
  pub joins : (b : Bool) (p : ℕ) (S : List ℕ) (A : Levels) → union (reasons_at r (cons_if b p S)) A ≡ union (reasons_at r S) (join_if b (r p) A)
  joins true p S A = union_assoc (r p) (reasons_at r S) A ∙ union_turn (r p) (reasons_at r S) A
  joins false p S A = refl

  reasons_at_append : (S T : List ℕ) → reasons_at r (S ++ T) ≡ union (reasons_at r S) (reasons_at r T)
  reasons_at_append [] T = refl
  reasons_at_append (p ∷ S) T = ap (union (r p)) (reasons_at_append S T) ∙ sym (union_assoc (r p) (reasons_at r S) (reasons_at r T))

  -- an atom more behind
  behind : (S : List ℕ) (b : Bool) (p : ℕ) (B : Levels) → union (reasons_at r (S ++ cons_if b p [])) B ≡ join_if b (r p) (union (reasons_at r S) B)
  behind S b p B = ap (λ (R : Levels). union R B) (reasons_at_append S (cons_if b p [])) ∙ at b
    where
      at : (b : Bool) → union (union (reasons_at r S) (reasons_at r (cons_if b p []))) B ≡ join_if b (r p) (union (reasons_at r S) B)
      at true =
          ap (λ (R : Levels). union (union (reasons_at r S) R) B) (union_none (r p)) ∙ union_assoc (reasons_at r S) (r p) B
          ∙ union_turn (reasons_at r S) (r p) B
      at false = ap (λ (R : Levels). union R B) (union_none (reasons_at r S))

  -- the defined elements are the true ones and the false ones
  all_split : (a : ℕ → Cell) (es : List Element) → reasons_at r (atoms_that is_defined a es) ≡ union (reasons_at r (atoms_that truth_of a es)) (reasons_at r (atoms_that is_false a es))
  all_split a [] = refl
  all_split a (e ∷ es) = at (a e.atom) (all_split a es)
    where
      D : Levels
      D = reasons_at r (atoms_that is_defined a es)

      T : Levels
      T = reasons_at r (atoms_that truth_of a es)

      F : Levels
      F = reasons_at r (atoms_that is_false a es)

      at : (c : Cell) → reasons_at r (atoms_that is_defined a es) ≡ union (reasons_at r (atoms_that truth_of a es)) (reasons_at r (atoms_that is_false a es))
          → reasons_at r (cons_if (is_defined c) e.atom (atoms_that is_defined a es))
          ≡ union (reasons_at r (cons_if (truth_of c) e.atom (atoms_that truth_of a es))) (reasons_at r (cons_if (is_false c) e.atom (atoms_that is_false a es)))
      at undefined h = h
      at (defined true l) h = ap (union (r e.atom)) h ∙ sym (union_assoc (r e.atom) T F)
      at (defined false l) h = ap (union (r e.atom)) h ∙ union_turn (r e.atom) T F

-- ---- a run that settles nothing has all elements of its sign

module _ (sign count : Bool) (c : Comparison) (k high : ℕ) (a : ℕ → Cell) (r : ℕ → Levels) where
  run_open : (es : List Element) (x : ℕ) (A : Levels) → (run_of sign count c k high a r es x A).settled ≡ false
      → (run_of sign count c k high a r es x A).reason ≡ union (reasons_at r (atoms_that (of_sign sign) a es)) A
  run_open [] x A h = refl
  run_open (e ∷ es) x A h =
      at (bound_by sign c k high x) h
      (run_open es (x + part_of (of_sign sign (a e.atom)) (weight_of count e.value)) (join_if (of_sign sign (a e.atom)) (r e.atom) A))
    where
      on : Bool
      on = of_sign sign (a e.atom)

      rest : Told
      rest = run_of sign count c k high a r es (x + part_of (of_sign sign (a e.atom)) (weight_of count e.value)) (join_if (of_sign sign (a e.atom)) (r e.atom) A)

      at : (b : Bool) → (pick_told b (record { settled = true; reason = A }) rest).settled ≡ false
          → (rest.settled ≡ false → rest.reason ≡ union (reasons_at r (atoms_that (of_sign sign) a es)) (join_if (of_sign sign (a e.atom)) (r e.atom) A))
          → (pick_told b (record { settled = true; reason = A }) rest).reason ≡ union (reasons_at r (cons_if on e.atom (atoms_that (of_sign sign) a es))) A
      at true q next = absurd (clash refl q)
      at false q next =
          next q ∙ sym (joins r on e.atom (atoms_that (of_sign sign) a es) A)

  -- one element more, for the code
  pub run_on : (e : Element) (es : List Element) (x : ℕ) (A : Levels) → bound_by sign c k high x ≡ false
      → run_of sign count c k high a r (e ∷ es) x A
      ≡ run_of sign count c k high a r es (x + part_of (of_sign sign (a e.atom)) (weight_of count e.value)) (join_if (of_sign sign (a e.atom)) (r e.atom) A)
  run_on e es x A h =
      ap (λ (b : Bool). pick_told b (record { settled = true; reason = A }) (run_of sign count c k high a r es (x + part_of (of_sign sign (a e.atom)) (weight_of count e.value)) (join_if (of_sign sign (a e.atom)) (r e.atom) A))) h

  pub run_here : (e : Element) (es : List Element) (x : ℕ) (A : Levels) → bound_by sign c k high x ≡ true
      → run_of sign count c k high a r (e ∷ es) x A ≡ record { settled = true; reason = A }
  run_here e es x A h =
      ap (λ (b : Bool). pick_told b (record { settled = true; reason = A }) (run_of sign count c k high a r es (x + part_of (of_sign sign (a e.atom)) (weight_of count e.value)) (join_if (of_sign sign (a e.atom)) (r e.atom) A))) h

-- ---- the walk of crate `valuing`, with reasons

module _ (a : ℕ → Cell) (r : ℕ → Levels) (B : Levels) (g : Aggregate) (count : Bool) (weights : (v : ℕ) → weight g.function v ≡ weight_of count v) where
  abbrev c : Comparison
  c = g.comparison

  abbrev k : ℕ
  k = limit_of g.threshold

  abbrev H : ℕ
  H = whole_of count g.elements

  alike_is : (low high : ℕ) → alike g low high ≡ alike_by c k low high
  alike_is low high = ap₂ beq (passes_limit c g.threshold low) (passes_limit c g.threshold high)

  whole_from : (es : List Element) → worth g.function (λ e. true) es ≡ whole_of count es
  whole_from [] = refl
  whole_from (e ∷ es) =
      let h = whole_from es in
      let q = weights e.value in
      omega arith

  pick : (b : Bool) (S other : List ℕ) (A : Levels) → union (reasons_at r S) B ≡ A → union (reasons_at r (cond b S other)) B ≡ cond b A (union (reasons_at r other) B)
  pick true S other A q = q
  pick false S other A q = refl

  or_else_pick : (b : Bool) (A O : Levels) (t : Told) → cond b A (or_else t O) ≡ or_else (pick_told b (record { settled = true; reason = A }) t) O
  or_else_pick true A O t = refl
  or_else_pick false A O t = refl

  module _ (sign : Bool) (low high : ℕ → ℕ) (ls hs : Step)
      (bnd : (x : ℕ) → alike g (low x) (high x) ≡ bound_by sign c k H x)
      (lowOne : (e : Element) (x : ℕ) → ls e (low x) ≡ low (x + part_of (of_sign sign (a e.atom)) (weight_of count e.value)))
      (highOne : (e : Element) (x : ℕ) → hs e (high x) ≡ high (x + part_of (of_sign sign (a e.atom)) (weight_of count e.value))) where
    run_walk : (rest before : List Element) (x : ℕ) (A : Levels) (other : List ℕ) → union (reasons_at r (atoms_that (of_sign sign) a before)) B ≡ A
        → union (reasons_at r (walk a g (of_sign sign) ls hs before rest (low x) (high x) other)) B ≡ or_else (run_of sign count c k H a r rest x A) (union (reasons_at r other) B)
    run_walk [] before x A other q =
        pick (alike g (low x) (high x)) (atoms_that (of_sign sign) a before) other A q ∙ ap (λ (b : Bool). cond b A (union (reasons_at r other) B)) (bnd x)
    run_walk (e ∷ rest) before x A other q =
        pick (alike g (low x) (high x)) (atoms_that (of_sign sign) a before) (walk a g (of_sign sign) ls hs (before ++ (e ∷ [])) rest (ls e (low x)) (hs e (high x)) other) A q
        ∙ ap (λ (b : Bool). cond b A (union (reasons_at r (walk a g (of_sign sign) ls hs (before ++ (e ∷ [])) rest (ls e (low x)) (hs e (high x)) other)) B)) (bnd x)
        ∙ ap (cond (bound_by sign c k H x) A)
        (ap₂ (λ (l h : ℕ). union (reasons_at r (walk a g (of_sign sign) ls hs (before ++ (e ∷ [])) rest l h other)) B) (lowOne e x) (highOne e x)
        ∙ run_walk rest (before ++ (e ∷ [])) (x + part_of (of_sign sign (a e.atom)) (weight_of count e.value)) (join_if (of_sign sign (a e.atom)) (r e.atom) A) other more)
        ∙ or_else_pick (bound_by sign c k H x) A (union (reasons_at r other) B)
        (run_of sign count c k H a r rest (x + part_of (of_sign sign (a e.atom)) (weight_of count e.value)) (join_if (of_sign sign (a e.atom)) (r e.atom) A))
      where
        more : union (reasons_at r (atoms_that (of_sign sign) a (before ++ (e ∷ [])))) B ≡ join_if (of_sign sign (a e.atom)) (r e.atom) A
        more =
            ap (λ (S : List ℕ). union (reasons_at r S) B) (sym (append_nil (atoms_that (of_sign sign) a (before ++ (e ∷ [])))) ∙ atoms_snoc (of_sign sign) a before e [])
            ∙ behind r (atoms_that (of_sign sign) a before) (of_sign sign (a e.atom)) e.atom B ∙ ap (join_if (of_sign sign (a e.atom)) (r e.atom)) q

  -- true elements raise the least bound
  up_walk : (other : List ℕ) → union (reasons_at r (walk a g truth_of (true_step a g.function) keeps [] g.elements 0 (whole g) other)) B
      ≡ or_else (run_of true count c k H a r g.elements 0 B) (union (reasons_at r other) B)
  up_walk other =
      ap (λ (h : ℕ). union (reasons_at r (walk a g truth_of (true_step a g.function) keeps [] g.elements 0 h other)) B) (whole_from g.elements)
      ∙ run_walk true (λ x. x) (λ x. H) (true_step a g.function) keeps (λ x. alike_is x H) raises (λ e x. refl) g.elements [] 0 B other refl
    where
      raises : (e : Element) (x : ℕ) → add_if (truth_of (a e.atom)) (weight g.function e.value) x ≡ x + part_of (truth_of (a e.atom)) (weight_of count e.value)
      raises e x = let q = weights e.value in at (truth_of (a e.atom))
        where
          at : (b : Bool) → add_if b (weight g.function e.value) x ≡ x + part_of b (weight_of count e.value)
          at true = let q = weights e.value in omega arith
          at false = omega arith

  -- false ones lower the greatest
  down_walk : (other : List ℕ) → union (reasons_at r (walk a g is_false keeps (false_step a g.function) [] g.elements 0 (whole g) other)) B
      ≡ or_else (run_of false count c k H a r g.elements 0 B) (union (reasons_at r other) B)
  down_walk other =
      ap (λ (h : ℕ). union (reasons_at r (walk a g is_false keeps (false_step a g.function) [] g.elements 0 h other)) B) top
      ∙ run_walk false (λ x. 0) (λ x. H - x) keeps (false_step a g.function) (λ x. alike_is 0 (H - x)) (λ e x. refl) lowers g.elements [] 0 B other refl
    where
      top : whole g ≡ H - 0
      top = let h = whole_from g.elements in omega arith

      lowers : (e : Element) (x : ℕ) → drop_if (is_false (a e.atom)) (weight g.function e.value) (H - x) ≡ H - (x + part_of (is_false (a e.atom)) (weight_of count e.value))
      lowers e x = at (is_false (a e.atom))
        where
          at : (b : Bool) → drop_if b (weight g.function e.value) (H - x) ≡ H - (x + part_of b (weight_of count e.value))
          at true = let q = weights e.value in omega arith
          at false = omega arith

  -- THE LAW
  pub adds_law : Is (adds g.function) → Is (atoms_differ g.elements) → union (reasons_at r (settling_of a g)) B ≡ adds_of count c k a r g.elements B
  unfolding settling_walk
  adds_law A D =
      ap (λ (S : List ℕ). union (reasons_at r S) B) (sym (walk_law a g A D))
      ∙ up_walk (walk a g is_false keeps (false_step a g.function) [] g.elements 0 (whole g) (atoms_that is_defined a g.elements))
      ∙ ap (or_else up) (down_walk (atoms_that is_defined a g.elements))
      ∙ last (cases up.settled) (cases down.settled)
    where
      up : Told
      up = run_of true count c k H a r g.elements 0 B

      down : Told
      down = run_of false count c k H a r g.elements 0 B

      every : Levels
      every = union (reasons_at r (atoms_that is_defined a g.elements)) B

      both : up.settled ≡ false → down.settled ≡ false → every ≡ union up.reason down.reason
      both h q =
          ap (λ (R : Levels). union R B) (all_split r a g.elements)
          ∙ union_both (reasons_at r (atoms_that truth_of a g.elements)) (reasons_at r (atoms_that is_false a g.elements)) B
          ∙ sym (ap₂ union (run_open true count c k H a r g.elements 0 B h) (run_open false count c k H a r g.elements 0 B q))

      last : Is up.settled ⊎ (up.settled ≡ false) → Is down.settled ⊎ (down.settled ≡ false)
          → or_else up (or_else down every) ≡ or_else up (or_else down (union up.reason down.reason))
      last (inl h) q = ap (λ (b : Bool). cond b up.reason (or_else down every)) h ∙ sym (ap (λ (b : Bool). cond b up.reason (or_else down (union up.reason down.reason))) h)
      last (inr h) (inl q) =
          ap (or_else up) (ap (λ (b : Bool). cond b down.reason every) q ∙ sym (ap (λ (b : Bool). cond b down.reason (union up.reason down.reason)) q))
      last (inr h) (inr q) = ap (λ (R : Levels). or_else up (or_else down R)) (both h q)
