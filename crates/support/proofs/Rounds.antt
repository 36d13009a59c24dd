-- How the code walks the rules at a list of places, one rule at a time. Assumes nothing.
use Rattle.std.specs.Prelude.{Some, None}
use Rattle.std.specs.Prelude as code
use Rattle.std.specs.Prelude.{MatchOption, unwrap_or}
use Rattle.std.specs.List.{AllWithin, HoldsAt}
use Rattle.std.proofs.lemmas.List.{get_or_default}
use Rattle.std.proofs.lemmas.Iterator.{index_from_first}
use Prim.Native.Nat.{ℕ, zero, suc, ◌+◌, ◌≤◌, ◌<◌}
use borrow.Author.Tests.{lt-ltb, le-ltb}
use native.Mathlib.Numerals.{add-one}
use native.Mathlib.Omega.{arith}
use mathlib.Core.Path.{◌≡◌, refl, sym, ap, ◌∙◌, subst, fun_ext}
use mathlib.Core.Bool.{Bool, true, false, cond, ◌||◌}
use mathlib.Core.Option.{Option, none, some}
use mathlib.Core.List.{List, [], ◌∷◌, map}
use lib.Dec.{ltb}
use lib.IntN.{ℤ}
use lib.ListN.{length, get_or, drop, length-drop, drop_of_length-le}
use lib.Seq.{drop-cons, get_or-drop}
use Rattle.meaning.specs.Lists.{has}
use Rattle.meaning.specs.Program.{Rule, Program}
use Rattle.levels.specs.Levels.{Levels, no_levels, union}
use Rattle.interpretation.specs.State.{Cell}
use Rattle.layout.specs.Layout.{rule_at, RuleLies, program_of, Laid}
use Rattle.layout.specs.declared.Table.{Table}
use Rattle.heads.specs.Heads.{places_of, with_head}
use Rattle.heads.proofs.Laws.{places_lie, with_lie, with_has, rules_at_lem}
use Rattle.valuing.specs.Values.{Lit}
use Rattle.valuing.specs.Reasons.{reason_of}
use Rattle.support.specs.declared.Ask.TheVariants.{Conflict}
use Rattle.support.specs.Asking.{witness_of, Candidates, skipped, some_rule, sole_by, true_by, joined_by, blamed_by, blame_by, blame_of}

-- ---- which rules: those with p in the head, and what is left of them

pub candidates : (t : List ℤ) (tb : Table) → Laid t tb → (p : ℕ) → Candidates t tb p (with_head t p (places_of t tb))
candidates t tb laid p = record {
  lie = with_lie tb t p (places_of t tb) (places_lie tb t tb.first tb.rules laid.rules_lie);
  headed = with_has t p (places_of t tb);
}

pub candidates_left : (t : List ℤ) (tb : Table) (p i : ℕ) (l : List ℕ) → Candidates t tb p l → Candidates t tb p (drop i l)
candidates_left t tb p i l h = record {
  lie = λ k n. subst (RuleLies tb.atoms tb.aggregates t) (sym (get_or-drop i l k 0)) (h.lie (i + k) (more k n));
  headed = λ k n. ap (λ (j : ℕ). has p (rule_at t j).head) (get_or-drop i l k 0) ∙ h.headed (i + k) (more k n);
}
  where
    more : (k : ℕ) → k < length (drop i l) → i + k < length l
    more k n = let e = length-drop i l in omega (arith, n, e)

-- what is known of each
pub candidate_at : (t : List ℤ) (tb : Table) (p : ℕ) (l : List ℕ) → Candidates t tb p l → (k i : ℕ) → k < length l → i ≡ get_or l k i
    → RuleLies tb.atoms tb.aggregates t i × (has p (rule_at t i).head ≡ true)
candidate_at t tb p l h k i n e =
    subst (λ (j : ℕ). RuleLies tb.atoms tb.aggregates t j × (has p (rule_at t j).head ≡ true)) (sym (e ∙ get_or_default l k i 0 n)) (h.lie k n, h.headed k n)

-- ---- the first that passes

module _ (f : Rule → Bool) (t : List ℤ) where
  skip_cons : (i : ℕ) (l : List ℕ) (b : Bool) → f (rule_at t i) ≡ b → skipped f t (i ∷ l) ≡ elim b [ true ↦ zero | false ↦ suc (skipped f t l) ]
  unfolding skipped
  skip_cons i l b e = ap (λ (c : Bool). elim c [ true ↦ zero | false ↦ suc (skipped f t l) ]) e

  skip_nil : skipped f t [] ≡ 0
  unfolding skipped
  skip_nil = refl

  -- the first index that passes, or the length
  pub skipped_by : (l : List ℕ) (r : code.Option ℕ)
      → MatchOption r (AllWithin (λ (i : ℕ). f (rule_at t i) ≡ false) l 0 (length l)) (λ k. (k < length l) × HoldsAt (λ (i : ℕ). f (rule_at t i) ≡ true) l k × AllWithin (λ (i : ℕ). f (rule_at t i) ≡ false) l 0 k)
      → unwrap_or r (length l) ≡ skipped f t l
  skipped_by l r m =
      sym (index_from_first (skipped f t) (λ (i : ℕ). f (rule_at t i) ≡ true) (λ (i : ℕ). f (rule_at t i) ≡ false) skip_nil
      (λ x xs e. skip_cons x xs true e) (λ x xs e. skip_cons x xs false e ∙ sym (add-one (skipped f t xs))) l r m)

  some_less : (l : List ℕ) → some_rule f t l ≡ true → skipped f t l < length l
  unfolding skipped some_rule
  some_less [] e = absurd (let z : ◌≡◌ {A = ℕ} 0 1 = cc in omega arith)
  some_less (i ∷ l) e = at (f (rule_at t i)) e (some_less l)
    where
      at : (b : Bool) → elim b [ true ↦ true | false ↦ some_rule f t l ] ≡ true → (some_rule f t l ≡ true → skipped f t l < length l)
          → elim b [ true ↦ zero | false ↦ suc (skipped f t l) ] < suc (length l)
      at true e g = omega arith
      at false e g = let h = g e in omega (arith, h)

  none_all : (l : List ℕ) → some_rule f t l ≡ false → length l ≤ skipped f t l
  unfolding skipped some_rule
  none_all [] e = omega arith
  none_all (i ∷ l) e = at (f (rule_at t i)) e (none_all l)
    where
      at : (b : Bool) → elim b [ true ↦ true | false ↦ some_rule f t l ] ≡ false → (some_rule f t l ≡ false → length l ≤ skipped f t l)
          → suc (length l) ≤ elim b [ true ↦ zero | false ↦ suc (skipped f t l) ]
      at true e g = absurd (let z : ◌≡◌ {A = ℕ} 0 1 = cc in omega arith)
      at false e g = let h = g e in omega (arith, h)

  pub some_skipped : (l : List ℕ) → ltb (skipped f t l) (length l) ≡ some_rule f t l
  some_skipped l = at (some_rule f t l) refl
    where
      at : (b : Bool) → some_rule f t l ≡ b → ltb (skipped f t l) (length l) ≡ b
      at true e = lt-ltb (skipped f t l) (length l) (some_less l e)
      at false e = le-ltb (skipped f t l) (length l) (none_all l e)

  -- ---- what is asked at a true atom

  module _ (g : Rule → code.Option (ℕ × Bool)) where
    pub true_at : (l : List ℕ) (k : ℕ) → skipped f t l ≡ k → k < length l
        → true_by f g t l ≡ sole_by (get_or l k 0) (some_rule f t (drop (suc k) l)) (g (rule_at t (get_or l k 0)))
    unfolding skipped true_by
    true_at [] k e h = absurd (omega (arith, h))
    true_at (i ∷ l) k e h = at (f (rule_at t i)) k e h (true_at l)
      where
        at : (b : Bool) (k : ℕ) → elim b [ true ↦ zero | false ↦ suc (skipped f t l) ] ≡ k → k < suc (length l)
            → ((j : ℕ) → skipped f t l ≡ j → j < length l → true_by f g t l ≡ sole_by (get_or l j 0) (some_rule f t (drop (suc j) l)) (g (rule_at t (get_or l j 0))))
            → elim b [ true ↦ sole_by i (some_rule f t l) (g (rule_at t i)) | false ↦ true_by f g t l ]
            ≡ sole_by (get_or (i ∷ l) k 0) (some_rule f t (drop (suc k) (i ∷ l))) (g (rule_at t (get_or (i ∷ l) k 0)))
        at true zero e h r = refl
        at true (suc k) e h r = absurd (omega (arith, e))
        at false zero e h r = absurd (omega (arith, e))
        at false (suc k) e h r = r k (omega (arith, e)) (omega (arith, h))

    pub true_none : (l : List ℕ) → length l ≤ skipped f t l → true_by f g t l ≡ Conflict
    unfolding skipped true_by
    true_none [] h = refl
    true_none (i ∷ l) h = at (f (rule_at t i)) h (true_none l)
      where
        at : (b : Bool) → suc (length l) ≤ elim b [ true ↦ zero | false ↦ suc (skipped f t l) ] → (length l ≤ skipped f t l → true_by f g t l ≡ Conflict)
            → elim b [ true ↦ sole_by i (some_rule f t l) (g (rule_at t i)) | false ↦ true_by f g t l ] ≡ Conflict
        at true h r = absurd (omega (arith, h))
        at false h r = r (omega (arith, h))

-- ---- the blame

module _ (x : Rule → Option Lit) (y : Lit → Levels) (p : ℕ) (t : List ℤ) where
  -- of the rules at l
  abbrev pub blame_among : List ℕ → Levels
  blame_among l = blame_by x y p (map (rule_at t) l)

  blame_cons : (i : ℕ) (l : List ℕ) → blame_among (i ∷ l) ≡ blamed_by x y p (rule_at t i) (blame_among l)
  unfolding blame_by
  blame_cons i l = refl

  blame_nil : blame_among [] ≡ no_levels
  unfolding blame_by
  blame_nil = refl

  -- rules without p in the head do not matter
  blame_with : (l : List ℕ) → blame_among (with_head t p l) ≡ blame_among l
  unfolding with_head blame_by
  blame_with [] = refl
  blame_with (i ∷ l) = at (has p (rule_at t i).head) refl (blame_with l)
    where
      at : (b : Bool) → has p (rule_at t i).head ≡ b → blame_among (with_head t p l) ≡ blame_among l
          → blame_among (cond b (i ∷ with_head t p l) (with_head t p l)) ≡ cond b (joined_by y (x (rule_at t i)) (blame_among l)) (blame_among l)
      at false e h = h
      at true e h =
          ap (λ (b : Bool). cond b (joined_by y (x (rule_at t i)) (blame_among (with_head t p l))) (blame_among (with_head t p l))) e
          ∙ ap (joined_by y (x (rule_at t i))) h

  pub blame_all : (tb : Table) → blame_among (with_head t p (places_of t tb)) ≡ blame_by x y p (program_of t tb)
  blame_all tb = blame_with (places_of t tb) ∙ ap (blame_by x y p) (rules_at_lem t tb.first tb.rules)

  or_swap : (a b c : Bool) → ((a || b) || c) ≡ (b || (a || c))
  or_swap true true c = refl
  or_swap true false c = refl
  or_swap false b c = refl

  union_swap : (A B C : Levels) → union (union A B) C ≡ union B (union A C)
  union_swap A B C = fun_ext (λ l. or_swap (A l) (B l) (C l))

  -- a rule's share joined to what came before, or to what comes after
  moved : (r : Rule) (B C : Levels) → union (blamed_by x y p r B) C ≡ union B (blamed_by x y p r C)
  moved r B C = at (has p r.head) (x r)
    where
      at : (b : Bool) (o : Option Lit) → union (cond b (joined_by y o B) B) C ≡ union B (cond b (joined_by y o C) C)
      at false o = refl
      at true none = refl
      at true (some l) = union_swap (y l) B C

  or_none : (b : Bool) → (b || false) ≡ b
  or_none true = refl
  or_none false = refl

  module _ (l : List ℕ) (i : ℕ) (B : Levels) where
    pub blame_on : i < length l → union (blamed_by x y p (rule_at t (get_or l i 0)) B) (blame_among (drop (i + 1) l)) ≡ union B (blame_among (drop i l))
    blame_on h =
        let e = drop-cons l i 0 h ∙ ap (λ (j : ℕ). get_or l i 0 ∷ drop j l) (sym (add-one i)) in
        moved (rule_at t (get_or l i 0)) B (blame_among (drop (i + 1) l)) ∙ ap (union B) (sym (ap blame_among e ∙ blame_cons (get_or l i 0) (drop (i + 1) l)))

    pub blame_end : length l ≤ i → union B (blame_among (drop i l)) ≡ B
    blame_end h = ap (λ (s : List ℕ). union B (blame_among s)) (drop_of_length-le l h) ∙ ap (union B) blame_nil ∙ fun_ext (λ k. or_none (B k))

-- what `blame_of` is a walk of
pub blame_is : (a : ℕ → Cell) (R : ℕ → Levels) (p : ℕ) (P : Program) → blame_of a R p P ≡ blame_by (witness_of a p) (reason_of a R) p P
unfolding blame_of
blame_is a R p P = refl
