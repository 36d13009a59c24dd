-- Min and max where only some elements are known: what their marks are, and whether these settle the aggregate.
--   marks_single     one element is known: it settles the aggregate as `alone_by` says
--   marks_false      only false elements are known: they settle it unless an element that passes is not false
-- `Trues.antt` has the case that only true elements are known.
-- Assumes nothing.
use mathlib.Core.Path.{◌≡◌, refl, sym, ◌∙◌, ap, ap₂, subst}
use mathlib.Core.Logic.{◌⊎◌, inl, inr}
use mathlib.Core.Bool.{Bool, true, false, not, ◌&&◌, ◌||◌}
use mathlib.Core.List.Memᴰ
use mathlib.Core.List.{List, [], ◌∷◌}
use Prim.Native.Nat.{ℕ, ◌+◌, ◌-◌, ◌≤◌, ◌<◌}
use native.Mathlib.Omega.{arith}
use lib.Dec.{ltb, eqb}
use lib.ListN.{length}
use borrow.Author.Tests.{lt-ltb, le-ltb}
use Rattle.meaning.specs.Lists.{Is, ◌∈◌, any, has}
use Rattle.meaning.specs.Program.{Element}
use Rattle.meaning.specs.declared.Comparison.{Comparison}
use Rattle.meaning.proofs.Cond.{lt_case}
use Rattle.meaning.proofs.Tools.{clash, not_is, and_l, and_r, contra, any_i, eq_i, has_i, has_e}
use Rattle.interpretation.specs.State.{Cell, undefined, defined}
use Rattle.interpretation.specs.View.{bool_value, cell_value}
use Rattle.interpretation.specs.declared.Value.{Value}
use Rattle.interpretation.specs.declared.Value.TheVariants.{True, False, Undefined}
use Rattle.valuing.specs.Values.{says_undefined, possibly}
use Rattle.valuing.specs.Settling.{known_if, restricted, is_false, is_defined, atoms_that}
use Rattle.valuing.specs.Walk.{atoms_differ}
use Rattle.valuing.proofs.Settling.{atoms_in_lem, atoms_from_lem}
use Rattle.literals.specs.Elements.{Marks, passes_by, part_of, marked_by, marks_of, marks_value}
use Rattle.literals.specs.Settled.{passing_of, alone_by, alone_at}
use Rattle.literals.proofs.Amounts.{marks_none, marks_more}

-- ---- marks that settle

abbrev pub settled_by : Bool → Marks → Bool
settled_by each m = not (says_undefined (marks_value each m))

-- nothing is known of the elements
abbrev unknown : Bool → Bool → Marks
unknown q f = record { passed = false; failed = false; passable = q; failable = f }

alone_right : (each v ok pass fail : Bool) → settled_by each (marked_by (bool_value v) ok (unknown pass fail)) ≡ alone_by each v ok pass fail
alone_right true true true pass true = refl
alone_right true true true pass false = refl
alone_right true true false pass fail = refl
alone_right true false ok true fail = refl
alone_right true false ok false fail = refl
alone_right false true true pass fail = refl
alone_right false true false true fail = refl
alone_right false true false false fail = refl
alone_right false false ok true fail = refl
alone_right false false ok false fail = refl

unknown_settles : (each q f : Bool) → settled_by each (unknown q f) ≡ not q
unknown_settles true true f = refl
unknown_settles true false f = refl
unknown_settles false true f = refl
unknown_settles false false f = refl

-- ---- counts

pub over : (b : Bool) (s n : ℕ) → s ≤ n → (b || ltb s n) ≡ ltb s (n + part_of b 1)
over true s n h = sym (lt-ltb s (n + 1) (omega arith))
over false s n h = let e : n ≡ n + 0 = omega arith in ap (ltb s) e

shift : (b : Bool) (n : ℕ) → ltb 0 n ≡ ltb (part_of b 1) (n + part_of b 1)
shift true n = at (lt_case 0 n)
  where
    at : (0 < n) ⊎ (n ≤ 0) → ltb 0 n ≡ ltb 1 (n + 1)
    at (inl h) = lt-ltb 0 n h ∙ sym (lt-ltb 1 (n + 1) (omega arith))
    at (inr h) = le-ltb 0 n h ∙ sym (le-ltb 1 (n + 1) (omega arith))
shift false n = let e : n ≡ n + 0 = omega arith in ap (ltb 0) e

pub ltb_none : (n : ℕ) → ltb 0 n ≡ false → n ≡ 0
ltb_none n h = at (lt_case 0 n)
  where
    at : (0 < n) ⊎ (n ≤ 0) → n ≡ 0
    at (inl k) = absurd (clash (lt-ltb 0 n k) h)
    at (inr k) = omega arith

commute : (v : Value) (b d q f : Bool) → marked_by Undefined d (marked_by v b (unknown q f)) ≡ marked_by v b (unknown (d || q) (not d || f))
commute True true true q f = refl
commute True true false q f = refl
commute True false true q f = refl
commute True false false q f = refl
commute False b d q f = refl
commute Undefined true true q f = refl
commute Undefined true false q f = refl
commute Undefined false true q f = refl
commute Undefined false false q f = refl

module _ (c : Comparison) (k : ℕ) where
  abbrev pub ok : Element → Bool
  ok e = passes_by c k e.value

  abbrev pub failing_of : List Element → ℕ
  failing_of [] = 0
  failing_of (e ∷ es) = failing_of es + part_of (not (ok e)) 1

  one : (b : Bool) → part_of b 1 + part_of (not b) 1 ≡ 1
  one true = refl
  one false = refl

  both_counts : (es : List Element) → passing_of c k es + failing_of es ≡ length es
  both_counts [] = refl
  both_counts (e ∷ es) = let h = both_counts es in let o = one (ok e) in omega arith

  pub passing_most : (es : List Element) → passing_of c k es ≤ length es
  passing_most es = let h = both_counts es in omega arith

  pub failing_is : (es : List Element) → length es - passing_of c k es ≡ failing_of es
  failing_is es = let h = both_counts es in omega arith

  pub passing_member : (e : Element) (es : List Element) → e ∈ es → part_of (ok e) 1 ≤ passing_of c k es
  passing_member e (d ∷ es) (Memᴰ.head q) = let x : part_of (ok e) 1 ≡ part_of (ok d) 1 = ap (λ (z : Element). part_of (ok z) 1) q in omega arith
  passing_member e [] x' = elim x' [ ]
  passing_member e (d ∷ es) (Memᴰ.tail m) = let h = passing_member e es m in omega arith

  failing_member : (e : Element) (es : List Element) → e ∈ es → part_of (not (ok e)) 1 ≤ failing_of es
  failing_member e (d ∷ es) (Memᴰ.head q) = let x : part_of (not (ok e)) 1 ≡ part_of (not (ok d)) 1 = ap (λ (z : Element). part_of (not (ok z)) 1) q in omega arith
  failing_member e [] x' = elim x' [ ]
  failing_member e (d ∷ es) (Memᴰ.tail m) = let h = failing_member e es m in omega arith

  -- ---- marks by what is known of each element

  abbrev pub marks_by : (Element → Value) → List Element → Marks
  marks_by look [] = record { passed = false; failed = false; passable = false; failable = false }
  marks_by look (e ∷ es) = marked_by (look e) (ok e) (marks_by look es)

  pub marks_by_lem : (b : ℕ → Cell) (es : List Element) → marks_of c k b es ≡ marks_by (λ e. cell_value (b e.atom)) es
  marks_by_lem b [] = sym (marks_none c k b)
  marks_by_lem b (e ∷ es) = marks_more c k b e es ∙ ap (marked_by (cell_value (b e.atom)) (ok e)) (marks_by_lem b es)

  pub marks_same : (look see : Element → Value) (es : List Element) → ((e : Element) → e ∈ es → look e ≡ see e) → marks_by look es ≡ marks_by see es
  marks_same look see [] h = refl
  marks_same look see (e ∷ es) h = ap₂ (λ (v : Value) (m : Marks). marked_by v (ok e) m) (h e (Memᴰ.head refl)) (marks_same look see es (λ d m. h d (Memᴰ.tail m)))

  marks_unknown : (look : Element → Value) (es : List Element) → ((e : Element) → e ∈ es → look e ≡ Undefined) → marks_by look es ≡ unknown (ltb 0 (passing_of c k es)) (ltb 0 (failing_of es))
  marks_unknown look [] h = ap₂ unknown (sym (le-ltb 0 0 (omega arith))) (sym (le-ltb 0 0 (omega arith)))
  marks_unknown look (e ∷ es) h =
      ap₂ (λ (v : Value) (m : Marks). marked_by v (ok e) m) (h e (Memᴰ.head refl)) (marks_unknown look es (λ d m. h d (Memᴰ.tail m)))
      ∙ ap₂ unknown (over (ok e) 0 (passing_of c k es) (omega arith)) (over (not (ok e)) 0 (failing_of es) (omega arith))

  module _ (a : ℕ → Cell) where
    -- ---- one element is known

    only_it : (p q : ℕ) → (q ≡ p → ⊥) → cell_value (restricted (p ∷ []) a q) ≡ Undefined
    only_it p q n = ap (λ (b : Bool). cell_value (known_if b (a q))) (contra (has q (p ∷ [])) {b = false} (λ x. absurd (bad (Memᴰ.cases_cons (has_e (p ∷ []) x)))) refl)
      where
        bad : (q ≡ p) ⊎ (q ∈ []) → ⊥
        bad (inl e) = n e
        bad (inr m) = Memᴰ.not-nil m

    it_is : (p : ℕ) → cell_value (restricted (p ∷ []) a p) ≡ cell_value (a p)
    it_is p = ap (λ (b : Bool). cell_value (known_if b (a p))) (has_i (Memᴰ.head refl))

    -- no other element of the list has the atom
    apart : (d e : Element) (es : List Element) → Is (atoms_differ (d ∷ es)) → e ∈ es → d.atom ≡ e.atom → ⊥
    apart d e es h m q = clash (any_i (λ y. eqb d.atom y.atom) es m (eq_i q)) (not_is _ (and_l (not (any (λ y. eqb d.atom y.atom) es)) _ h))

    abbrev seen : ℕ → Element → Value
    seen p e = cell_value (restricted (p ∷ []) a e.atom)

    marks_one : (e : Element) (es : List Element) → e ∈ es → Is (atoms_differ es)
        → marks_by (seen e.atom) es ≡ marked_by (cell_value (a e.atom)) (ok e) (unknown (ltb (part_of (ok e) 1) (passing_of c k es)) (ltb (part_of (not (ok e)) 1) (failing_of es)))
    marks_one e (d ∷ es) (Memᴰ.head q) h =
        subst (λ (z : Element). marks_by (seen z.atom) (d ∷ es) ≡ marked_by (cell_value (a z.atom)) (ok z) (unknown (ltb (part_of (ok z) 1) (passing_of c k (d ∷ es))) (ltb (part_of (not (ok z)) 1) (failing_of (d ∷ es))))) (sym q)
        (ap₂ (λ (v : Value) (m : Marks). marked_by v (ok d) m) (it_is d.atom) (marks_unknown (seen d.atom) es (λ x m. only_it d.atom x.atom (λ y. apart d x es h m (sym y))))
        ∙ ap (marked_by (cell_value (a d.atom)) (ok d)) (ap₂ unknown (shift (ok d) (passing_of c k es)) (shift (not (ok d)) (failing_of es))))
    marks_one e [] x'' h = elim x'' [ ]
    marks_one e (d ∷ es) (Memᴰ.tail m) h =
        ap₂ (λ (v : Value) (n : Marks). marked_by v (ok d) n) (only_it e.atom d.atom (λ y. apart d e es h m y))
        (marks_one e es m (and_r (not (any (λ y. eqb d.atom y.atom) es)) _ h))
        ∙ commute (cell_value (a e.atom)) (ok e) (ok d) (ltb (part_of (ok e) 1) (passing_of c k es)) (ltb (part_of (not (ok e)) 1) (failing_of es))
        ∙ ap (marked_by (cell_value (a e.atom)) (ok e))
        (ap₂ unknown (over (ok d) (part_of (ok e) 1) (passing_of c k es) (passing_member e es m)) (over (not (ok d)) (part_of (not (ok e)) 1) (failing_of es) (failing_member e es m)))

    pub marks_single : (each : Bool) (e : Element) (es : List Element) → e ∈ es → Is (atoms_differ es) → Is (is_defined (a e.atom))
        → settled_by each (marks_of c k (restricted (e.atom ∷ []) a) es) ≡ alone_at each (a e.atom) (ok e) (passing_of c k es) (length es - passing_of c k es)
    marks_single each e es m h d =
        ap (settled_by each) (marks_by_lem (restricted (e.atom ∷ []) a) es ∙ marks_one e es m h) ∙ at (a e.atom) d
        ∙ ap (alone_at each (a e.atom) (ok e) (passing_of c k es)) (sym (failing_is es))
      where
        at : (x : Cell) → Is (is_defined x) → settled_by each (marked_by (cell_value x) (ok e) (unknown (ltb (part_of (ok e) 1) (passing_of c k es)) (ltb (part_of (not (ok e)) 1) (failing_of es))))
            ≡ alone_at each x (ok e) (passing_of c k es) (failing_of es)
        at undefined q = absurd (clash q refl)
        at (defined v l) q = alone_right each v (ok e) (ltb (part_of (ok e) 1) (passing_of c k es)) (ltb (part_of (not (ok e)) 1) (failing_of es))

    -- ---- only false elements are known

    abbrev false_only : Cell → Value
    false_only undefined = Undefined
    false_only (defined true l) = Undefined
    false_only (defined false l) = False

    known_false : (b : Bool) (x : Cell) → (Is b → Is (is_false x)) → (Is (is_false x) → Is b) → cell_value (known_if b x) ≡ false_only x
    known_false true undefined f g = refl
    known_false false undefined f g = refl
    known_false true (defined true l) f g = absurd (clash (f refl) refl)
    known_false false (defined true l) f g = refl
    known_false true (defined false l) f g = refl
    known_false false (defined false l) f g = absurd (clash (g refl) refl)

    -- an element that passes is not false
    abbrev pub may_of : List Element → Bool
    may_of [] = false
    may_of (e ∷ es) = (ok e && possibly (a e.atom)) || may_of es

    abbrev Unknown : Marks → Bool → Type 0
    Unknown m q = (m.passed ≡ false) × (m.failed ≡ false) × (m.passable ≡ q)

    false_step_lem : (b : Bool) (x : Cell) (m : Marks) (q : Bool) → Unknown m q → Unknown (marked_by (false_only x) b m) ((b && possibly x) || q)
    false_step_lem true undefined m q h = (h.0, h.1, refl)
    false_step_lem false undefined m q h = h
    false_step_lem true (defined true l) m q h = (h.0, h.1, refl)
    false_step_lem false (defined true l) m q h = h
    false_step_lem true (defined false l) m q h = h
    false_step_lem false (defined false l) m q h = h

    false_marks : (es : List Element) → Unknown (marks_by (λ e. false_only (a e.atom)) es) (may_of es)
    false_marks [] = (refl, refl, refl)
    false_marks (e ∷ es) = false_step_lem (ok e) (a e.atom) (marks_by (λ e. false_only (a e.atom)) es) (may_of es) (false_marks es)

    unknown_is : (each : Bool) (m : Marks) (q : Bool) → Unknown m q → settled_by each m ≡ not q
    unknown_is each m q h =
        let e : m ≡ unknown q m.failable = λ t. record { passed = h.0 t; failed = h.1 t; passable = h.2 t; failable = m.failable } in
        ap (settled_by each) e ∙ unknown_settles each q m.failable

    pub marks_false : (each : Bool) (es : List Element) → settled_by each (marks_of c k (restricted (atoms_that is_false a es) a) es) ≡ not (may_of es)
    marks_false each es =
        ap (settled_by each)
        (marks_by_lem (restricted (atoms_that is_false a es) a) es
        ∙ marks_same (λ e. cell_value (restricted (atoms_that is_false a es) a e.atom)) (λ e. false_only (a e.atom)) es (λ e m.
        known_false (has e.atom (atoms_that is_false a es)) (a e.atom) (λ h. (atoms_from_lem is_false a es e.atom (has_e (atoms_that is_false a es) h)).3) (λ h. has_i (atoms_in_lem is_false a es e m h))))
        ∙ unknown_is each (marks_by (λ e. false_only (a e.atom)) es) (may_of es) (false_marks es)
