-- An element of an aggregate by the byte of its atom's value (0 undefined, 1 true, any other false): what it adds to the running numbers, and
-- when the answer is known before the walk ends. Assumes nothing.
use mathlib.Core.Path.{◌≡◌, refl, sym, ◌∙◌, ap, ap₂}
use mathlib.Core.Bool.{Bool, true, false, not, ◌&&◌, ◌||◌}
use mathlib.Core.List.{List, ◌∷◌}
use Prim.Native.Nat.{ℕ, zero, suc, ◌+◌, ◌*◌, ◌≤◌}
use native.Mathlib.Omega.{arith}
use lib.Dec.{ltb, eqb}
use borrow.Author.Tests.{ne_eqb, lt-ltb, le-ltb}
use lib.IntN.{ℤ}
use lib.ListN.{length, drop}
use Rattle.std.proofs.Math.Bool.{or_assoc}
use Rattle.layout.specs.Layout.{pairs}
use Rattle.meaning.specs.declared.Comparison.{Comparison}
use Rattle.interpretation.specs.State.{Cell, undefined, defined, truth_of}
use Rattle.interpretation.specs.View.{cell_by, cell_value}
use Rattle.interpretation.specs.declared.Value.{Value}
use Rattle.interpretation.specs.declared.Value.TheVariants.{True, False, Undefined}
use Rattle.valuing.specs.Values.{says_true, signed, opposite, between, decide, possibly}
use Rattle.valuing.specs.Settling.{is_false, is_defined}
use Rattle.literals.specs.declared.aggregates.Totals.{Totals}
use Rattle.literals.specs.Elements.{Marks, passes_by, part_of, added_by, marked_by, marks_of, marks_value}
use Rattle.literals.specs.Settled.{of_sign}
use Rattle.literals.proofs.Pairs.{pair_on, pairs_end}
use Rattle.literals.proofs.Amounts.{marks_none, marks_more}

-- ---- one byte

pub affirms_plain : (b : ℕ) → eqb b 1 ≡ says_true (cell_value (cell_by b 0))
affirms_plain zero = refl
affirms_plain (suc zero) = refl
affirms_plain (suc (suc b)) = ne_eqb (suc (suc b)) 1 (λ h. omega arith)

pub affirms_negated : (b : ℕ) → ltb 1 b ≡ says_true (opposite (cell_value (cell_by b 0)))
affirms_negated zero = refl
affirms_negated (suc zero) = refl
affirms_negated (suc (suc b)) = lt-ltb 1 (suc (suc b)) (omega arith)

-- of a value with a sign: true elements, or false ones
pub affirms_sign : (s : Bool) (c : Cell) → says_true (signed s (cell_value c)) ≡ of_sign s c
affirms_sign true undefined = refl
affirms_sign true (defined true l) = refl
affirms_sign true (defined false l) = refl
affirms_sign false undefined = refl
affirms_sign false (defined true l) = refl
affirms_sign false (defined false l) = refl

-- ---- one element, by its byte

pub part_most : (on : Bool) (x : ℕ) → part_of on x ≤ x
part_most true x = omega arith
part_most false x = omega arith

pub added_byte : (b x : ℕ) (t : Totals) → ◌≡◌ {A = Totals} (record { low = t.low + part_of (eqb b 1) x; high = t.high + part_of (ltb b 2) x }) (added_by (cell_value (cell_by b 0)) x t)
added_byte zero x t = let e : t.low + 0 ≡ t.low = omega arith in λ i. record { low = e i; high = t.high + x }
added_byte (suc zero) x t = refl
added_byte (suc (suc b)) x t =
    let e : t.low + 0 ≡ t.low = omega arith in
    let f : t.high + 0 ≡ t.high = omega arith in
    ap (λ (y : Bool). record { low = t.low + part_of y x; high = t.high + part_of (ltb (suc (suc b)) 2) x }) (ne_eqb (suc (suc b)) 1 (λ h. omega arith))
    ∙ ap (λ (y : Bool). record { low = t.low + 0; high = t.high + part_of y x }) (le-ltb (suc (suc b)) 2 (omega arith))
    ∙ (λ i. record { low = e i; high = f i })

-- the tests of a value by its byte
pub true_byte : (b : ℕ) → eqb b 1 ≡ truth_of (cell_by b 0)
true_byte zero = refl
true_byte (suc zero) = refl
true_byte (suc (suc b)) = ne_eqb (suc (suc b)) 1 (λ h. omega arith)

pub false_byte : (b : ℕ) → ltb 1 b ≡ is_false (cell_by b 0)
false_byte zero = le-ltb 1 0 (omega arith)
false_byte (suc zero) = le-ltb 1 1 (omega arith)
false_byte (suc (suc b)) = lt-ltb 1 (suc (suc b)) (omega arith)

pub defined_byte : (b : ℕ) → ltb 0 b ≡ is_defined (cell_by b 0)
defined_byte zero = le-ltb 0 0 (omega arith)
defined_byte (suc zero) = lt-ltb 0 1 (omega arith)
defined_byte (suc (suc b)) = lt-ltb 0 (suc (suc b)) (omega arith)

pub possibly_byte : (b : ℕ) → ltb b 2 ≡ possibly (cell_by b 0)
possibly_byte zero = refl
possibly_byte (suc zero) = refl
possibly_byte (suc (suc b)) = le-ltb (suc (suc b)) 2 (omega arith)

-- the tests of a byte that stands for false
false_tests : (b : ℕ) (F : Bool → Bool → Marks) → F false false ≡ F (eqb (suc (suc b)) 1) (ltb (suc (suc b)) 2)
false_tests b F = sym (ap (λ (y : Bool). F y (ltb (suc (suc b)) 2)) (ne_eqb (suc (suc b)) 1 (λ h. omega arith)) ∙ ap (F false) (le-ltb (suc (suc b)) 2 (omega arith)))

abbrev pub passing : Bool → Bool → Marks → Marks
passing sure possible m = record { passed = sure || m.passed; failed = m.failed; passable = possible || m.passable; failable = m.failable }

abbrev pub failing : Bool → Bool → Marks → Marks
failing sure possible m = record { passed = m.passed; failed = sure || m.failed; passable = m.passable; failable = possible || m.failable }

pub pass_byte : (b : ℕ) (m : Marks) → marked_by (cell_value (cell_by b 0)) true m ≡ passing (eqb b 1) (ltb b 2) m
pass_byte zero m = refl
pass_byte (suc zero) m = refl
pass_byte (suc (suc b)) m = false_tests b (λ s p. passing s p m)

pub fail_byte : (b : ℕ) (m : Marks) → marked_by (cell_value (cell_by b 0)) false m ≡ failing (eqb b 1) (ltb b 2) m
fail_byte zero m = refl
fail_byte (suc zero) m = refl
fail_byte (suc (suc b)) m = false_tests b (λ s p. failing s p m)

-- a value that fails, whatever its atom is, leaves what is known of those that pass
pub fail_passed : (v : Value) (m : Marks) → (marked_by v false m).passed ≡ m.passed
fail_passed True m = refl
fail_passed False m = refl
fail_passed Undefined m = refl

pub fail_passable : (v : Value) (m : Marks) → (marked_by v false m).passable ≡ m.passable
fail_passable True m = refl
fail_passable False m = refl
fail_passable Undefined m = refl

-- the marks where no true element fails, and what they give
abbrev pub unfailed : Bool → Bool → Bool → Marks
unfailed p q f = record { passed = p; failed = false; passable = q; failable = f }

pub unfailed_value : (p q f : Bool) → decide (p && (q && not f)) (not q) ≡ marks_value true (unfailed p q f)
unfailed_value true q f = refl
unfailed_value false q f = refl

pub failed_false : (m : Marks) → m.failed ≡ true → False ≡ marks_value true m
failed_false m h = rw h (at m.passed)
  where
    at : (p : Bool) → False ≡ decide ((p && false) && (m.passable && not m.failable)) true
    at true = refl
    at false = refl

-- ---- the marks of all elements, m, by what is known of those walked and by the marks of the rest, r

-- no true element walked passes, and q says whether one that could be true does
abbrev pub SomeFrom : Marks → Bool → Marks → Type 0
SomeFrom m q r = (m.passed ≡ r.passed) × (m.passable ≡ (q || r.passable))

-- no true element walked fails, and p, q and f are the other marks
abbrev pub EachFrom : Marks → Bool → Bool → Bool → Marks → Type 0
EachFrom m p q f r = (m.failed ≡ r.failed) × (m.passed ≡ (p || r.passed)) × (m.passable ≡ (q || r.passable)) × (m.failable ≡ (f || r.failable))

or_none : (b : Bool) → (b || false) ≡ b
or_none true = refl
or_none false = refl

or_true : (b : Bool) → (b || true) ≡ true
or_true true = refl
or_true false = refl

-- an element of the rest walked: its value passes, or fails, by the byte b of its atom
module _ (m r : Marks) (b : ℕ) where
  byte_one : b ≡ 1 → cell_value (cell_by b 0) ≡ True
  byte_one e = ap (λ (x : ℕ). cell_value (cell_by x 0)) e

  pub some_pass : (q : Bool) → (b ≡ 1 → ⊥) → SomeFrom m q (marked_by (cell_value (cell_by b 0)) true r) → SomeFrom m (q || ltb b 2) r
  some_pass q n h =
      let e = pass_byte b r in (
        h.0 ∙ ap (λ (k : Marks). k.passed) e ∙ ap (λ (x : Bool). x || r.passed) (ne_eqb b 1 n),
        h.1 ∙ ap (λ (k : Marks). q || k.passable) e ∙ sym (or_assoc q (ltb b 2) r.passable),
      )

  pub some_true : (q : Bool) → b ≡ 1 → SomeFrom m q (marked_by (cell_value (cell_by b 0)) true r) → True ≡ marks_value false m
  some_true q e h =
      let f = ap (λ (v : Value). marked_by v true r) (byte_one e) in
      let g : m.passed ≡ true = h.0 ∙ ap (λ (k : Marks). k.passed) f in
      let k : m.passable ≡ true = h.1 ∙ ap (λ (k : Marks). q || k.passable) f ∙ or_true q in
      rw (g, k) refl

  pub each_pass : (p q f : Bool) → EachFrom m p q f (marked_by (cell_value (cell_by b 0)) true r) → EachFrom m (p || eqb b 1) (q || ltb b 2) f r
  each_pass p q f h =
      let e = pass_byte b r in (
        h.0 ∙ ap (λ (k : Marks). k.failed) e,
        h.1 ∙ ap (λ (k : Marks). p || k.passed) e ∙ sym (or_assoc p (eqb b 1) r.passed),
        h.2 ∙ ap (λ (k : Marks). q || k.passable) e ∙ sym (or_assoc q (ltb b 2) r.passable),
        h.3 ∙ ap (λ (k : Marks). f || k.failable) e,
      )

  pub each_fail : (p q f : Bool) → (b ≡ 1 → ⊥) → EachFrom m p q f (marked_by (cell_value (cell_by b 0)) false r) → EachFrom m p q (f || ltb b 2) r
  each_fail p q f n h =
      let e = fail_byte b r in (
        h.0 ∙ ap (λ (k : Marks). k.failed) e ∙ ap (λ (x : Bool). x || r.failed) (ne_eqb b 1 n),
        h.1 ∙ ap (λ (k : Marks). p || k.passed) e,
        h.2 ∙ ap (λ (k : Marks). q || k.passable) e,
        h.3 ∙ ap (λ (k : Marks). f || k.failable) e ∙ sym (or_assoc f (ltb b 2) r.failable),
      )

  pub each_false : (p q f : Bool) → b ≡ 1 → EachFrom m p q f (marked_by (cell_value (cell_by b 0)) false r) → False ≡ marks_value true m
  each_false p q f e h = failed_false m (h.0 ∙ ap (λ (v : Value). (marked_by v false r).failed) (byte_one e))

pub some_fail : (m r : Marks) (v : Value) (q : Bool) → SomeFrom m q (marked_by v false r) → SomeFrom m q r
some_fail m r v q h = (h.0 ∙ fail_passed v r, h.1 ∙ ap (λ (x : Bool). q || x) (fail_passable v r))

-- none is left
module _ (m r : Marks) (e : r ≡ record { passed = false; failed = false; passable = false; failable = false }) where
  pub some_end : (q : Bool) → SomeFrom m q r → between false q ≡ marks_value false m
  some_end q h =
      let g : m.passed ≡ false = h.0 ∙ ap (λ (k : Marks). k.passed) e in
      let k : m.passable ≡ q = h.1 ∙ ap (λ (k : Marks). q || k.passable) e ∙ or_none q in
      rw (g, k) refl

  pub each_end : (p q f : Bool) → EachFrom m p q f r → decide (p && (q && not f)) (not q) ≡ marks_value true m
  each_end p q f h =
      let a : m.failed ≡ false = h.0 ∙ ap (λ (k : Marks). k.failed) e in
      let b : m.passed ≡ p = h.1 ∙ ap (λ (k : Marks). p || k.passed) e ∙ or_none p in
      let c : m.passable ≡ q = h.2 ∙ ap (λ (k : Marks). q || k.passable) e ∙ or_none q in
      let d : m.failable ≡ f = h.3 ∙ ap (λ (k : Marks). f || k.failable) e ∙ or_none f in
      unfailed_value p q f ∙ sym (λ t. marks_value true (record { passed = b t; failed = a t; passable = c t; failable = d t }))

-- ---- the marks of the pairs from index 2 i on

module _ (w : List ℤ) (c : Comparison) (k : ℕ) (a : ℕ → Cell) where
  abbrev pub marks_from : ℕ → Marks
  marks_from i = marks_of c k a (pairs (drop (2 * i) w))

  pub marks_on : (i : ℕ) → pairs (drop (2 * i) w) ≡ pair_on w i ∷ pairs (drop (2 * (i + 1)) w) → (v : Value) (ok : Bool) → v ≡ cell_value (a (pair_on w i).atom) → ok ≡ passes_by c k (pair_on w i).value
      → marks_from i ≡ marked_by v ok (marks_from (i + 1))
  marks_on i e v ok ev eo =
      ap (marks_of c k a) e ∙ marks_more c k a (pair_on w i) (pairs (drop (2 * (i + 1)) w)) ∙ ap₂ (λ (x : Value) (o : Bool). marked_by x o (marks_from (i + 1))) (sym ev) (sym eo)

  pub marks_end : (i : ℕ) → length w ≤ 2 * i + 1 → marks_from i ≡ record { passed = false; failed = false; passable = false; failable = false }
  marks_end i h = ap (marks_of c k a) (pairs_end w i h) ∙ sym (marks_none c k a)
