-- The marks of an aggregate's elements, walked from the last pair to the first; when the answer is known before the walk ends. Assumes nothing.
use mathlib.Core.Path.{◌≡◌, refl, sym, ◌∙◌, ap, subst}
use mathlib.Core.Bool.{Bool, true, false, not, ◌&&◌, ◌||◌}
use mathlib.Core.List.{List}
use Prim.Native.Nat.{ℕ, zero, suc, ◌+◌, ◌-◌, ◌*◌, ◌≤◌, ◌<◌}
use native.Mathlib.Omega.{arith}
use lib.IntN.{ℤ}
use lib.ListN.{length}
use Rattle.layout.specs.Layout.{pairs}
use Rattle.meaning.specs.declared.Comparison.{Comparison}
use Rattle.interpretation.specs.State.{Cell}
use Rattle.interpretation.specs.View.{cell_value}
use Rattle.interpretation.specs.declared.Value.{Value}
use Rattle.interpretation.specs.declared.Value.TheVariants.{True, False, Undefined}
use Rattle.valuing.specs.Values.{between}
use Rattle.literals.specs.Elements.{Marks, passes_by, marked_by, marks_of, marks_value}
use Rattle.literals.proofs.Pairs.{pair_on, pairs_on}
use Rattle.literals.proofs.Bytes.{marks_from, marks_on, passing, unfailed, failed_false}

-- ---- what stays true of the marks with each element more

pub or_turned : (b x : Bool) → (b || x) ≡ (x || b)
or_turned true true = refl
or_turned true false = refl
or_turned false true = refl
or_turned false false = refl

pub each_turned : (s p a q f : Bool) → passing s p (unfailed a q f) ≡ unfailed (a || s) (q || p) f
each_turned s p a q f = λ t. unfailed (or_turned s a t) (or_turned p q t) f

or_right : (b : Bool) {x : Bool} → x ≡ true → (b || x) ≡ true
or_right true e = refl
or_right false e = e

passed_stays : (v : Value) (ok : Bool) (m : Marks) → (m.passed ≡ true) × (m.passable ≡ true) → ((marked_by v ok m).passed ≡ true) × ((marked_by v ok m).passable ≡ true)
passed_stays True ok m h = (or_right ok h.0, or_right ok h.1)
passed_stays False ok m h = h
passed_stays Undefined ok m h = (h.0, or_right ok h.1)

failed_stays : (v : Value) (ok : Bool) (m : Marks) → m.failed ≡ true → (marked_by v ok m).failed ≡ true
failed_stays True ok m h = or_right (not ok) h
failed_stays False ok m h = h
failed_stays Undefined ok m h = h

-- all walked: none passes for sure, and q says whether one may
pub some_none : (m : Marks) (q : Bool) → m.passed ≡ false → m.passable ≡ q → between false q ≡ marks_value false m
some_none m q e f = rw (e, f) refl

passed_true : (m : Marks) → (m.passed ≡ true) × (m.passable ≡ true) → True ≡ marks_value false m
passed_true m h = rw (h.0, h.1) refl

module _ (w : List ℤ) (c : Comparison) (k : ℕ) (a : ℕ → Cell) where
  -- with the pair before index 2 n
  pub marks_step : (n : ℕ) → 0 < n → 2 * n ≤ length w → (v : Value) (ok : Bool) → v ≡ cell_value (a (pair_on w (n - 1)).atom) → ok ≡ passes_by c k (pair_on w (n - 1)).value
      → marks_from w c k a (n - 1) ≡ marked_by v ok (marks_from w c k a n)
  marks_step n h l v ok ev eo =
      let e : n - 1 + 1 ≡ n = omega arith in
      marks_on w c k a (n - 1) (pairs_on w (n - 1) (omega arith)) v ok ev eo ∙ ap (λ (j : ℕ). marked_by v ok (marks_from w c k a j)) e

  -- what each element more keeps holds of all if it holds of the last ones
  marks_kept : (Q : Marks → Type 0) → ((v : Value) (ok : Bool) (m : Marks) → Q m → Q (marked_by v ok m)) → (n : ℕ) → 2 * n ≤ length w → Q (marks_from w c k a n) → Q (marks_of c k a (pairs w))
  marks_kept Q stays zero l q = q
  marks_kept Q stays (suc n) l q =
      let v = cell_value (a (pair_on w n).atom) in
      let ok = passes_by c k (pair_on w n).value in
      let e : suc n - 1 ≡ n = omega arith in
      let f : n + 1 ≡ suc n = omega arith in
      let step : marks_from w c k a n ≡ marked_by v ok (marks_from w c k a (suc n)) =
      marks_on w c k a n (pairs_on w n (omega arith)) v ok refl refl ∙ ap (λ (j : ℕ). marked_by v ok (marks_from w c k a j)) f in
      marks_kept Q stays n (omega arith) (subst Q (sym step) (stays v ok (marks_from w c k a (suc n)) q))

  pub passed_early : (n : ℕ) → 2 * n ≤ length w → (marks_from w c k a n).passed ≡ true → (marks_from w c k a n).passable ≡ true → True ≡ marks_value false (marks_of c k a (pairs w))
  passed_early n l e f = passed_true (marks_of c k a (pairs w)) (marks_kept (λ m. (m.passed ≡ true) × (m.passable ≡ true)) passed_stays n l (e, f))

  pub failed_early : (n : ℕ) → 2 * n ≤ length w → (marks_from w c k a n).failed ≡ true → False ≡ marks_value true (marks_of c k a (pairs w))
  failed_early n l e = failed_false (marks_of c k a (pairs w)) (marks_kept (λ m. m.failed ≡ true) failed_stays n l e)
