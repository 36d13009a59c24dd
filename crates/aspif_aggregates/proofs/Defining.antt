-- The defining lines of an aggregate that lies in the table, by its function. Assumes nothing.
use mathlib.Core.Path.{◌≡◌, refl, sym, ap, ◌∙◌}
use mathlib.Core.Bool.{true, false}
use mathlib.Core.List.{List}
use Prim.Native.Nat.{ℕ, zero, suc, ◌+◌, ◌≤◌}
use native.Mathlib.Omega.{arith}
use lib.IntN.{ℤ, pos, negsuc, nat_abs}
use lib.ListN.{get_or}
use Rattle.meaning.specs.Program.{Element, Aggregate}
use Rattle.meaning.specs.declared.Function.{Function}
use Rattle.meaning.specs.declared.Function.TheVariants.{Count, Sum, Min, Max}
use Rattle.meaning.specs.declared.Comparison.{Comparison}
use Rattle.meaning.specs.declared.Comparison.TheVariants.{Greater}
use Rattle.layout.specs.Layout.{nat_at, function_by, comparison_by, pairs, pairs_at, aggregate_at, AggregateLies}
use Rattle.aspif.specs.Statements.{Body}
use Rattle.aspif.specs.Writing.{bodies_of, stating}
use Rattle.aspif_parts.specs.Parts.{line_text, lines_text, bound_by, test_of, bad_for_least, bad_for_most, weights_by, reached_body, element_bodies, stating_all, AtomsFrom1, used_lines}
use Rattle.aspif_parts.proofs.Texts.{lines_one}
use Rattle.aspif_parts.proofs.Elements.{bodies_count, bodies_sum, bodies_min, bodies_max, atoms_from_1}

threshold_most : (z : ℤ) → ((n : ℕ) → z ≡ pos n → n ≤ 4194304) → ((n : ℕ) → z ≡ negsuc n → n ≡ 0) → nat_abs z ≤ 4194304
threshold_most (ℤ.pos n) f g = f n refl
threshold_most (negsuc n) f g = let e = g n refl in omega arith

pub limit_most : (top : ℕ) (t : List ℤ) (i : ℕ) → AggregateLies top t i → nat_abs (get_or t (i + 2) (pos 0)) ≤ 4194304
limit_most top t i L = threshold_most (get_or t (i + 2) (pos 0)) L.threshold L.lowest

pub pairs_from_1 : (top : ℕ) (t : List ℤ) (i : ℕ) → AggregateLies top t i → AtomsFrom1 (pairs_at t i)
unfolding aggregate_at
pairs_from_1 top t i L = atoms_from_1 top t i L

module _ (t : List ℤ) (i p : ℕ) where
  abbrev K : Comparison
  K = comparison_by (nat_at t (i + 1))

  abbrev B : ℕ
  B = bound_by (comparison_by (nat_at t (i + 1))) (get_or t (i + 2) (pos 0))

  abbrev ES : List Element
  ES = pairs (pairs_at t i)

  -- the lines, where the aggregate's function is f
  abbrev by : Function → List ℕ
  by f = lines_text (stating_all p (bodies_of f (record { function = f; comparison = K; threshold = get_or t (i + 2) (pos 0); elements = ES })))

  by_is : {f : Function} → function_by (nat_at t i) ≡ f → by f ≡ lines_text (stating_all p (bodies_of (aggregate_at t i).function (aggregate_at t i)))
  unfolding aggregate_at
  by_is e = sym (ap by e)

  pub defining_count : function_by (nat_at t i) ≡ Count → line_text (stating p (reached_body B (weights_by (test_of Greater 0) true ES))) ≡ lines_text (stating_all p (bodies_of (aggregate_at t i).function (aggregate_at t i)))
  defining_count e = sym (ap (λ (bs : List Body). lines_text (stating_all p bs)) (bodies_count K (get_or t (i + 2) (pos 0)) ES) ∙ lines_one (stating p (reached_body B (weights_by (test_of Greater 0) true ES)))) ∙ by_is e

  pub defining_sum : function_by (nat_at t i) ≡ Sum → line_text (stating p (reached_body B (weights_by (test_of Greater 1) false ES))) ≡ lines_text (stating_all p (bodies_of (aggregate_at t i).function (aggregate_at t i)))
  defining_sum e = sym (ap (λ (bs : List Body). lines_text (stating_all p bs)) (bodies_sum K (get_or t (i + 2) (pos 0)) ES) ∙ lines_one (stating p (reached_body B (weights_by (test_of Greater 1) false ES)))) ∙ by_is e

  pub defining_min : function_by (nat_at t i) ≡ Min → lines_text (stating_all p (element_bodies (test_of K B) (bad_for_least K B) ES ES)) ≡ lines_text (stating_all p (bodies_of (aggregate_at t i).function (aggregate_at t i)))
  defining_min e = sym (ap (λ (bs : List Body). lines_text (stating_all p bs)) (bodies_min K (get_or t (i + 2) (pos 0)) ES)) ∙ by_is e

  pub defining_max : function_by (nat_at t i) ≡ Max → lines_text (stating_all p (element_bodies (test_of K B) (bad_for_most K B) ES ES)) ≡ lines_text (stating_all p (bodies_of (aggregate_at t i).function (aggregate_at t i)))
  defining_max e = sym (ap (λ (bs : List Body). lines_text (stating_all p bs)) (bodies_max K (get_or t (i + 2) (pos 0)) ES)) ∙ by_is e

-- a literal in use has its lines
pub used_some : (a : Aggregate) (p : ℕ) → (p ≡ 0 → ⊥) → lines_text (stating_all p (bodies_of a.function a)) ≡ used_lines a p
used_some a zero h = absurd (h refl)
used_some a (suc p) h = refl
