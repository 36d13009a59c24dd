-- The running numbers over an aggregate's elements, one element at a time, and that they give its value. Assumes nothing.
use mathlib.Core.Path.{◌≡◌, refl, sym, ◌∙◌, ap, ap₂, fun_ext}
use mathlib.Core.Bool.{Bool, true, false, not, ◌&&◌, ◌||◌}
use mathlib.Core.Option.{Option, none, some}
use mathlib.Core.List.{List, [], ◌∷◌}
use Prim.Native.Nat.{ℕ, suc, ◌+◌, ◌≤◌, max}
use native.Mathlib.Numerals.{add-one}
use native.Mathlib.Omega.{arith}
use lib.Dec.{ltb, leb, leb-zero, leb-suc-zero, leb-suc-suc}
use lib.IntN.{ℤ, pos, negsuc}
use lib.ListN.{length, get_or}
use Rattle.meaning.specs.Lists.{all, any, cons_if}
use Rattle.layout.specs.Layout.{nat_at, function_by, comparison_by, pairs, pairs_at, aggregate_at}
use Rattle.meaning.specs.Aggregates.{values, total, join, least_of, most_of, value_of, compares, compared}
use Rattle.meaning.specs.Program.{Element}
use Rattle.meaning.specs.declared.Function.{Function}
use Rattle.meaning.specs.declared.Function.TheVariants.{Count, Sum, Min, Max}
use Rattle.meaning.specs.declared.Comparison.{Comparison}
use Rattle.meaning.specs.declared.Comparison.TheVariants.{Less, Greater}
use Rattle.meaning.proofs.Bounds.{least_below, most_above}
use Rattle.interpretation.specs.State.{Cell, undefined, defined}
use Rattle.interpretation.specs.View.{cell_value}
use Rattle.interpretation.specs.declared.Value.{Value}
use Rattle.interpretation.specs.declared.Value.TheVariants.{True, False, Undefined}
use Rattle.valuing.specs.Values.{lowest_of, highest_of, possibly, asks_each, between, decide, aggregate_value}
use Rattle.valuing.proofs.Compared.{of_each}
use Rattle.literals.specs.declared.aggregates.Totals.{Totals}
use Rattle.literals.specs.Elements.{Marks, limit_of, passes_by, weight_of, sum_of, added_by, totals_of, totals_value, marked_by, marks_of, marks_value}

-- ---- one element more

sum_none : (count : Bool) → sum_of count [] ≡ 0
sum_none true = refl
sum_none false = refl

sum_more : (count : Bool) (v : ℕ) (vs : List ℕ) → sum_of count (v ∷ vs) ≡ sum_of count vs + weight_of count v
sum_more true v vs = omega arith
sum_more false v vs = omega arith

module _ (count : Bool) (a : ℕ → Cell) where
  pub totals_none : record { low = 0; high = 0 } ≡ totals_of count a []
  unfolding totals_of
  totals_none = λ t. record { low = sym (sum_none count) t; high = sym (sum_none count) t }

  pub totals_more : (e : Element) (es : List Element) → totals_of count a (e ∷ es) ≡ added_by (cell_value (a e.atom)) (weight_of count e.value) (totals_of count a es)
  unfolding totals_of
  totals_more e es = at (a e.atom)
    where
      at : (c : Cell)
          → ◌≡◌ {A = Totals} (record { low = sum_of count (cons_if (Rattle.interpretation.specs.State.truth_of c) e.value (values (lowest_of a) es)); high = sum_of count (cons_if (possibly c) e.value (values (highest_of a) es)) })
          (added_by (cell_value c) (weight_of count e.value) (record { low = sum_of count (values (lowest_of a) es); high = sum_of count (values (highest_of a) es) }))
      at undefined = λ t. record { low = sum_of count (values (lowest_of a) es); high = sum_more count e.value (values (highest_of a) es) t }
      at (defined true l) = λ t. record { low = sum_more count e.value (values (lowest_of a) es) t; high = sum_more count e.value (values (highest_of a) es) t }
      at (defined false l) = refl

pub weight_most : (count : Bool) (v : ℕ) → v ≤ 65535 → weight_of count v ≤ 65535
weight_most true v h = omega arith
weight_most false v h = h

pub low_most : (v : Value) (x : ℕ) (t : Totals) → (added_by v x t).low ≤ t.low + x
low_most True x t = omega arith
low_most False x t = omega arith
low_most Undefined x t = omega arith

pub high_most : (v : Value) (x : ℕ) (t : Totals) → (added_by v x t).high ≤ t.high + x
high_most True x t = omega arith
high_most False x t = omega arith
high_most Undefined x t = omega arith

module _ (c : Comparison) (k : ℕ) (a : ℕ → Cell) where
  pub marks_none : record { passed = false; failed = false; passable = false; failable = false } ≡ marks_of c k a []
  unfolding marks_of
  marks_none = refl

  pub marks_more : (e : Element) (es : List Element) → marks_of c k a (e ∷ es) ≡ marked_by (cell_value (a e.atom)) (passes_by c k e.value) (marks_of c k a es)
  unfolding marks_of
  marks_more e es = at (a e.atom)
    where
      f : ℕ → Bool
      f v = not (passes_by c k v)

      at : (d : Cell)
          → ◌≡◌ {A = Marks} (record {
            passed = any (passes_by c k) (cons_if (Rattle.interpretation.specs.State.truth_of d) e.value (values (lowest_of a) es));
            failed = any (λ v. not (passes_by c k v)) (cons_if (Rattle.interpretation.specs.State.truth_of d) e.value (values (lowest_of a) es));
            passable = any (passes_by c k) (cons_if (possibly d) e.value (values (highest_of a) es));
            failable = any (λ v. not (passes_by c k v)) (cons_if (possibly d) e.value (values (highest_of a) es));
          }) (marked_by (cell_value d) (passes_by c k e.value) (record {
            passed = any (passes_by c k) (values (lowest_of a) es);
            failed = any (λ v. not (passes_by c k v)) (values (lowest_of a) es);
            passable = any (passes_by c k) (values (highest_of a) es);
            failable = any (λ v. not (passes_by c k v)) (values (highest_of a) es);
          }))
      at undefined = refl
      at (defined true l) = refl
      at (defined false l) = refl

-- ---- the threshold

pub passes_limit : (c : Comparison) (z : ℤ) (v : ℕ) → compares c z (some v) ≡ passes_by c (limit_of z) v
passes_limit Less (ℤ.pos n) v = sym (ap (λ (m : ℕ). ltb m (n + 1)) (add-one v) ∙ ap (ltb (suc v)) (add-one n) ∙ leb-suc-suc (suc v) n)
passes_limit Less (negsuc n) v = sym (leb-suc-zero (v + 1))
passes_limit Greater (ℤ.pos n) v = sym (ap (λ (m : ℕ). leb m v) (add-one n))
passes_limit Greater (negsuc n) v = sym (leb-zero v)

-- ---- min and max of a list

none_passes : (vs : List ℕ) → any (λ v. false) vs ≡ false
none_passes [] = refl
none_passes (v ∷ vs) = none_passes vs

negative : (t : ℕ) (o : Option ℕ) → compares Less (negsuc t) o ≡ false
negative t none = refl
negative t (some v) = refl

joined : (t v : ℕ) (o : Option ℕ) → compares Greater (negsuc t) (join max v o) ≡ true
joined t v none = refl
joined t v (some w) = refl

least_some : (z : ℤ) (vs : List ℕ) → compares Less z (least_of vs) ≡ any (λ v. compares Less z (some v)) vs
least_some (ℤ.pos t) vs = least_below t vs
least_some (negsuc t) vs = negative t (least_of vs) ∙ sym (none_passes vs)

most_some : (z : ℤ) (vs : List ℕ) → compares Greater z (most_of vs) ≡ any (λ v. compares Greater z (some v)) vs
most_some (ℤ.pos t) vs = most_above t vs
most_some (negsuc t) [] = refl
most_some (negsuc t) (v ∷ vs) = joined t v (most_of vs)

not_and : (b c : Bool) → (b && not c) ≡ not (not b || c)
not_and true c = refl
not_and false c = refl

all_not : (f : ℕ → Bool) (vs : List ℕ) → all f vs ≡ not (any (λ v. not (f v)) vs)
all_not f [] = refl
all_not f (v ∷ vs) = ap (λ (b : Bool). f v && b) (all_not f vs) ∙ not_and (f v) (any (λ v. not (f v)) vs)

-- ---- the value

-- by the function
abbrev pub found_by : Function → Comparison → ℕ → (ℕ → Cell) → List Element → Value
found_by Count c k a es = totals_value c k (totals_of true a es)
found_by Sum c k a es = totals_value c k (totals_of false a es)
found_by Min c k a es = marks_value (asks_each Min c) (marks_of c k a es)
found_by Max c k a es = marks_value (asks_each Max c) (marks_of c k a es)

module _ (a : ℕ → Cell) (z : ℤ) (es : List Element) where
  abbrev low : List ℕ
  low = values (lowest_of a) es

  abbrev high : List ℕ
  high = values (highest_of a) es

  -- the marks of any test
  abbrev marks : (ℕ → Bool) → Marks
  marks f = record { passed = any f low; failed = any (λ v. not (f v)) low; passable = any f high; failable = any (λ v. not (f v)) high }

  tests : (c : Comparison) → (λ (v : ℕ). compares c z (some v)) ≡ passes_by c (limit_of z)
  tests c = fun_ext (passes_limit c z)

  by_totals : (c : Comparison) (m n : ℕ) → between (compares c z (some m)) (compares c z (some n)) ≡ between (passes_by c (limit_of z) m) (passes_by c (limit_of z) n)
  by_totals c m n = ap (λ (b : Bool). between b (compares c z (some n))) (passes_limit c z m) ∙ ap (between (passes_by c (limit_of z) m)) (passes_limit c z n)

  by_some : (c : Comparison) (f : Function) → ((vs : List ℕ) → compares c z (value_of f vs) ≡ any (λ v. compares c z (some v)) vs)
      → between (compares c z (value_of f low)) (compares c z (value_of f high)) ≡ between (any (passes_by c (limit_of z)) low) (any (passes_by c (limit_of z)) high)
  by_some c f g =
      ap (λ (b : Bool). between b (compares c z (value_of f high))) (g low) ∙ ap (between (any (λ v. compares c z (some v)) low)) (g high)
      ∙ ap (λ (h : ℕ → Bool). between (any h low) (any h high)) (tests c)

  by_each : (c : Comparison) (f : Function) → asks_each f c ≡ true
      → decide (compares c z (value_of f low) && compares c z (value_of f high)) (any (λ v. not (compares c z (some v))) low || not (any (λ v. compares c z (some v)) high))
      ≡ marks_value true (marks (passes_by c (limit_of z)))
  by_each c f h =
      ap (λ (b : Bool). decide (b && compares c z (value_of f high)) fails) (each low) ∙ ap (λ (b : Bool). decide ((any P low && not (any (λ v. not (P v)) low)) && b) fails) (each high)
      ∙ ap (λ (g : ℕ → Bool). marks_value true (marks g)) (tests c)
    where
      P : ℕ → Bool
      P v = compares c z (some v)

      fails : Bool
      fails = any (λ v. not (P v)) low || not (any P high)

      each : (vs : List ℕ) → compares c z (value_of f vs) ≡ (any P vs && not (any (λ v. not (P v)) vs))
      each vs = of_each f c z h vs ∙ ap (λ (b : Bool). any P vs && b) (all_not P vs)

  pub found_right : (f : Function) (c : Comparison) → aggregate_value a (record { function = f; comparison = c; threshold = z; elements = es }) ≡ found_by f c (limit_of z) a es
  unfolding aggregate_value compared totals_of marks_of
  found_right Count c = by_totals c (length low) (length high)
  found_right Sum c = by_totals c (total low) (total high)
  found_right Min Less = by_some Less Min (least_some z)
  found_right Min Greater = by_each Greater Min refl
  found_right Max Less = by_each Less Max refl
  found_right Max Greater = by_some Greater Max (most_some z)

-- the same of the aggregate that begins at i
pub found_at : (X : ℕ → Cell) (t : List ℤ) (i : ℕ) (f : Function) (c : Comparison) (k : ℕ) (w : List ℤ) → f ≡ function_by (nat_at t i) → c ≡ comparison_by (nat_at t (i + 1))
    → k ≡ limit_of (get_or t (i + 2) (pos 0)) → w ≡ pairs_at t i → found_by f c k X (pairs w) ≡ aggregate_value X (aggregate_at t i)
unfolding aggregate_at
found_at X t i f c k w ef ec ek ew =
    ap (λ (g : Function). found_by g c k X (pairs w)) ef ∙ ap (λ (x : Comparison). found_by (function_by (nat_at t i)) x k X (pairs w)) ec
    ∙ ap₂ (λ (n : ℕ) (m : List ℤ). found_by (function_by (nat_at t i)) (comparison_by (nat_at t (i + 1))) n X (pairs m)) ek ew
    ∙ sym (found_right X (get_or t (i + 2) (pos 0)) (pairs (pairs_at t i)) (function_by (nat_at t i)) (comparison_by (nat_at t (i + 1))))

-- an element more of those walked, or of the rest
pub added_on : (v : Value) (x : ℕ) (t u : Totals)
    → ((added_by v x t).low + u.low ≡ t.low + (added_by v x u).low) × ((added_by v x t).high + u.high ≡ t.high + (added_by v x u).high)
added_on True x t u = (omega arith, omega arith)
added_on False x t u = (omega arith, omega arith)
added_on Undefined x t u = (omega arith, omega arith)
