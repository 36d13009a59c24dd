-- The definitions of `specs/` one step at a time, as the code's loops and arms meet them. Assumes nothing.
use mathlib.Core.Path.{◌≡◌, refl, sym, ap}
use mathlib.Core.Logic.{⊎_elim}
use mathlib.Core.Bool.{Bool, true, false, ◌&&◌, not, and-false}
use mathlib.Core.List.{List, [], ◌∷◌, map}
use Prim.Native.Nat.{ℕ, zero, suc, ◌+◌, ◌-◌, ◌<◌, ◌≤◌, max}
use native.Mathlib.Nat.{eq-or-lt_of_le}
use native.Mathlib.Omega.{arith}
use borrow.Author.Tests.{lt-ltb, le-ltb, ltb-true, ltb-false}
use lib.Dec.{eqb, leb, ltb}
use lib.ListN.{length, get_or, take, drop}
use lib.Seq.{drop-cons}
use Rattle.std.specs.Prelude.{Option}
use Rattle.std.specs.List.{list_all}
use Rattle.std.specs.Cmp.Lexicographic.{pointwise}
use Rattle.meaning.specs.Foundedness.{same_list}
use Rattle.text.specs.Text.{pick, runs}
use Rattle.text.specs.Scan.{skipped, spanned}
use Rattle.text.proofs.Runs.{Starts, starts, start_runs, run_first, runs_end, span_end_run}
use Rattle.aspif.specs.Lines.{is_nil}
use Rattle.aspif_scan.specs.declared.number.Number.{Number}
use Rattle.aspif_scan.specs.declared.machine.State.{State}
use Rattle.aspif_scan.specs.declared.kind.Kind.TheVariants.{Closing, Comment, Other}
use Rattle.aspif_scan.specs.Machine.{higher_of, step_of, read_by}
use Rattle.aspif_scan.specs.Marks.{mark_of, marks_by, row_from, light_from}
use Rattle.aspif_scan.specs.Scan.{kind_of, number_of, numbers_in}

pub not_true : (b : Bool) → not b ≡ true → b ≡ false
not_true true e = sym e
not_true false e = refl

pub not_false : (b : Bool) → not b ≡ false → b ≡ true
not_false true e = refl
not_false false e = sym e

-- ---- the higher of two atoms

pub higher_max : (top p : ℕ) → p ≤ 256 → max top p ≡ higher_of top p
unfolding higher_of
higher_max top p h = rw (le-ltb 256 p h) (at (ltb top p) refl)
  where
    at : (b : Bool) → ltb top p ≡ b → max top p ≡ pick b p top
    at true e = omega (arith, ltb-true top p e)
    at false e = omega (arith, ltb-false top p e)

-- ---- a row

module _ (m : List ℕ) (i p n j q k : ℕ) (a : n ≡ suc k) (b : j ≡ suc i) (c : q ≡ suc p) where
  pub count_yes : 0 < get_or m i 0 → length (row_from m i p n) ≡ suc (length (row_from m j q k))
  unfolding row_from
  count_yes t = rw (a, b, c, row_from, lt-ltb 0 (get_or m i 0) t)

  pub count_no : get_or m i 0 ≤ 0 → length (row_from m i p n) ≡ length (row_from m j q k)
  unfolding row_from
  count_no t = rw (a, b, c, row_from, le-ltb 0 (get_or m i 0) t)

pub count_none : (m : List ℕ) (i p left : ℕ) → left ≤ 0 → length (row_from m i p left) ≡ 0
unfolding row_from
count_none m i p zero h = refl
count_none m i p (suc n) h = absurd (omega arith)

pub light_all : (m : List ℕ) (i n : ℕ) → i + n ≤ length m → list_all (λ (w : ℕ). leb w 65535) (take n (drop i m)) ≡ light_from m i n
unfolding light_from
light_all m i zero h = refl
light_all m i (suc n) h =
    let k : i < length m = omega arith in
    rw (drop-cons m i 0 k) (ap (λ (b : Bool). leb (get_or m i 0) 65535 && b) (light_all m (suc i) n (omega arith)))

-- ---- the same text

pub same_pointwise : (a b : List ℕ) → pointwise eqb a b ≡ same_list a b
same_pointwise [] [] = refl
same_pointwise [] (y ∷ b) = refl
same_pointwise (x ∷ a) [] = refl
same_pointwise (x ∷ a) (y ∷ b) = ap (λ (t : Bool). eqb x y && t) (same_pointwise a b)

-- ---- the kind of a line

apart : (f : List ℕ) → same_list f (49 ∷ 48 ∷ []) ≡ true → same_list f (48 ∷ []) ≡ false
apart [] e = refl
apart (b ∷ []) e = let q : (eqb b 49 && false) ≡ false = and-false (eqb b 49) in cc
apart (b ∷ c ∷ f) e = and-false (eqb b 48)

module _ (f : List ℕ) (fs : List (List ℕ)) where
  pub kind_comment : same_list f (49 ∷ 48 ∷ []) ≡ true → kind_of (f ∷ fs) ≡ Comment
  kind_comment e = rw (apart f e, e)

  pub kind_other : same_list f (49 ∷ 48 ∷ []) ≡ false → same_list f (48 ∷ []) ≡ false → kind_of (f ∷ fs) ≡ Other
  kind_other e d = rw (d, e)

  pub kind_more : same_list f (49 ∷ 48 ∷ []) ≡ false → same_list f (48 ∷ []) ≡ true → is_nil fs ≡ false → kind_of (f ∷ fs) ≡ Other
  kind_more e d n = rw (d, n, e)

  pub kind_closing : same_list f (48 ∷ []) ≡ true → is_nil fs ≡ true → kind_of (f ∷ fs) ≡ Closing
  kind_closing d n = rw (d, n)

-- the first field, which is empty where the line has none
pub first_field : (line : List ℕ) (at : ℕ) → at ≡ 0 + skipped (drop 0 line)
    → kind_of (runs line) ≡ kind_of (take (at + spanned (drop at line) - at) (drop at line) ∷ runs (drop (at + spanned (drop at line)) line))
first_field line at e =
    let s : Starts line at = rw e (starts line 0 (omega arith)) in
    let r : runs (drop at line) ≡ runs line = rw e (start_runs line 0) in
    ⊎_elim
    (λ h. let k : length line ≤ at = omega arith in rw (← r, runs_end line at k, span_end_run line at k))
    (λ h. rw (← r, run_first line at s h))
    (eq-or-lt_of_le s.inside)

pub field_more : (line : List ℕ) (end next : ℕ) → end ≤ length line → next ≡ end + skipped (drop end line) → next < length line → is_nil (runs (drop end line)) ≡ false
field_more line end next i e h =
    let s : Starts line next = rw e (starts line end i) in
    let r : runs (drop next line) ≡ runs (drop end line) = rw e (start_runs line end) in
    rw (← r, run_first line next s h)

pub field_none : (line : List ℕ) (end next : ℕ) → next ≡ end + skipped (drop end line) → length line ≤ next → is_nil (runs (drop end line)) ≡ true
field_none line end next e h =
    let r : runs (drop next line) ≡ runs (drop end line) = rw e (start_runs line end) in
    rw (← r, runs_end line next h)

-- ---- a line's numbers

module _ (s : State) (n : Option Number) (ns : List (Option Number)) where
  pub read_on : read_by s (n ∷ ns) ≡ read_by (step_of s n) ns
  unfolding read_by
  read_on = refl

  pub marks_on : (m : List ℕ) → marks_by s (n ∷ ns) m ≡ marks_by (step_of s n) ns (mark_of s n m)
  unfolding marks_by
  marks_on m = refl

pub read_none : (s : State) → read_by s [] ≡ s
unfolding read_by
read_none s = refl

pub marks_none : (s : State) (m : List ℕ) → marks_by s [] m ≡ m
unfolding marks_by
marks_none s m = refl

pub numbers_are : (line : List ℕ) → map number_of (runs line) ≡ numbers_in line
unfolding numbers_in
numbers_are line = refl
