-- The words of a list read one after the other, the array of marks read as a set of atoms, and the array of candidates.
-- Assumes nothing.
use Prim.Native.Nat.{ℕ, zero, suc, ◌+◌, ◌-◌, ◌≤◌, ◌<◌}
use native.Mathlib.Omega.{arith}
use native.Mathlib.Numerals.{add-one}
use mathlib.Core.Path.{◌≡◌, refl, sym, ap, ◌∙◌, fun_ext}
use mathlib.Core.Logic.{◌⊎◌, inl, inr, ◌≢◌}
use mathlib.Core.Bool.{Bool, true, false, not, ◌&&◌, ◌||◌}
use mathlib.Core.List.{List, [], ◌∷◌, ◌++◌, append-nil}
use lib.Dec.{eqb}
use lib.IntN.{ℤ, pos, nat_abs}
use lib.ListN.{length, get_or, set, take, drop, drop_of_length-le, replicate, get_or-replicate, get_or-eq_default, length-replicate}
use lib.Seq.{drop-cons, get_or-set_same, get_or-set_other, take-suc-set, append_snoc, length-take-le, get_or-take, take-set-le, take-set-lt, drop-set-lt}
use Rattle.meaning.specs.Lists.{all}
use Rattle.meaning.proofs.Tools.{eq, eq_i, or_r, contra}
use Rattle.meaning.proofs.Cond.{if_eq_yes, if_eq_no, eq_case, lt_case}
use Rattle.meaning.specs.Foundedness.{atoms_to}
use Rattle.interpretation.specs.State.{Cell, undefined, defined, truth_of}
use Rattle.interpretation.specs.View.{cell_value}
use Rattle.valuing.specs.Values.{says_true}
use Rattle.std.specs.List.{list_all, range_with_len}
use Rattle.std.proofs.lemmas.List.{get_or_default}
use Rattle.layout.specs.Layout.{Members, atoms}
use Rattle.foundation.specs.Walk.{marked, fits, Stands, with_atom}

-- ---- the words of a list

-- a test of their atoms
pub all_words : (f : ℕ → Bool) (l : List ℤ) → list_all (λ (w : ℤ). f (nat_abs w)) l ≡ all f (atoms l)
all_words f [] = refl
all_words f (w ∷ l) = ap (λ (b : Bool). f (nat_abs w) && b) (all_words f l)

-- each is in the range of the list's atoms
pub in_range : (l : List ℤ) → Members 256 l → (k : ℕ) (w : ℤ) → k < length l → w ≡ get_or l k w → (1 ≤ nat_abs w) × (nat_abs w ≤ 256)
in_range l m k w h e = let s : get_or l k w ≡ get_or l k (pos 0) = get_or_default l k w (pos 0) h in rw (e ∙ s) (m k h)

-- ---- a test on the atoms 1 .. n

module _ (f : ℕ → Bool) where
  turned : (r b s : Bool) → (r && (b && s)) ≡ ((b && r) && s)
  turned true b s = ap (λ (x : Bool). x && s) (at b)
    where
      at : (b : Bool) → b ≡ (b && true)
      at true = refl
      at false = refl
  turned false b s = ap (λ (x : Bool). x && s) (at b)
    where
      at : (b : Bool) → false ≡ (b && false)
      at true = refl
      at false = refl

  -- those above m
  atoms_above : (n m : ℕ) → all f (atoms_to (n + m)) ≡ (list_all f (range_with_len (suc m) n) && all f (atoms_to m))
  atoms_above zero m = let e : 0 + m ≡ m = omega arith in ap (λ (k : ℕ). all f (atoms_to k)) e
  atoms_above (suc n) m =
      (let e : suc n + m ≡ n + suc m = omega arith in ap (λ (k : ℕ). all f (atoms_to k)) e)
      ∙ atoms_above n (suc m)
      ∙ turned (list_all f (range_with_len (suc (suc m)) n)) (f (suc m)) (all f (atoms_to m))
      ∙ (let e : suc (suc m) ≡ suc m + 1 = omega arith in ap (λ (k : ℕ). (f (suc m) && list_all f (range_with_len k n)) && all f (atoms_to m)) e)

  pub all_atoms : (n : ℕ) → list_all f (range_with_len 1 n) ≡ all f (atoms_to n)
  all_atoms n = at (list_all f (range_with_len 1 n)) ∙ sym (atoms_above n 0) ∙ (let e : n + 0 ≡ n = omega arith in ap (λ (k : ℕ). all f (atoms_to k)) e)
    where
      at : (b : Bool) → b ≡ (b && true)
      at true = refl
      at false = refl

-- ---- values

pub truth_value : (c : Cell) → truth_of c ≡ says_true (cell_value c)
truth_value undefined = refl
truth_value (defined true l) = refl
truth_value (defined false l) = refl

pub fits_same : (a : ℕ → Cell) (p h : ℕ) → h ≡ p → fits a p h ≡ true
fits_same a p h e = or_r (not (truth_of (a h))) (eqb h p) (eq_i e)

pub fits_other : (a : ℕ → Cell) (p h : ℕ) → h ≢ p → fits a p h ≡ not (truth_of (a h))
fits_other a p h n = ap (λ (b : Bool). not (truth_of (a h)) || b) (contra (eqb h p) {b = false} (λ k. absurd (n (eq h p k))) refl) ∙ at (not (truth_of (a h)))
  where
    at : (b : Bool) → (b || false) ≡ b
    at true = refl
    at false = refl

-- ---- marks

pub marked_suc : (ms : List Bool) (i : ℕ) → marked ms (suc i) ≡ get_or ms i false
unfolding marked
marked_suc ms i = refl

pub marked_zero : (ms : List Bool) → marked ms 0 ≡ false
unfolding marked
marked_zero ms = refl

pub marked_at : (ms : List Bool) (p : ℕ) → 1 ≤ p → marked ms p ≡ get_or ms (p - 1) false
marked_at ms p h = let e : p ≡ suc (p - 1) = omega arith in ap (marked ms) e ∙ marked_suc ms (p - 1)

-- that of the atom at index i
pub marked_next : (ms : List Bool) (i : ℕ) → marked ms (i + 1) ≡ get_or ms i false
marked_next ms i = ap (marked ms) (add-one i) ∙ marked_suc ms i

pub marked_with : (ms : List Bool) (i : ℕ) → i < length ms → marked (set ms i true) ≡ with_atom (i + 1) (marked ms)
marked_with ms i h = fun_ext (λ q. at q (eq_case q (i + 1)))
  where
    at : (q : ℕ) → (q ≡ i + 1) ⊎ (q ≢ i + 1) → marked (set ms i true) q ≡ with_atom (i + 1) (marked ms) q
    at q (inl e) = ap (marked (set ms i true)) e ∙ marked_next (set ms i true) i ∙ get_or-set_same ms i true false h ∙ sym (if_eq_yes q (i + 1) true (marked ms q) e)
    at zero (inr n) = marked_zero (set ms i true) ∙ sym (marked_zero ms) ∙ sym (if_eq_no 0 (i + 1) true (marked ms 0) n)
    at (suc j) (inr n) =
        let m : j ≢ i = λ e. n (omega arith) in
        marked_suc (set ms i true) j ∙ get_or-set_other ms i j true false m ∙ sym (marked_suc ms j) ∙ sym (if_eq_no (suc j) (i + 1) true (marked ms (suc j)) n)

pub marked_none : (n p : ℕ) → marked (replicate n false) p ≡ false
marked_none n zero = marked_zero (replicate n false)
marked_none n (suc i) = marked_suc (replicate n false) i ∙ at (lt_case i n)
  where
    at : (i < n) ⊎ (n ≤ i) → ◌≡◌ {A = Bool} (get_or (replicate n false) i false) false
    at (inl h) = get_or-replicate n i false false h
    at (inr h) = let e = length-replicate {A = Bool} n false in get_or-eq_default (replicate n false) false (omega arith)

-- ---- an array at whose first places a list stands

-- one more: those that stand and those to come are the same as before where the first to come is written
pub grown : (b : List ℕ) (n x : ℕ) (l w : List ℕ) → n < length b → take n b ++ x ∷ l ≡ w → take (n + 1) (set b n x) ++ l ≡ w
grown b n x l w h e =
    ap (λ (m : ℕ). take m (set b n x) ++ l) (add-one n) ∙ ap (λ (m : List ℕ). m ++ l) (take-suc-set b n x h) ∙ append_snoc (take n b) x l ∙ e

-- none is to come
pub stands_i : (b : List ℕ) (n : ℕ) (l w : List ℕ) → length b ≡ 1024 → n ≤ 1024 → take n b ++ l ≡ w → l ≡ [] → Stands w b n
stands_i b n l w s h e z =
    let same : take n b ≡ w = sym (append-nil (take n b)) ∙ ap (λ (m : List ℕ). take n b ++ m) (sym z) ∙ e in
    record { number = sym (length-take-le n b (omega arith)) ∙ ap (length {A = ℕ}) same; sized = s; few = h; same = same }

-- the candidates from the k-th on
module _ (b : List ℕ) (n : ℕ) where
  abbrev pub rest : ℕ → List ℕ
  rest k = drop k (take n b)

  pub rest_on : (k : ℕ) → k < n → n ≤ length b → rest k ≡ get_or b k 0 ∷ rest (k + 1)
  rest_on k h m =
      let l = length-take-le n b m in
      drop-cons (take n b) k 0 (omega arith)
      ∙ ap (λ (x : ℕ). x ∷ drop (suc k) (take n b)) (get_or-take n b k 0 h)
      ∙ ap (λ (j : ℕ). get_or b k 0 ∷ drop j (take n b)) (sym (add-one k))

  pub rest_end : (k : ℕ) → n ≤ k → n ≤ length b → rest k ≡ []
  rest_end k h m =
      let l = length-take-le n b m in
      let o : length (take n b) ≤ k = omega arith in
      drop_of_length-le (take n b) o

-- what is written before the k-th leaves them as they are
pub rest_set : (b : List ℕ) (n k j x : ℕ) → j < k → rest (set b j x) n k ≡ rest b n k
rest_set b n k j x h = at (lt_case j n)
  where
    at : (j < n) ⊎ (n ≤ j) → rest (set b j x) n k ≡ rest b n k
    at (inl l) = ap (drop k) (take-set-lt n b j x l) ∙ drop-set-lt k (take n b) j x h
    at (inr l) = ap (drop k) (take-set-le n b j x l)
