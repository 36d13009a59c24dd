-- The rows that a statement's numbers leave are its sorted and merged lists. Assumes nothing.
use mathlib.Core.Path.{◌≡◌, refl, sym, ap, ◌∙◌}
use mathlib.Core.Bool.{Bool, true, false, ◌||◌}
use mathlib.Core.List.Memᴰ
use mathlib.Core.List.{List, [], ◌∷◌}
use mathlib.Core.Option.{Option, some, none}
use Prim.Native.Nat.{ℕ, zero, suc, ◌+◌, ◌-◌, ◌<◌, ◌≤◌, min}
use native.Mathlib.Omega.{arith}
use borrow.Author.Tests.{eq-eqb}
use lib.Dec.{eqb, leb, ltb}
use lib.IntN.{ℤ, pos, negsuc}
use lib.ListN.{get_or}
use Rattle.meaning.specs.Lists.{◌∈◌, all, cons_if, has}
use Rattle.meaning.specs.Program.{Element}
use Rattle.meaning.specs.Aggregates.{values, total}
use Rattle.text.specs.Text.{pick}
use Rattle.aspif.specs.Statements.{Signed, positives, negateds}
use Rattle.aspif.specs.Reading.{atoms_of, sorted, weight_of, merged_from, merged}
use Rattle.aspif.specs.Lines.{Weighed, cons_weight, weights_in}
use Rattle.aspif_scan.specs.Marks.{row_from, weights_from, light_from}
use Rattle.aspif_read.specs.Survey.{no_marks}
use Rattle.aspif_read.proofs.Bounds.{none_at}
use Rattle.aspif_read.proofs.Leaves.{cap, capped, mark_atoms, mark_literals, pair_atoms, mark_pairs}
use Rattle.aspif_read.proofs.Rows.{idx, Sound, times, marked, weighing, atoms_cell, atoms_other, literals_positive, literals_negated, literals_other, pairs_atoms, pairs_weights, pairs_other, atoms_sound, none_sound}
use Rattle.aspif_read.proofs.ReadOut.{row_is, weights_list, light_list, light_at}

-- ---- the rows of a statement with a normal body

zero_cell : (i : ℕ) → ◌≡◌ {A = ℕ} (get_or no_marks i 0) 0
zero_cell i = none_at 1280 i

module _ (h : List ℕ) (l : List Signed) where
  abbrev pub plain_marks : List ℕ
  plain_marks = mark_literals (mark_atoms no_marks h) l

  started : Sound (mark_atoms no_marks h)
  started = atoms_sound h no_marks none_sound

  pub plain_head_lem : row_from plain_marks 0 1 256 ≡ sorted h
  plain_head_lem = row_is plain_marks h 0 (λ p i j. marked p h _ (literals_other p i j l (mark_atoms no_marks h) started 0 (omega arith) (λ z. omega arith) (λ z. omega arith)
      ∙ atoms_cell p i j h no_marks none_sound ∙ ap (λ (c : ℕ). min (c + times p h) 65536) (zero_cell (idx 0 p))))

  blank : (row p : ℕ) → 1 ≤ p → p ≤ 256 → row < 5 → (0 ≡ row → ⊥) → get_or (mark_atoms no_marks h) (idx row p) 0 ≡ 0
  blank row p i j o n = atoms_other p i j h no_marks none_sound row o n ∙ zero_cell (idx row p)

  pub plain_positive : row_from plain_marks 256 1 256 ≡ sorted (positives l)
  plain_positive = row_is plain_marks (positives l) 1 (λ p i j. marked p (positives l) _ (literals_positive p i j l (mark_atoms no_marks h) started
      ∙ ap (λ (c : ℕ). min (c + times p (positives l)) 65536) (blank 1 p i j (omega arith) (λ z. omega arith))))

  pub plain_negated : row_from plain_marks 512 1 256 ≡ sorted (negateds l)
  plain_negated = row_is plain_marks (negateds l) 2 (λ p i j. marked p (negateds l) _ (literals_negated p i j l (mark_atoms no_marks h) started
      ∙ ap (λ (c : ℕ). min (c + times p (negateds l)) 65536) (blank 2 p i j (omega arith) (λ z. omega arith))))

  pub plain_elements : row_from plain_marks 768 1 256 ≡ sorted []
  plain_elements = row_is plain_marks [] 3 (λ p i j. marked p [] _ (literals_other p i j l (mark_atoms no_marks h) started 3 (omega arith) (λ z. omega arith) (λ z. omega arith)
      ∙ blank 3 p i j (omega arith) (λ z. omega arith)))

  pub plain_light : light_from plain_marks 1024 256 ≡ true
  unfolding merged has
  plain_light = light_list [] plain_marks 256 1024 1 (λ q i j. (
    literals_other q i (omega arith) l (mark_atoms no_marks h) started 4 (omega arith) (λ z. omega arith) (λ z. omega arith)
        ∙ blank 4 q i (omega arith) (omega arith) (λ z. omega arith),
    λ z. refl,
  )) ∙ nothing 256 1
    where
      nothing : (n p : ℕ) → all (λ (e : Element). leb e.value 65535) (merged_from p n []) ≡ true
      nothing zero p = refl
      nothing (suc n) p = nothing n (suc p)

-- ---- weights as they are meant

pub weights_cons : (x : Weighed) (l : List Weighed) (es : List Element) → weights_in (x ∷ l) ≡ some es
    → (v : ℕ) × (ds : List Element) × (x.weight ≡ pos v) × (weights_in l ≡ some ds) × (es ≡ record { value = v; atom = x.atom } ∷ ds)
weights_cons x l es e = at (weights_in l) refl x.weight refl
  where
    at : (o : Option (List Element)) → weights_in l ≡ o → (z : ℤ) → x.weight ≡ z
        → (v : ℕ) × (ds : List Element) × (x.weight ≡ pos v) × (weights_in l ≡ some ds) × (es ≡ record { value = v; atom = x.atom } ∷ ds)
    at none f z g = absurd (let q : cons_weight x none ≡ some es = ap (cons_weight x) (sym f) ∙ e in let y : ◌≡◌ {A = ℕ} 0 1 = cc in omega arith)
    at (some ds) f (ℤ.pos v) g =
        let q : cons_weight x (some ds) ≡ some es = ap (cons_weight x) (sym f) ∙ e in
        let y : cons_weight x (some ds) ≡ some (record { value = v; atom = x.atom } ∷ ds) = rw (g, cons_weight) in
        let j : es ≡ record { value = v; atom = x.atom } ∷ ds = cc in
        (v, ds, g, f, j)
    at (some ds) f (negsuc v) g =
        let q : cons_weight x (some ds) ≡ some es = ap (cons_weight x) (sym f) ∙ e in
        let y : cons_weight x (some ds) ≡ none = rw (g, cons_weight) in
        absurd (let z : ◌≡◌ {A = ℕ} 0 1 = cc in omega arith)

pub pair_atoms_of : (l : List Weighed) (es : List Element) → weights_in l ≡ some es → pair_atoms l ≡ atoms_of es
pair_atoms_of [] es e = let q : es ≡ [] = cc in sym (ap atoms_of q)
pair_atoms_of (x ∷ l) es e =
    let t = weights_cons x l es e in
    ap (λ (k : List ℕ). x.atom ∷ k) (pair_atoms_of l t.1 t.3) ∙ sym (ap atoms_of t.4)

weighing_of : (p : ℕ) (h : 1 ≤ p) (k : p ≤ 256) (l : List Weighed) (es : List Element) → weights_in l ≡ some es → min (weighing p h k l) 65536 ≡ min (weight_of p es) 65536
weighing_of p h k [] es e = let q : es ≡ [] = cc in sym (ap (λ (d : List Element). min (weight_of p d) 65536) q)
weighing_of p h k (x ∷ l) es e =
    let t = weights_cons x l es e in
    let r = weighing_of p h k l t.1 t.3 in
    at t.1 (eqb p x.atom) t.0 t.2 r ∙ sym (ap (λ (d : List Element). min (weight_of p d) 65536) t.4)
  where
    at : (ds : List Element) (b : Bool) (v : ℕ) → x.weight ≡ pos v → min (weighing p h k l) 65536 ≡ min (weight_of p ds) 65536
        → min (pick b (capped x.weight).size 0 + weighing p h k l) 65536 ≡ min (total (cons_if b v (values (eqb p) ds))) 65536
    at ds true v g r = let s : (capped x.weight).size ≡ cap v = ap (λ (z : ℤ). (capped z).size) g in omega arith
    at ds false v g r = omega arith

no_weight : (p : ℕ) (es : List Element) → has p (atoms_of es) ≡ false → weight_of p es ≡ 0
unfolding has
no_weight p [] e = refl
no_weight p (x ∷ es) e = at (eqb p x.atom) (λ g. no_weight p es g) e
  where
    at : (b : Bool) → (has p (atoms_of es) ≡ false → weight_of p es ≡ 0) → (b || has p (atoms_of es)) ≡ false → total (cons_if b x.value (values (eqb p) es)) ≡ 0
    at true r g = absurd (let z : ◌≡◌ {A = ℕ} 0 1 = cc in omega arith)
    at false r g = r g

-- ---- the rows of a statement with a weight body

module _ (h : List ℕ) (l : List Weighed) where
  abbrev pub weigh_marks : List ℕ
  weigh_marks = mark_pairs (mark_atoms no_marks h) l

  begun : Sound (mark_atoms no_marks h)
  begun = atoms_sound h no_marks none_sound

  pub weigh_head : row_from weigh_marks 0 1 256 ≡ sorted h
  weigh_head = row_is weigh_marks h 0 (λ p i j. marked p h _ (pairs_other p i j l (mark_atoms no_marks h) begun 0 (omega arith) (λ z. omega arith) (λ z. omega arith)
      ∙ atoms_cell p i j h no_marks none_sound ∙ ap (λ (c : ℕ). min (c + times p h) 65536) (zero_cell (idx 0 p))))

  clear : (row p : ℕ) → 1 ≤ p → p ≤ 256 → row < 5 → (0 ≡ row → ⊥) → get_or (mark_atoms no_marks h) (idx row p) 0 ≡ 0
  clear row p i j o n = atoms_other p i j h no_marks none_sound row o n ∙ zero_cell (idx row p)

  pub weigh_positive : row_from weigh_marks 256 1 256 ≡ sorted []
  weigh_positive = row_is weigh_marks [] 1 (λ p i j. marked p [] _ (pairs_other p i j l (mark_atoms no_marks h) begun 1 (omega arith) (λ z. omega arith) (λ z. omega arith) ∙ clear 1 p i j (omega arith) (λ z. omega arith)))

  pub weigh_negated : row_from weigh_marks 512 1 256 ≡ sorted []
  weigh_negated = row_is weigh_marks [] 2 (λ p i j. marked p [] _ (pairs_other p i j l (mark_atoms no_marks h) begun 2 (omega arith) (λ z. omega arith) (λ z. omega arith) ∙ clear 2 p i j (omega arith) (λ z. omega arith)))

  listed_cell : (p : ℕ) → 1 ≤ p → p ≤ 256 → ltb 0 (get_or weigh_marks (idx 3 p) 0) ≡ has p (pair_atoms l)
  listed_cell p i j = marked p (pair_atoms l) _ (pairs_atoms p i j l (mark_atoms no_marks h) begun ∙ ap (λ (c : ℕ). min (c + times p (pair_atoms l)) 65536) (clear 3 p i j (omega arith) (λ z. omega arith)))

  weight_cell : (p : ℕ) (i : 1 ≤ p) (j : p ≤ 256) → get_or weigh_marks (idx 4 p) 0 ≡ min (weighing p i j l) 65536
  weight_cell p i j = pairs_weights p i j l (mark_atoms no_marks h) begun ∙ ap (λ (c : ℕ). min (c + weighing p i j l) 65536) (clear 4 p i j (omega arith) (λ z. omega arith))
      ∙ (let z : 0 + weighing p i j l ≡ weighing p i j l = omega arith in ap (λ (c : ℕ). min c 65536) z)

  -- a light table has light pairs
  size_in_lem : (p : ℕ) (i : 1 ≤ p) (j : p ≤ 256) (k : List Weighed) (x : Weighed) → x ∈ k → x.atom ≡ p → (capped x.weight).size ≤ weighing p i j k
  size_in_lem p i j (y ∷ k) x (Memᴰ.head e) f =
      let g : eqb p y.atom ≡ true = eq-eqb p y.atom (sym f ∙ ap (λ (z : Weighed). z.atom) e) in
      let q : (capped x.weight).size ≡ (capped y.weight).size = ap (λ (z : Weighed). (capped z.weight).size) e in
      rw g (omega arith)
  size_in_lem p i j [] x x4 f = elim x4 [ ]
  size_in_lem p i j (y ∷ k) x (Memᴰ.tail m) f = let r = size_in_lem p i j k x m f in omega arith

  pub light_sizes : light_from weigh_marks 1024 256 ≡ true → (x : Weighed) → x ∈ l → 1 ≤ x.atom → x.atom ≤ 256 → (capped x.weight).size ≤ 65535
  light_sizes e x m i j =
      let s = size_in_lem x.atom i j l x m refl in
      let c = weight_cell x.atom i j in
      let k : 1024 + (x.atom - 1) ≡ idx 4 x.atom = omega arith in
      let g = light_at weigh_marks 256 1024 (x.atom - 1) e (omega arith) in
      let g' : get_or weigh_marks (idx 4 x.atom) 0 ≤ 65535 = rw k at g in
      omega arith

  module _ (es : List Element) (e : weights_in l ≡ some es) where
    pub weigh_elements : row_from weigh_marks 768 1 256 ≡ sorted (atoms_of es)
    weigh_elements = row_is weigh_marks (pair_atoms l) 3 listed_cell ∙ ap sorted (pair_atoms_of l es e)

    pub weigh_light : light_from weigh_marks 1024 256 ≡ all (λ (x : Element). leb x.value 65535) (merged es)
    unfolding merged
    weigh_light = light_list es weigh_marks 256 1024 1 (λ q i j. (weight_cell q i (omega arith) ∙ weighing_of q i (omega arith) l es e, no_weight q es))

    pub weigh_weights : light_from weigh_marks 1024 256 ≡ true → weights_from weigh_marks 768 1 256 ≡ merged es
    unfolding merged
    weigh_weights f = weights_list es weigh_marks 256 768 1 (λ q i j. (
      listed_cell q i (omega arith) ∙ ap (has q) (pair_atoms_of l es e),
      let k : 1024 + (q - 1) ≡ 768 + (q - 1) + 256 = omega arith in
          let c : get_or weigh_marks (1024 + (q - 1)) 0 ≡ min (weight_of q es) 65536 = weight_cell q i (omega arith) ∙ weighing_of q i (omega arith) l es e in
          let g = light_at weigh_marks 256 1024 (q - 1) f (omega arith) in
          ap (λ (x : ℕ). get_or weigh_marks x 0) (sym k) ∙ c ∙ (omega arith),
    ))
