-- The marks that a statement leaves, cell by cell, and that the rows read out are the sorted and merged lists of `Reading`. Assumes nothing.
use mathlib.Core.Path.{◌≡◌, refl, sym, ap, ◌∙◌}
use mathlib.Core.Bool.{Bool, true, false, ◌||◌, not}
use mathlib.Core.List.{List, [], ◌∷◌}
use Prim.Native.Nat.{ℕ, zero, suc, ◌+◌, ◌*◌, ◌-◌, ◌<◌, ◌≤◌, min}
use native.Mathlib.Omega.{arith}
use borrow.Author.Tests.{lt-ltb, le-ltb, ltb-true, ltb-false, leb-true, leb-false, eqb-true, eqb-false, ne_eqb}
use lib.Dec.{eqb, leb, ltb}
use lib.ListN.{length, get_or, length-set, length-replicate}
use lib.Seq.{get_or-set_same, get_or-set_other}
use Rattle.std.specs.Prelude.{Option, Some, None}
use Rattle.meaning.specs.Lists.{cons_if, has}
use Rattle.text.specs.Text.{pick}
use Rattle.aspif.specs.Statements.{Signed, positives, negateds}
use Rattle.aspif.specs.Lines.{Weighed}
use Rattle.aspif_scan.specs.Marks.{slot_of, literal_row, add_of}
use Rattle.aspif_read.specs.Survey.{no_marks}
use Rattle.aspif_read.specs.Writing.{Capped}
use Rattle.aspif_read.proofs.Bounds.{add_capped, none_at}
use Rattle.aspif_read.proofs.Leaves.{cap, capped, mark_atoms, mark_literals, pair_atoms, mark_pairs}

-- ---- one cell

-- the index of the atom p in a row
abbrev pub idx : ℕ → ℕ → ℕ
idx row p = row * 256 + (p - 1)

pub record Sound (m : List ℕ) : Type 0 where
  pub long : length m ≡ 1280
  pub low : Capped m

add_long : (m : List ℕ) (slot : Option ℕ) (a : ℕ) → length (add_of m slot a) ≡ length m
unfolding add_of
add_long m None a = refl
add_long m (Some i) a = length-set m i (min (get_or m i 0 + a) 65536)

add_sound : (m : List ℕ) (slot : Option ℕ) (a : ℕ) → Sound m → Sound (add_of m slot a)
add_sound m slot a s = record { long = add_long m slot a ∙ s.long; low = add_capped m slot a s.low }

add_same : (m : List ℕ) (i a : ℕ) → length m ≡ 1280 → i < 1280 → get_or (add_of m (Some i) a) i 0 ≡ min (get_or m i 0 + a) 65536
unfolding add_of
add_same m i a l h = get_or-set_same m i (min (get_or m i 0 + a) 65536) 0 (omega arith)

add_other : (m : List ℕ) (slot : Option ℕ) (a j : ℕ) → (Some j ≡ slot → ⊥) → get_or (add_of m slot a) j 0 ≡ get_or m j 0
unfolding add_of
add_other m None a j n = refl
add_other m (Some i) a j n = get_or-set_other m i j (min (get_or m i 0 + a) 65536) 0 (λ e. n (ap Some e))

-- ---- slots

slot_in : (row q : ℕ) → 1 ≤ q → q ≤ 256 → slot_of row (cap q) ≡ Some (idx row q)
unfolding slot_of
slot_in row q h k =
    let e : cap q ≡ q = omega arith in
    rw (e, ne_eqb q 0 (λ z. omega arith), le-ltb 256 q k)

slot_none : (row : ℕ) → slot_of row (cap 0) ≡ None
unfolding slot_of
slot_none row = refl

slot_over : (row q : ℕ) → 256 < q → slot_of row (cap q) ≡ None
unfolding slot_of
slot_over row q h = rw (ne_eqb (cap q) 0 (λ z. omega arith), lt-ltb 256 (cap q) (omega arith))

slot_apart : (row other p q : ℕ) → row < 5 → other < 5 → 1 ≤ p → p ≤ 256 → (row ≡ other → p ≡ q → ⊥) → Some (idx other p) ≡ slot_of row (cap q) → ⊥
slot_apart row other p zero r o h k n e =
    let s = e ∙ slot_none row in
    absurd (let z : ◌≡◌ {A = ℕ} 0 1 = cc in omega arith)
slot_apart row other p (suc q) r o h k n e = at (leb (suc q) 256) refl
  where
    at : (b : Bool) → leb (suc q) 256 ≡ b → ⊥
    at true f =
        let s = e ∙ slot_in row (suc q) (omega arith) (leb-true (suc q) 256 f) in
        let i : idx other p ≡ idx row (suc q) = cc in
        let g = leb-true (suc q) 256 f in
        let a : row ≡ other = omega arith in
        let b : p ≡ suc q = omega arith in
        n a b
    at false f =
        let s = e ∙ slot_over row (suc q) (leb-false (suc q) 256 f) in
        absurd (let z : ◌≡◌ {A = ℕ} 0 1 = cc in omega arith)

module _ (m : List ℕ) (s : Sound m) (row p : ℕ) (r : row < 5) (h : 1 ≤ p) (k : p ≤ 256) (q a : ℕ) where
  hit : get_or (add_of m (slot_of row (cap q)) a) (idx row p) 0 ≡ min (get_or m (idx row p) 0 + pick (eqb p q) a 0) 65536
  hit = at (eqb p q) refl
    where
      at : (b : Bool) → eqb p q ≡ b → get_or (add_of m (slot_of row (cap q)) a) (idx row p) 0 ≡ min (get_or m (idx row p) 0 + pick b a 0) 65536
      at true e =
          let f = eqb-true p q e in
          let g : slot_of row (cap q) ≡ Some (idx row p) = rw (← f) (slot_in row p h k) in
          rw g (add_same m (idx row p) a s.long (omega arith))
      at false e =
          let l = s.low (idx row p) in
          add_other m (slot_of row (cap q)) a (idx row p) (slot_apart row row p q r r h k (λ x y. eqb-false p q e y)) ∙ (omega arith)

  miss : (other : ℕ) → other < 5 → (row ≡ other → ⊥) → get_or (add_of m (slot_of row (cap q)) a) (idx other p) 0 ≡ get_or m (idx other p) 0
  miss other o n = add_other m (slot_of row (cap q)) a (idx other p) (slot_apart row other p q r o h k (λ x y. n x))

-- ---- lists of atoms

abbrev pub times : ℕ → List ℕ → ℕ
times p [] = 0
times p (q ∷ l) = pick (eqb p q) 1 0 + times p l

times_has : (p : ℕ) (l : List ℕ) → ltb 0 (times p l) ≡ has p l
unfolding has
times_has p [] = refl
times_has p (q ∷ l) = at (eqb p q) (times_has p l)
  where
    at : (b : Bool) → ltb 0 (times p l) ≡ has p l → ltb 0 (pick b 1 0 + times p l) ≡ (b || has p l)
    at true e = lt-ltb 0 (1 + times p l) (omega arith)
    at false e = ap (ltb 0) (let z : 0 + times p l ≡ times p l = omega arith in z) ∙ e

pub marked : (p : ℕ) (l : List ℕ) (c : ℕ) → c ≡ min (0 + times p l) 65536 → ltb 0 c ≡ has p l
marked p l c e = at (ltb 0 (times p l)) refl ∙ times_has p l
  where
    at : (b : Bool) → ltb 0 (times p l) ≡ b → ltb 0 c ≡ ltb 0 (times p l)
    at true f = let g = ltb-true 0 (times p l) f in lt-ltb 0 c (omega arith) ∙ sym f
    at false f = let g = ltb-false 0 (times p l) f in le-ltb 0 c (omega arith) ∙ sym f

module _ (p : ℕ) (h : 1 ≤ p) (k : p ≤ 256) where
  pub atoms_cell : (l m : List ℕ) → Sound m → get_or (mark_atoms m l) (idx 0 p) 0 ≡ min (get_or m (idx 0 p) 0 + times p l) 65536
  atoms_cell [] m s = let c = s.low (idx 0 p) in omega arith
  atoms_cell (q ∷ l) m s =
      let e = hit m s 0 p (omega arith) h k q 1 in
      let f = atoms_cell l (add_of m (slot_of 0 (cap q)) 1) (add_sound m (slot_of 0 (cap q)) 1 s) in
      omega arith

  pub atoms_other : (l m : List ℕ) → Sound m → (row : ℕ) → row < 5 → (0 ≡ row → ⊥) → get_or (mark_atoms m l) (idx row p) 0 ≡ get_or m (idx row p) 0
  atoms_other [] m s row o n = refl
  atoms_other (q ∷ l) m s row o n =
      atoms_other l (add_of m (slot_of 0 (cap q)) 1) (add_sound m (slot_of 0 (cap q)) 1 s) row o n ∙ miss m s 0 p (omega arith) h k q 1 row o n

  pub literals_positive : (l : List Signed) (m : List ℕ) → Sound m → get_or (mark_literals m l) (idx 1 p) 0 ≡ min (get_or m (idx 1 p) 0 + times p (positives l)) 65536
  literals_positive [] m s = let c = s.low (idx 1 p) in omega arith
  literals_positive (x ∷ l) m s = at x.plain (literals_positive l (add_of m (slot_of (literal_row (not x.plain)) (cap x.atom)) 1) (add_sound m (slot_of (literal_row (not x.plain)) (cap x.atom)) 1 s))
    where
      at : (b : Bool) → get_or (mark_literals (add_of m (slot_of (literal_row (not b)) (cap x.atom)) 1) l) (idx 1 p) 0
          ≡ min (get_or (add_of m (slot_of (literal_row (not b)) (cap x.atom)) 1) (idx 1 p) 0 + times p (positives l)) 65536
          → get_or (mark_literals (add_of m (slot_of (literal_row (not b)) (cap x.atom)) 1) l) (idx 1 p) 0 ≡ min (get_or m (idx 1 p) 0 + times p (cons_if b x.atom (positives l))) 65536
      at true f = let e = hit m s 1 p (omega arith) h k x.atom 1 in omega arith
      at false f = let e = miss m s 2 p (omega arith) h k x.atom 1 1 (omega arith) (λ z. omega arith) in omega arith

  pub literals_negated : (l : List Signed) (m : List ℕ) → Sound m → get_or (mark_literals m l) (idx 2 p) 0 ≡ min (get_or m (idx 2 p) 0 + times p (negateds l)) 65536
  literals_negated [] m s = let c = s.low (idx 2 p) in omega arith
  literals_negated (x ∷ l) m s = at x.plain (literals_negated l (add_of m (slot_of (literal_row (not x.plain)) (cap x.atom)) 1) (add_sound m (slot_of (literal_row (not x.plain)) (cap x.atom)) 1 s))
    where
      at : (b : Bool) → get_or (mark_literals (add_of m (slot_of (literal_row (not b)) (cap x.atom)) 1) l) (idx 2 p) 0
          ≡ min (get_or (add_of m (slot_of (literal_row (not b)) (cap x.atom)) 1) (idx 2 p) 0 + times p (negateds l)) 65536
          → get_or (mark_literals (add_of m (slot_of (literal_row (not b)) (cap x.atom)) 1) l) (idx 2 p) 0 ≡ min (get_or m (idx 2 p) 0 + times p (cons_if (not b) x.atom (negateds l))) 65536
      at true f = let e = miss m s 1 p (omega arith) h k x.atom 1 2 (omega arith) (λ z. omega arith) in omega arith
      at false f = let e = hit m s 2 p (omega arith) h k x.atom 1 in omega arith

  pub literals_other : (l : List Signed) (m : List ℕ) → Sound m → (row : ℕ) → row < 5 → (1 ≡ row → ⊥) → (2 ≡ row → ⊥) → get_or (mark_literals m l) (idx row p) 0 ≡ get_or m (idx row p) 0
  literals_other [] m s row o n n' = refl
  literals_other (x ∷ l) m s row o n n' =
      literals_other l (add_of m (slot_of (literal_row (not x.plain)) (cap x.atom)) 1) (add_sound m (slot_of (literal_row (not x.plain)) (cap x.atom)) 1 s) row o n n' ∙ at x.plain
    where
      at : (b : Bool) → get_or (add_of m (slot_of (literal_row (not b)) (cap x.atom)) 1) (idx row p) 0 ≡ get_or m (idx row p) 0
      at true = miss m s 1 p (omega arith) h k x.atom 1 row o n
      at false = miss m s 2 p (omega arith) h k x.atom 1 row o n'

  abbrev pub weighing : List Weighed → ℕ
  weighing [] = 0
  weighing (x ∷ l) = pick (eqb p x.atom) (capped x.weight).size 0 + weighing l

  module _ (x : Weighed) (m : List ℕ) (s : Sound m) where
    abbrev one : List ℕ
    one = add_of m (slot_of 3 (cap x.atom)) 1

    abbrev both_of : List ℕ
    both_of = add_of one (slot_of 4 (cap x.atom)) (capped x.weight).size

    one_sound : Sound one
    one_sound = add_sound m (slot_of 3 (cap x.atom)) 1 s

    both_sound : Sound both_of
    both_sound = add_sound one (slot_of 4 (cap x.atom)) (capped x.weight).size one_sound

    pair_atom : get_or both_of (idx 3 p) 0 ≡ min (get_or m (idx 3 p) 0 + pick (eqb p x.atom) 1 0) 65536
    pair_atom = miss one one_sound 4 p (omega arith) h k x.atom (capped x.weight).size 3 (omega arith) (λ z. omega arith) ∙ hit m s 3 p (omega arith) h k x.atom 1

    pair_weight : get_or both_of (idx 4 p) 0 ≡ min (get_or m (idx 4 p) 0 + pick (eqb p x.atom) (capped x.weight).size 0) 65536
    pair_weight = hit one one_sound 4 p (omega arith) h k x.atom (capped x.weight).size
        ∙ ap (λ (c : ℕ). min (c + pick (eqb p x.atom) (capped x.weight).size 0) 65536) (miss m s 3 p (omega arith) h k x.atom 1 4 (omega arith) (λ z. omega arith))

    pair_other : (row : ℕ) → row < 5 → (3 ≡ row → ⊥) → (4 ≡ row → ⊥) → get_or both_of (idx row p) 0 ≡ get_or m (idx row p) 0
    pair_other row o n n' = miss one one_sound 4 p (omega arith) h k x.atom (capped x.weight).size row o n' ∙ miss m s 3 p (omega arith) h k x.atom 1 row o n

  pub pairs_atoms : (l : List Weighed) (m : List ℕ) → Sound m → get_or (mark_pairs m l) (idx 3 p) 0 ≡ min (get_or m (idx 3 p) 0 + times p (pair_atoms l)) 65536
  pairs_atoms [] m s = let c = s.low (idx 3 p) in omega arith
  pairs_atoms (x ∷ l) m s =
      let e = pair_atom x m s in
      let f = pairs_atoms l (both_of x m s) (both_sound x m s) in
      omega arith

  pub pairs_weights : (l : List Weighed) (m : List ℕ) → Sound m → get_or (mark_pairs m l) (idx 4 p) 0 ≡ min (get_or m (idx 4 p) 0 + weighing l) 65536
  pairs_weights [] m s = let c = s.low (idx 4 p) in omega arith
  pairs_weights (x ∷ l) m s =
      let e = pair_weight x m s in
      let f = pairs_weights l (both_of x m s) (both_sound x m s) in
      omega arith

  pub pairs_other : (l : List Weighed) (m : List ℕ) → Sound m → (row : ℕ) → row < 5 → (3 ≡ row → ⊥) → (4 ≡ row → ⊥) → get_or (mark_pairs m l) (idx row p) 0 ≡ get_or m (idx row p) 0
  pairs_other [] m s row o n n' = refl
  pairs_other (x ∷ l) m s row o n n' = pairs_other l (both_of x m s) (both_sound x m s) row o n n' ∙ pair_other x m s row o n n'

pub atoms_sound : (l m : List ℕ) → Sound m → Sound (mark_atoms m l)
atoms_sound [] m s = s
atoms_sound (q ∷ l) m s = atoms_sound l (add_of m (slot_of 0 (cap q)) 1) (add_sound m (slot_of 0 (cap q)) 1 s)

pub none_sound : Sound no_marks
none_sound = record { long = length-replicate {A = ℕ} 1280 0; low = λ i. let e = none_at 1280 i in omega arith }
