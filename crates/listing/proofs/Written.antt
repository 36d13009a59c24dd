-- A row written one byte further, and rows one after the other. Assumes nothing.
use mathlib.Core.Path.{◌≡◌, refl, sym, ap, ◌∙◌, fun_ext}
use mathlib.Core.Bool.{Bool, true, false}
use mathlib.Core.List.{List, [], ◌∷◌, ◌++◌, append_assoc, append-nil}
use Prim.Native.Nat.{ℕ, zero, suc, ◌+◌, ◌*◌, ◌/◌, ◌<◌, ◌≤◌}
use native.Mathlib.Numerals.{add-one}
use native.Mathlib.Omega.{arith}
use lib.Dec.{eqb, ltb}
use Rattle.std.proofs.lemmas.Bool.{eqb-true, eqb-false, le-ltb}
use lib.ListN.{length, get_or, set, take, drop, length-append, length-drop, take-append-drop}
use lib.Seq.{drop-cons, append_snoc, set_at, length-take-le, take_at, drop-append-add, drop-drop}
use mathlib.Core.Logic.{◌≢◌}
use Rattle.meaning.specs.Aggregates.{Atoms}
use Rattle.meaning.proofs.Cond.{if_lt_yes, if_lt_no}
use Rattle.interpretation.specs.State.{truth_of, true_atoms}
use Rattle.interpretation.specs.View.{cell_by, blank, cells, valued}
use Rattle.interpretation.specs.declared.Record.{Record}
use Rattle.meaning.specs.Cond.{if_lt}
use Rattle.interpretation.proofs.Laws.{cells_suc}
use Rattle.listing.specs.Rows.{bit_by, row_byte, row_from, row_of, row_put, rows_of, rows_with}

pub row_length : (X : Atoms) (i k : ℕ) → length (row_from X i k) ≡ k
unfolding row_from
row_length X i zero = refl
row_length X i (suc k) = ap suc (row_length X (suc i) k)

row_more : (X : Atoms) (i k : ℕ) → row_from X i (suc k) ≡ row_from X i k ++ (row_byte X (i + k) ∷ [])
unfolding row_from
row_more X i zero = let e : i ≡ i + 0 = omega arith in ap (λ (q : ℕ). row_byte X q ∷ []) e
row_more X i (suc k) =
    let e : suc i + k ≡ i + suc k = omega arith in
    ap (λ (l : List ℕ). row_byte X i ∷ l) (row_more X (suc i) k ∙ ap (λ (q : ℕ). row_from X (suc i) k ++ (row_byte X q ∷ [])) e)

module _ (X : Atoms) (at : ℕ) (old : List ℕ) (i : ℕ) (h : at + i < length old) where
  front_length : length (take at old ++ row_from X 0 i) ≡ at + i
  front_length = let a = length-take-le at old (omega arith) in let b = row_length X 0 i in simp length-append (omega arith)

  pub put_more : (b : ℕ) → b ≡ row_byte X i → set (row_put X at i old) (at + i) b ≡ row_put X at (i + 1) old
  put_more b e =
      let s : suc (at + i) ≡ at + (i + 1) = omega arith in
      let z : 0 + i ≡ i = omega arith in
      ap (λ (l : List ℕ). set l (at + i) b) (sym (append_assoc (take at old) (row_from X 0 i) (drop (at + i) old)))
      ∙ ap (λ (l : List ℕ). set ((take at old ++ row_from X 0 i) ++ l) (at + i) b) (drop-cons old (at + i) 0 h)
      ∙ set_at (take at old ++ row_from X 0 i) (get_or old (at + i) 0) (drop (suc (at + i)) old) b (at + i) front_length
      ∙ append_assoc (take at old) (row_from X 0 i) (b ∷ drop (suc (at + i)) old)
      ∙ ap (λ (l : List ℕ). take at old ++ l) (sym (append_snoc (row_from X 0 i) b (drop (suc (at + i)) old))
      ∙ ap (λ (c : ℕ). (row_from X 0 i ++ (c ∷ [])) ++ drop (suc (at + i)) old) (e ∙ ap (row_byte X) (sym z))
      ∙ ap (λ (l : List ℕ). l ++ drop (suc (at + i)) old) (sym (row_more X 0 i))
      ∙ ap (λ (k : ℕ). row_from X 0 k ++ drop (suc (at + i)) old) (sym (add-one i))
      ∙ ap (λ (k : ℕ). row_from X 0 (i + 1) ++ drop k old) s)

pub put_none : (X : Atoms) (at : ℕ) (old : List ℕ) → at ≤ length old → old ≡ row_put X at 0 old
unfolding row_from
put_none X at old h = let e : at ≡ at + 0 = omega arith in sym (take-append-drop at old) ∙ ap (λ (k : ℕ). take at old ++ drop k old) e

pub put_long : (X : Atoms) (at k : ℕ) (old : List ℕ) → at + k ≤ length old → length (row_put X at k old) ≡ length old
put_long X at k old h = let a = length-take-le at old (omega arith) in let b = row_length X 0 k in simp (length-append, length-drop) (omega arith)

-- ---- a byte

truth_byte : (v : ℕ) → v ≢ 1 → truth_of (cell_by v 0) ≡ false
truth_byte zero h = refl
truth_byte (suc zero) h = absurd (h refl)
truth_byte (suc (suc v)) h = refl

module _ (n : ℕ) (vs : List ℕ) (i : ℕ) where
  pub truth_one : i < n → get_or vs i 0 ≡ 1 → true_atoms n (valued vs) (suc i) ≡ true
  truth_one h e = if_lt_yes i n (truth_of (valued vs (suc i))) false h ∙ ap truth_of (cells_suc vs [] i ∙ ap (λ (v : ℕ). cell_by v 0) e)

  pub truth_other : i < n → get_or vs i 0 ≢ 1 → true_atoms n (valued vs) (suc i) ≡ false
  truth_other h e = if_lt_yes i n (truth_of (valued vs (suc i))) false h ∙ ap truth_of (cells_suc vs [] i) ∙ truth_byte (get_or vs i 0) e

  pub truth_past : n ≤ i → true_atoms n (valued vs) (suc i) ≡ false
  truth_past h = if_lt_no i n (truth_of (valued vs (suc i))) false h

  truth_by_value : (b : Bool) → eqb (get_or vs i 0) 1 ≡ b → i < n → true_atoms n (valued vs) (suc i) ≡ b
  truth_by_value true e h = truth_one h (eqb-true _ _ e)
  truth_by_value false e h = truth_other h (eqb-false _ _ e)

  -- whether the atom is true, as the code asks it
  pub byte_held : (r : ℕ) (b : Bool) → r ≡ bit_by b → b ≡ eqb (get_or vs i 0) 1 → i < n → r ≡ row_byte (true_atoms n (valued vs)) i
  byte_held r b e f h = e ∙ ap bit_by (sym (truth_by_value b (sym f) h))

  pub byte_past : (r : ℕ) (b : Bool) → r ≡ bit_by b → b ≡ ltb i n → n ≤ i → r ≡ row_byte (true_atoms n (valued vs)) i
  byte_past r b e f h = e ∙ ap bit_by (f ∙ le-ltb i n h ∙ sym (truth_past h))

truth_by : (v k l : ℕ) → truth_of (cell_by v k) ≡ truth_of (cell_by v l)
truth_by zero k l = refl
truth_by (suc zero) k l = refl
truth_by (suc (suc v)) k l = refl

-- the true atoms depend on the values alone
pub trues_alone : (n : ℕ) (vs : List ℕ) (rs : List Record) → true_atoms n (cells vs rs) ≡ true_atoms n (valued vs)
unfolding cells
trues_alone n vs rs = fun_ext at
  where
    at : (p : ℕ) → true_atoms n (cells vs rs) p ≡ true_atoms n (valued vs) p
    at zero = refl
    at (suc q) = ap (λ (b : Bool). if_lt q n b false) (truth_by (get_or vs q 0) (get_or rs q blank).level 0)

-- ---- rows

pub rows_length : (plans : List Atoms) → length (rows_of plans) ≡ 256 * length plans
unfolding rows_of
rows_length [] = refl
rows_length (X ∷ plans) = let a = row_length X 0 256 in let b = rows_length plans in simp length-append (omega arith)

rows_more : (plans : List Atoms) (X : Atoms) → rows_of (plans ++ (X ∷ [])) ≡ rows_of plans ++ row_of X
unfolding rows_of
rows_more [] X = append-nil (row_of X)
rows_more (Y ∷ plans) X = ap (λ (l : List ℕ). row_of Y ++ l) (rows_more plans X) ∙ sym (append_assoc (row_of Y) (rows_of plans) (row_of X))

-- a row written behind those listed
pub listed_more : (plans : List Atoms) (X : Atoms) (old : List ℕ) (k : ℕ) → length plans ≡ k → row_put X (256 * k) 256 (rows_with plans old) ≡ rows_with (plans ++ (X ∷ [])) old
listed_more plans X old k e =
    let l : length (rows_of plans) ≡ 256 * k = rows_length plans ∙ ap (λ (q : ℕ). 256 * q) e in
    let m : 256 * length (plans ++ (X ∷ [])) ≡ 256 * length plans + 256 = simp length-append (omega arith) in
    let t : take (256 * k) (rows_with plans old) ≡ rows_of plans = take_at (rows_of plans) (drop (256 * length plans) old) (256 * k) l in
    let d : drop (256 * k + 256) (rows_with plans old) ≡ drop (256 * length (plans ++ (X ∷ []))) old =
    ap (λ (q : ℕ). drop (q + 256) (rows_with plans old)) (sym l) ∙ drop-append-add (rows_of plans) (drop (256 * length plans) old) 256 ∙ drop-drop 256 (256 * length plans) old ∙ ap (λ (q : ℕ). drop q old) (sym m) in
    ap (λ (x : List ℕ). x ++ (row_from X 0 256 ++ drop (256 * k + 256) (rows_with plans old))) t
    ∙ ap (λ (x : List ℕ). rows_of plans ++ (row_from X 0 256 ++ x)) d
    ∙ sym (append_assoc (rows_of plans) (row_of X) (drop (256 * length (plans ++ (X ∷ []))) old))
    ∙ ap (λ (x : List ℕ). x ++ drop (256 * length (plans ++ (X ∷ []))) old) (sym (rows_more plans X))

pub listed_none : (old : List ℕ) → old ≡ rows_with [] old
unfolding rows_of
listed_none old = refl

pub listed_long : (plans : List Atoms) (old : List ℕ) → 256 * length plans ≤ length old → length (rows_with plans old) ≡ length old
listed_long plans old h = let a = rows_length plans in simp (length-append, length-drop) (omega arith)

-- a row below the number of rows lies in the buffer
pub room_fits : (k l : ℕ) {m : ℕ} → k < l / 256 → m ≡ l → k * 256 + 256 ≤ m
room_fits k l h e = omega arith
