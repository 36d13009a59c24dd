-- Parts joined: one after another, and lists one after another. Assumes nothing.
use mathlib.Core.Path.{◌≡◌, refl, sym, ap, ◌∙◌}
use mathlib.Core.Bool.{Bool, true, false, not, ◌||◌}
use mathlib.Core.List.{List, [], ◌∷◌, ◌++◌, map, append_assoc}
use Prim.Native.Nat.{ℕ, suc, ◌+◌, ◌≤◌, ◌<◌}
use native.Mathlib.Numerals.{add-one}
use native.Mathlib.Omega.{arith}
use borrow.Author.Tests.{lt-ltb}
use lib.Dec.{ltb}
use lib.IntN.{ℤ, pos, negsuc, nat_abs}
use lib.ListN.{length, get_or, drop, drop_of_length-le}
use lib.Seq.{drop-cons}
use lib.Signed.{non_neg}
use Rattle.meaning.specs.Program.{Element, Aggregate}
use Rattle.layout.specs.Layout.{pairs}
use Rattle.text.specs.Line.{decimal}
use Rattle.aspif_parts.specs.Parts.{element_of}
use Rattle.aspif_parts.proofs.Elements.{pair_on_lem, pair_off}
use Rattle.notation.specs.Notation.{some, before, joined_from, joined, comma, not_word, element_text, threshold_text, atom_text, literal_text, body_parts, neck}

-- ---- whether there are members

pub some_is : (l : List ℤ) → ltb 0 (length l) ≡ some l
some_is [] = refl
some_is (w ∷ l) = lt-ltb 0 (suc (length l)) (omega arith)

some_map : {A B : Type 0} (f : A → B) (l : List A) → some (map f l) ≡ some l
some_map f [] = refl
some_map f (x ∷ l) = refl

some_append : {A : Type 0} (xs ys : List A) → some (xs ++ ys) ≡ some xs || some ys
some_append [] ys = refl
some_append (x ∷ xs) ys = refl

or_false : (b : Bool) → b || false ≡ b
or_false true = refl
or_false false = refl

or_true : (b : Bool) → b || true ≡ true
or_true true = refl
or_true false = refl

or_assoc : (a b c : Bool) → (a || b) || c ≡ a || (b || c)
or_assoc true b c = refl
or_assoc false b c = refl

-- ---- one part, and then the others

module _ (between : List ℕ) (behind : Bool) where
  pub join_cons : (x : List ℕ) (xs : List (List ℕ)) → joined_from between behind (x ∷ xs) ≡ (before between behind ++ x) ++ joined_from between true xs
  join_cons x xs = sym (append_assoc (before between behind) x (joined_from between true xs))

  module _ (f : ℤ → List ℕ) (l : List ℤ) (i : ℕ) where
    pub joined_on : i < length l → joined_from between behind (map f (drop i l)) ≡ (before between behind ++ f (get_or l i (pos 0))) ++ joined_from between true (map f (drop (i + 1) l))
    joined_on h = rw (drop-cons l i (pos 0) h, add-one) (join_cons (f (get_or l i (pos 0))) (map f (drop (suc i) l)))

    pub joined_none : length l ≤ i → joined_from between behind (map f (drop i l)) ≡ []
    joined_none h = rw (drop_of_length-le l h)

  module _ (f : ℕ → List ℕ) (l : List ℤ) (i : ℕ) where
    pub atoms_on : i < length l → joined_from between behind (map f (map nat_abs (drop i l))) ≡ (before between behind ++ f (nat_abs (get_or l i (pos 0)))) ++ joined_from between true (map f (map nat_abs (drop (i + 1) l)))
    atoms_on h = rw (drop-cons l i (pos 0) h, add-one) (join_cons (f (nat_abs (get_or l i (pos 0)))) (map f (map nat_abs (drop (suc i) l))))

    pub atoms_none : length l ≤ i → joined_from between behind (map f (map nat_abs (drop i l))) ≡ []
    atoms_none h = rw (drop_of_length-le l h)

  module _ (l : List ℤ) (i : ℕ) where
    pub elements_on : i + 1 < length l
        → joined_from between behind (map element_text (pairs (drop i l)))
        ≡ (before between behind ++ element_text (element_of (nat_abs (get_or l i (pos 0))) (nat_abs (get_or l (i + 1) (pos 0))))) ++ joined_from between true (map element_text (pairs (drop (i + 2) l)))
    elements_on h =
        ap (λ (es : List Element). joined_from between behind (map element_text es)) (pair_on_lem l i h)
        ∙ join_cons (element_text (element_of (nat_abs (get_or l i (pos 0))) (nat_abs (get_or l (i + 1) (pos 0))))) (map element_text (pairs (drop (i + 2) l)))

    pub elements_none : length l ≤ i + 1 → joined_from between behind (map element_text (pairs (drop i l))) ≡ []
    elements_none h = ap (λ (es : List Element). joined_from between behind (map element_text es)) (pair_off l i h)

-- ---- lists one after another

join_append : (between : List ℕ) (behind : Bool) (xs ys : List (List ℕ)) → joined_from between behind (xs ++ ys) ≡ joined_from between behind xs ++ joined_from between (behind || some xs) ys
join_append between behind [] ys = ap (λ (b : Bool). joined_from between b ys) (sym (or_false behind))
join_append between behind (x ∷ xs) ys =
    let tail = joined_from between true xs in
    ap (λ (m : List ℕ). before between behind ++ (x ++ m)) (join_append between true xs ys)
    ∙ ap (λ (m : List ℕ). before between behind ++ m) (sym (append_assoc x tail (joined_from between true ys)))
    ∙ sym (append_assoc (before between behind) (x ++ tail) (joined_from between true ys))
    ∙ ap (λ (b : Bool). (before between behind ++ (x ++ tail)) ++ joined_from between b ys) (sym (or_true behind))

module _ (d : ℕ) (gs : List Aggregate) (ps ns : List ℕ) (ws : List ℤ) where
  pub body_joined : joined_from comma false (map (atom_text []) ps) ++ (joined_from comma (some ps) (map (atom_text not_word) ns) ++ joined_from comma (some ps || some ns) (map (literal_text d gs) ws))
      ≡ joined comma (body_parts d gs ps ns ws)
  body_joined =
      let m = map (atom_text not_word) ns in
      let l = map (literal_text d gs) ws in
      ap (λ (x : List ℕ). joined_from comma false (map (atom_text []) ps) ++ x)
      (ap (λ (b : Bool). joined_from comma (some ps) m ++ joined_from comma (some ps || b) l) (sym (some_map (atom_text not_word) ns))
      ∙ sym (join_append comma (some ps) m l)
      ∙ ap (λ (b : Bool). joined_from comma b (m ++ l)) (sym (some_map (atom_text []) ps)))
      ∙ sym (join_append comma false (map (atom_text []) ps) (m ++ l))

  pub body_some : (some ps || some ns) || some ws ≡ some (body_parts d gs ps ns ws)
  body_some =
      or_assoc (some ps) (some ns) (some ws)
      ∙ ap (λ (b : Bool). some ps || (some ns || b)) (sym (some_map (literal_text d gs) ws))
      ∙ ap (λ (b : Bool). some ps || (b || some (map (literal_text d gs) ws))) (sym (some_map (atom_text not_word) ns))
      ∙ ap (λ (b : Bool). some ps || b) (sym (some_append (map (atom_text not_word) ns) (map (literal_text d gs) ws)))
      ∙ ap (λ (b : Bool). b || some (map (atom_text not_word) ns ++ map (literal_text d gs) ws)) (sym (some_map (atom_text []) ps))
      ∙ sym (some_append (map (atom_text []) ps) (map (atom_text not_word) ns ++ map (literal_text d gs) ws))

pub some_atoms : (l : List ℤ) → some l ≡ some (map nat_abs l)
some_atoms l = sym (some_map nat_abs l)

-- ---- a threshold, by its sign

pub threshold_is : (z : ℤ) → before (45 ∷ []) (not (non_neg z)) ++ decimal (nat_abs z) ≡ threshold_text z
threshold_is (ℤ.pos n) = refl
threshold_is (negsuc n) = refl

-- ---- between a head and a body

pub neck_head : (b : Bool) → neck true b ≡ before (32 ∷ 58 ∷ 45 ∷ 32 ∷ []) b
neck_head true = refl
neck_head false = refl
