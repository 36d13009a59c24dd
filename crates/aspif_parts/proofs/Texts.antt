-- The parts of a text: lists of numbers one after the other, and the lines of statements by their parts. Assumes nothing.
use mathlib.Core.Path.{◌≡◌, refl, sym, ap, ◌∙◌}
use mathlib.Core.Bool.{Bool, true, false, not, beq}
use mathlib.Core.List.{List, [], ◌∷◌, ◌++◌, map, append-nil, append_assoc, map-append, map-map}
use Prim.Native.Nat.{ℕ, zero, suc, ◌+◌, ◌≤◌, ◌<◌}
use native.Mathlib.Numerals.{add-one}
use native.Mathlib.Omega.{arith}
use lib.IntN.{ℤ, pos}
use lib.ListN.{length, get_or, drop, drop_of_length-le}
use lib.Seq.{drop-cons}
use Rattle.text.specs.Line.{decimal, decimal_by}
use Rattle.aspif.specs.Statements.{Signed, normal, weight, Statement}
use Rattle.aspif.specs.Writing.{with}
use Rattle.aspif.specs.Lines.{header, number_text, spaced, literal_number, pair_numbers, body_numbers, statement_text, statements_text, text_of}
use Rattle.meaning.specs.Program.{Element}
use Rattle.bytes_out.specs.Putting.{field_text, signed_text}
use Rattle.aspif_parts.specs.Parts.{line_text, lines_text, head_text, literals_text, pairs_text, body_text}

-- ---- numbers

pub spaced_append : (xs ys : List ℤ) → spaced (xs ++ ys) ≡ spaced xs ++ spaced ys
spaced_append [] ys = refl
spaced_append (x ∷ xs) ys =
    ap (λ (l : List ℕ). 32 ∷ (number_text x ++ l)) (spaced_append xs ys) ∙ ap (λ (l : List ℕ). 32 ∷ l) (sym (append_assoc (number_text x) (spaced xs) (spaced ys)))

-- a literal of an atom of 1 or more
pub signed_field : (b : Bool) (p : ℕ) → 1 ≤ p → signed_text b p ≡ 32 ∷ number_text (literal_number (with b p))
signed_field b zero h = absurd (omega arith)
signed_field true (suc p) h = refl
signed_field false (suc p) h = refl

-- the sign of a new atom, where the bound is the literal's negation and where it is not
pub turned_sign : (b : Bool) → b ≡ beq (not b) false
turned_sign true = refl
turned_sign false = refl

pub kept_sign : (b : Bool) → not b ≡ beq (not b) true
kept_sign true = refl
kept_sign false = refl

-- ---- literals

pub literals_nil : literals_text [] ≡ []
unfolding literals_text
literals_nil = refl

pub literals_cons : (x : Signed) (l : List Signed) → literals_text (x ∷ l) ≡ (32 ∷ number_text (literal_number x)) ++ literals_text l
unfolding literals_text
literals_cons x l = refl

pub literals_one : (x : Signed) → literals_text (x ∷ []) ≡ 32 ∷ number_text (literal_number x)
unfolding literals_text
literals_one x = ap (λ (l : List ℕ). 32 ∷ l) (append-nil (number_text (literal_number x)))

pub literals_on : (x : Signed) (l : List Signed) → literals_text (x ∷ l) ≡ literals_text (x ∷ []) ++ literals_text l
literals_on x l = literals_cons x l ∙ ap (λ (m : List ℕ). m ++ literals_text l) (sym (literals_one x))

pub literals_append : (xs ys : List Signed) → literals_text (xs ++ ys) ≡ literals_text xs ++ literals_text ys
unfolding literals_text
literals_append xs ys = ap spaced (map-append literal_number xs ys) ∙ spaced_append (map literal_number xs) (map literal_number ys)

-- atoms, each with a sign: one more
module _ (b : Bool) (f : ℤ → ℕ) (l : List ℤ) (i : ℕ) where
  pub mapped_on : i < length l → literals_text (map (with b) (map f (drop i l))) ≡ (32 ∷ number_text (literal_number (with b (f (get_or l i (pos 0)))))) ++ literals_text (map (with b) (map f (drop (i + 1) l)))
  mapped_on h = rw (drop-cons l i (pos 0) h, add-one) (literals_cons (with b (f (get_or l i (pos 0)))) (map (with b) (map f (drop (suc i) l))))

  pub mapped_none : length l ≤ i → literals_text (map (with b) (map f (drop i l))) ≡ []
  mapped_none h = rw (drop_of_length-le l h) literals_nil

module _ (f : ℤ → Signed) (l : List ℤ) (i : ℕ) where
  pub stated_on : i < length l → literals_text (map f (drop i l)) ≡ (32 ∷ number_text (literal_number (f (get_or l i (pos 0))))) ++ literals_text (map f (drop (i + 1) l))
  stated_on h = rw (drop-cons l i (pos 0) h, add-one) (literals_cons (f (get_or l i (pos 0))) (map f (drop (suc i) l)))

  pub stated_none : length l ≤ i → literals_text (map f (drop i l)) ≡ []
  stated_none h = rw (drop_of_length-le l h) literals_nil

-- ---- pairs

pub pairs_nil : pairs_text [] ≡ []
unfolding pairs_text
pairs_nil = refl

pub pairs_one : (e : Element) → pairs_text (e ∷ []) ≡ field_text e.atom ++ field_text e.value
unfolding pairs_text
pairs_one e = ap (λ (l : List ℕ). 32 ∷ (decimal e.atom ++ (32 ∷ l))) (append-nil (decimal e.value))

pub pairs_on : (e : Element) (es : List Element) → pairs_text (e ∷ es) ≡ pairs_text (e ∷ []) ++ pairs_text es
unfolding pairs_text
pairs_on e es =
    ap (λ (l : List ℕ). 32 ∷ l)
    (ap (λ (l : List ℕ). decimal e.atom ++ (32 ∷ l)) (ap (λ (m : List ℕ). m ++ spaced (pair_numbers es)) (sym (append-nil (decimal e.value))))
    ∙ sym (append_assoc (decimal e.atom) (32 ∷ (decimal e.value ++ [])) (spaced (pair_numbers es))))

-- ---- heads

one_digit : number_text (pos 1) ≡ 49 ∷ []
unfolding decimal decimal_by
one_digit = refl

no_digit : number_text (pos 0) ≡ 48 ∷ []
unfolding decimal decimal_by
no_digit = refl

literal_plain : (l : List ℕ) → map literal_number (map (with true) l) ≡ map pos l
literal_plain l = map-map literal_number (with true) l

-- "1 0", the count of the head, and its atoms
pub head_parts : (h : List ℕ) → (49 ∷ 32 ∷ 48 ∷ []) ++ (field_text (length h) ++ literals_text (map (with true) h)) ≡ head_text h
unfolding head_text literals_text
head_parts h = rw (literal_plain h, one_digit, no_digit) refl

-- "1 0 1" and one atom
pub head_one : (p : ℕ) → (49 ∷ 32 ∷ 48 ∷ 32 ∷ 49 ∷ []) ++ field_text p ≡ head_text (p ∷ [])
unfolding head_text decimal decimal_by
head_one p = ap (λ (l : List ℕ). 49 ∷ 32 ∷ 48 ∷ 32 ∷ 49 ∷ 32 ∷ l) (sym (append-nil (decimal p)))

-- ---- lines

pub line_parts : (s : Statement) → head_text s.head ++ (body_text s.body ++ (10 ∷ [])) ≡ line_text s
unfolding head_text body_text statement_text
line_parts s =
    sym
    (ap (λ (l : List ℕ). (number_text (pos 1) ++ l) ++ (10 ∷ [])) (spaced_append (pos 0 ∷ pos (length s.head) ∷ map pos s.head) (body_numbers s.body))
    ∙ ap (λ (l : List ℕ). l ++ (10 ∷ [])) (sym (append_assoc (number_text (pos 1)) (spaced (pos 0 ∷ pos (length s.head) ∷ map pos s.head)) (spaced (body_numbers s.body))))
    ∙ append_assoc (number_text (pos 1) ++ spaced (pos 0 ∷ pos (length s.head) ∷ map pos s.head)) (spaced (body_numbers s.body)) (10 ∷ []))

-- a normal body: " 0", the number of literals, and the literals
pub normal_parts : (l : List Signed) → (32 ∷ 48 ∷ []) ++ (field_text (length l) ++ literals_text l) ≡ body_text (normal l)
unfolding body_text literals_text
normal_parts l = rw no_digit refl

-- a weight body: " 1", the bound, the number of pairs, and the pairs
pub weight_parts : (b : ℕ) (es : List Element) → (32 ∷ 49 ∷ []) ++ (field_text b ++ (field_text (length es) ++ pairs_text es)) ≡ body_text (weight (pos b) es)
unfolding body_text pairs_text
weight_parts b es = rw one_digit refl

-- a fact: " 0 0" and the newline
pub fact_parts : (32 ∷ 48 ∷ 32 ∷ 48 ∷ 10 ∷ []) ≡ body_text (normal []) ++ (10 ∷ [])
unfolding body_text decimal decimal_by
fact_parts = refl

pub lines_nil : lines_text [] ≡ []
unfolding lines_text
lines_nil = refl

pub lines_cons : (s : Statement) (ss : List Statement) → lines_text (s ∷ ss) ≡ line_text s ++ lines_text ss
unfolding lines_text
lines_cons s ss = refl

pub lines_one : (s : Statement) → lines_text (s ∷ []) ≡ line_text s
lines_one s = lines_cons s [] ∙ ap (λ (l : List ℕ). line_text s ++ l) lines_nil ∙ append-nil (line_text s)

pub lines_on : (s : Statement) (ss : List Statement) → lines_text (s ∷ ss) ≡ lines_text (s ∷ []) ++ lines_text ss
lines_on s ss = lines_cons s ss ∙ ap (λ (l : List ℕ). l ++ lines_text ss) (sym (lines_one s))

pub lines_append : (xs ys : List Statement) → lines_text (xs ++ ys) ≡ lines_text xs ++ lines_text ys
lines_append [] ys = ap (λ (l : List ℕ). l ++ lines_text ys) (sym lines_nil)
lines_append (s ∷ xs) ys =
    lines_cons s (xs ++ ys) ∙ ap (λ (l : List ℕ). line_text s ++ l) (lines_append xs ys) ∙ sym (append_assoc (line_text s) (lines_text xs) (lines_text ys)) ∙ ap (λ (l : List ℕ). l ++ lines_text ys) (sym (lines_cons s xs))

statements_lines : (ss : List Statement) → statements_text ss ≡ lines_text ss ++ (48 ∷ 10 ∷ [])
statements_lines [] = ap (λ (l : List ℕ). l ++ (48 ∷ 10 ∷ [])) (sym lines_nil)
statements_lines (s ∷ ss) =
    ap (λ (l : List ℕ). statement_text s ++ (10 ∷ l)) (statements_lines ss)
    ∙ sym (append_assoc (statement_text s) (10 ∷ []) (lines_text ss ++ (48 ∷ 10 ∷ [])))
    ∙ sym (append_assoc (line_text s) (lines_text ss) (48 ∷ 10 ∷ []))
    ∙ ap (λ (l : List ℕ). l ++ (48 ∷ 10 ∷ [])) (sym (lines_cons s ss))

-- the header, the lines of two lists of statements, and the closing 0
pub text_parts : (xs ys : List Statement) → (97 ∷ 115 ∷ 112 ∷ 32 ∷ 49 ∷ 32 ∷ 48 ∷ 32 ∷ 48 ∷ 10 ∷ []) ++ (lines_text xs ++ (lines_text ys ++ (48 ∷ 10 ∷ []))) ≡ text_of (xs ++ ys)
unfolding text_of
text_parts xs ys =
    ap (λ (l : List ℕ). header ++ (10 ∷ l))
    (sym (statements_lines (xs ++ ys) ∙ ap (λ (l : List ℕ). l ++ (48 ∷ 10 ∷ [])) (lines_append xs ys) ∙ append_assoc (lines_text xs) (lines_text ys) (48 ∷ 10 ∷ [])))
