-- One element's part of a text, and the texts of elements one element at a time. Assumes nothing.
use mathlib.Core.Path.{◌≡◌, refl, sym, ap, ◌∙◌}
use mathlib.Core.Bool.{Bool, true, false}
use mathlib.Core.List.{List, [], ◌∷◌, ◌++◌, map, append_assoc}
use Prim.Native.Nat.{ℕ, zero, suc, ◌+◌, ◌≤◌, ◌<◌}
use native.Mathlib.Omega.{arith}
use lib.IntN.{ℤ, pos, nat_abs}
use lib.ListN.{length, get_or, drop, length-map}
use Rattle.meaning.specs.Lists.{keep, cons_if}
use Rattle.meaning.specs.Program.{Element}
use Rattle.layout.specs.Layout.{pairs}
use Rattle.aspif.specs.Statements.{Signed, Body, normal}
use Rattle.aspif.specs.Writing.{with, barred, stating}
use Rattle.bytes_out.specs.Putting.{field_text, signed_text}
use Rattle.aspif_parts.specs.declared.Test.{Test}
use Rattle.aspif_parts.specs.Parts.{line_text, lines_text, head_text, literals_text, pairs_text, passes_by, pass_of, bit_of, weight_by, weighed, weights_by, reached_body, barred_by, element_body, element_bodies, stating_all, element_of, weight_text, barred_text, good_text}
use Rattle.aspif_parts.proofs.Texts.{signed_field, literals_nil, literals_one, literals_cons, literals_on, pairs_nil, pairs_one, pairs_on, lines_nil, lines_one, lines_on, line_parts, normal_parts, weight_parts, fact_parts}
use Rattle.aspif_parts.proofs.Elements.{text_on, text_off}

pub bit_most : (b : Bool) → bit_of b ≤ 1
bit_most true = omega arith
bit_most false = omega arith

-- ---- an element of a weight body

module _ (test : Test) (count : Bool) (v p : ℕ) where
  pub weight_yes : passes_by test.comparison test.bound v ≡ true → weight_text test count v p ≡ field_text p ++ field_text (weight_by count v)
  weight_yes h = ap (λ (b : Bool). pairs_text (map (weighed count) (cons_if b (element_of v p) []))) h ∙ pairs_one (weighed count (element_of v p))

  pub weight_no : passes_by test.comparison test.bound v ≡ false → weight_text test count v p ≡ []
  weight_no h = ap (λ (b : Bool). pairs_text (map (weighed count) (cons_if b (element_of v p) []))) h ∙ pairs_nil

module _ (test : Test) (count : Bool) (l : List ℤ) (i : ℕ) where
  pub weights_on : i + 1 < length l
      → pairs_text (weights_by test count (pairs (drop i l))) ≡ weight_text test count (nat_abs (get_or l i (pos 0))) (nat_abs (get_or l (i + 1) (pos 0))) ++ pairs_text (weights_by test count (pairs (drop (i + 2) l)))
  weights_on h = text_on pairs_text pairs_nil pairs_on (weighed count) (pass_of test) l i h

  pub weights_off : length l ≤ i + 1 → pairs_text (weights_by test count (pairs (drop i l))) ≡ []
  weights_off h = text_off pairs_text pairs_nil pairs_on (weighed count) (pass_of test) l i h

pub weights_long : (test : Test) (count : Bool) (es : List Element) → length (weights_by test count es) ≡ length (keep (pass_of test) es)
weights_long test count es = length-map (keep (pass_of test) es) (weighed count)

-- ---- an element that must not be true

module _ (test : Test) (v p : ℕ) where
  pub barred_yes : 1 ≤ p → passes_by test.comparison test.bound v ≡ true → signed_text false p ≡ barred_text test v p
  unfolding barred_by
  barred_yes g h = sym (ap (λ (b : Bool). literals_text (map barred (cons_if b (element_of v p) []))) h ∙ literals_one (barred (element_of v p)) ∙ sym (signed_field false p g))

  pub barred_no : passes_by test.comparison test.bound v ≡ false → barred_text test v p ≡ []
  unfolding barred_by
  barred_no h = ap (λ (b : Bool). literals_text (map barred (cons_if b (element_of v p) []))) h ∙ literals_nil

module _ (test : Test) (l : List ℤ) (i : ℕ) where
  pub barred_on : i + 1 < length l
      → literals_text (barred_by test (pairs (drop i l))) ≡ barred_text test (nat_abs (get_or l i (pos 0))) (nat_abs (get_or l (i + 1) (pos 0))) ++ literals_text (barred_by test (pairs (drop (i + 2) l)))
  unfolding barred_by
  barred_on h = text_on literals_text literals_nil literals_on barred (pass_of test) l i h

  pub barred_off : length l ≤ i + 1 → literals_text (barred_by test (pairs (drop i l))) ≡ []
  unfolding barred_by
  barred_off h = text_off literals_text literals_nil literals_on barred (pass_of test) l i h

pub barred_long : (test : Test) (es : List Element) → length (barred_by test es) ≡ length (keep (pass_of test) es)
unfolding barred_by
barred_long test es = length-map (keep (pass_of test) es) barred

-- ---- the line of a reached bound

pub fact_line : (p : ℕ) (es : List Element) → head_text (p ∷ []) ++ (32 ∷ 48 ∷ 32 ∷ 48 ∷ 10 ∷ []) ≡ line_text (stating p (reached_body 0 es))
fact_line p es = ap (λ (l : List ℕ). head_text (p ∷ []) ++ l) fact_parts ∙ line_parts (stating p (normal []))

append_four : (a b c d e : List ℕ) → (a ++ (b ++ (c ++ d))) ++ e ≡ a ++ (b ++ (c ++ (d ++ e)))
append_four a b c d e = simp append_assoc

pub weight_line : (p b n : ℕ) (es : List Element) → (b ≡ 0 → ⊥) → n ≡ length es
    → head_text (p ∷ []) ++ ((32 ∷ 49 ∷ []) ++ (field_text b ++ (field_text n ++ (pairs_text es ++ (10 ∷ []))))) ≡ line_text (stating p (reached_body b es))
weight_line p zero n es h e = absurd (h refl)
weight_line p (suc b) n es h e =
    ap (λ (k : ℕ). head_text (p ∷ []) ++ ((32 ∷ 49 ∷ []) ++ (field_text (suc b) ++ (field_text k ++ (pairs_text es ++ (10 ∷ [])))))) e
    ∙ ap (λ (l : List ℕ). head_text (p ∷ []) ++ l) (sym (append_four (32 ∷ 49 ∷ []) (field_text (suc b)) (field_text (length es)) (pairs_text es) (10 ∷ [])) ∙ ap (λ (l : List ℕ). l ++ (10 ∷ [])) (weight_parts (suc b) es))
    ∙ line_parts (stating p (reached_body (suc b) es))

-- ---- the line of a good element

module _ (p q : ℕ) (bad : Test) (es : List Element) where
  abbrev literals : List Signed
  literals = with true q ∷ barred_by bad es

  pub good_line : (n v : ℕ) → n ≡ length (keep (pass_of bad) es) + 1
      → head_text (p ∷ []) ++ ((32 ∷ 48 ∷ []) ++ (field_text n ++ (field_text q ++ (literals_text (barred_by bad es) ++ (10 ∷ []))))) ≡ line_text (stating p (element_body bad es (element_of v q)))
  good_line n v e =
      let l = barred_long bad es in
      let m : n ≡ length literals = omega arith in
      ap (λ (k : ℕ). head_text (p ∷ []) ++ ((32 ∷ 48 ∷ []) ++ (field_text k ++ (field_text q ++ (literals_text (barred_by bad es) ++ (10 ∷ [])))))) m
      ∙ ap (λ (x : List ℕ). head_text (p ∷ []) ++ x)
      (sym (append_four (32 ∷ 48 ∷ []) (field_text (length literals)) (field_text q) (literals_text (barred_by bad es)) (10 ∷ []))
      ∙ ap (λ (x : List ℕ). x ++ (10 ∷ [])) (ap (λ (x : List ℕ). (32 ∷ 48 ∷ []) ++ (field_text (length literals) ++ x)) (sym (literals_cons (with true q) (barred_by bad es))) ∙ normal_parts literals))
      ∙ line_parts (stating p (element_body bad es (element_of v q)))

module _ (p : ℕ) (good bad : Test) (all : List Element) (v q : ℕ) where
  pub good_yes : passes_by good.comparison good.bound v ≡ true → line_text (stating p (element_body bad all (element_of 0 q))) ≡ good_text p good bad all v q
  good_yes h = sym (ap (λ (b : Bool). lines_text (stating_all p (map (element_body bad all) (cons_if b (element_of v q) [])))) h ∙ lines_one (stating p (element_body bad all (element_of v q))))

  pub good_no : passes_by good.comparison good.bound v ≡ false → good_text p good bad all v q ≡ []
  good_no h = ap (λ (b : Bool). lines_text (stating_all p (map (element_body bad all) (cons_if b (element_of v q) [])))) h ∙ lines_nil

-- the lines of bodies, as a text of bodies
abbrev lines_of : ℕ → List Body → List ℕ
lines_of p bs = lines_text (stating_all p bs)

of_nil : (p : ℕ) → lines_of p [] ≡ []
of_nil p = lines_nil

of_on : (p : ℕ) (b : Body) (bs : List Body) → lines_of p (b ∷ bs) ≡ lines_of p (b ∷ []) ++ lines_of p bs
of_on p b bs = lines_on (stating p b) (stating_all p bs)

module _ (p : ℕ) (good bad : Test) (all : List Element) (l : List ℤ) (i : ℕ) where
  pub good_on : i + 1 < length l
      → lines_text (stating_all p (element_bodies good bad all (pairs (drop i l)))) ≡ good_text p good bad all (nat_abs (get_or l i (pos 0))) (nat_abs (get_or l (i + 1) (pos 0))) ++ lines_text (stating_all p (element_bodies good bad all (pairs (drop (i + 2) l))))
  good_on h = text_on (lines_of p) (of_nil p) (of_on p) (element_body bad all) (pass_of good) l i h

  pub good_off : length l ≤ i + 1 → lines_text (stating_all p (element_bodies good bad all (pairs (drop i l)))) ≡ []
  good_off h = text_off (lines_of p) (of_nil p) (of_on p) (element_body bad all) (pass_of good) l i h
