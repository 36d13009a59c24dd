-- Laws of lines: where a line ends, and what the lines from an index on are. Assumes nothing.
use mathlib.Core.Path.{◌≡◌, refl, ap, ◌∙◌}
use mathlib.Core.Bool.{Bool, true, false}
use mathlib.Core.List.{List, [], ◌∷◌, ◌++◌, append_assoc, append-nil}
use Prim.Native.Nat.{ℕ, suc, ◌+◌, ◌-◌, ◌<◌, ◌≤◌, max, min}
use native.Mathlib.Numerals.{add-one}
use native.Mathlib.Omega.{arith}
use borrow.Author.Tests.{leb-true, leb-false}
use lib.Dec.{eqb, leb}
use lib.ListN.{length, get_or, take, drop, drop_of_length-le, length-drop}
use lib.Seq.{drop-cons, drop-drop}
use Rattle.text.specs.Text.{ended}
use Rattle.aspif.specs.Lines.{lines_from, lines_of}
use Rattle.aspif_read.specs.Survey.{line_length}

-- ---- lines

length_newline : (b : ℕ) (bs : List ℕ) → eqb b 10 ≡ true → line_length (b ∷ bs) ≡ 0
unfolding line_length
length_newline b bs e = rw (e, line_length)

length_other : (b : ℕ) (bs : List ℕ) → eqb b 10 ≡ false → line_length (b ∷ bs) ≡ suc (line_length bs)
unfolding line_length
length_other b bs e = rw (e, line_length)

length_none : line_length [] ≡ 0
unfolding line_length
length_none = refl

pub line_le : (bs : List ℕ) → line_length bs ≤ length bs
line_le [] = rw length_none (omega arith)
line_le (b ∷ bs) = at (eqb b 10) refl (line_le bs)
  where
    at : (t : Bool) → eqb b 10 ≡ t → line_length bs ≤ length bs → line_length (b ∷ bs) ≤ suc (length bs)
    at true e h = rw (length_newline b bs e) (omega arith)
    at false e h = rw (length_other b bs e) (omega arith)

module _ (text : List ℕ) (i : ℕ) (h : i < length text) where
  pub line_stop : eqb (get_or text i 0) 10 ≡ true → line_length (drop i text) ≡ 0
  line_stop e = rw (drop-cons text i 0 h) (length_newline (get_or text i 0) (drop (suc i) text) e)

  pub line_on : eqb (get_or text i 0) 10 ≡ false → line_length (drop i text) ≡ suc (line_length (drop (i + 1) text))
  line_on e = rw (drop-cons text i 0 h, add-one) (length_other (get_or text i 0) (drop (suc i) text) e)

pub line_none : (text : List ℕ) (i : ℕ) → length text ≤ i → line_length (drop i text) ≡ 0
line_none text i h = rw (drop_of_length-le text h) length_none

-- past the end, or after a walk to the end
pub line_past : (text : List ℕ) (from i : ℕ) → length text ≤ i → (from ≤ length text → i ≤ length text) → i + line_length (drop i text) ≡ from + line_length (drop from text)
    → max from (length text) ≡ from + line_length (drop from text)
line_past text from i h k e = at (leb from (length text)) refl
  where
    at : (b : Bool) → leb from (length text) ≡ b → max from (length text) ≡ from + line_length (drop from text)
    at true f = let g = leb-true from (length text) f in let j = k g in let n = line_none text i h in omega arith
    at false f = let g = leb-false from (length text) f in let n = line_none text from (omega arith) in omega arith

lines_newline : (run bs : List ℕ) (b : ℕ) → eqb b 10 ≡ true → lines_from run (b ∷ bs) ≡ run ∷ lines_of bs
unfolding lines_from
lines_newline run bs b e = rw (e, lines_from)

lines_other : (run bs : List ℕ) (b : ℕ) → eqb b 10 ≡ false → lines_from run (b ∷ bs) ≡ lines_from (run ++ (b ∷ [])) bs
unfolding lines_from
lines_other run bs b e = rw (e, lines_from)

lines_nil : (run : List ℕ) → lines_from run [] ≡ ended run []
unfolding lines_from
lines_nil run = refl

pub lines_none : (text : List ℕ) (at : ℕ) → length text ≤ at → lines_of (drop at text) ≡ []
lines_none text at h = rw (drop_of_length-le text h) (lines_nil [])

ended_some : (run : List ℕ) (rs : List (List ℕ)) → 0 < length run → ended run rs ≡ run ∷ rs
ended_some [] rs h = absurd (omega arith)
ended_some (b ∷ run) rs h = refl

snoc_some : (run : List ℕ) (b : ℕ) (n : ℕ) → 0 < length (run ++ (b ∷ [])) + n
snoc_some [] b n = omega arith
snoc_some (x ∷ run) b n = omega arith

lines_run : (bs run : List ℕ) → 0 < length run + length bs → lines_from run bs ≡ (run ++ take (line_length bs) bs) ∷ lines_of (drop (suc (line_length bs)) bs)
lines_run [] run h = rw (lines_nil run, length_none, append-nil run, lines_nil []) (ended_some run [] (omega arith))
lines_run (b ∷ bs) run h = at (eqb b 10) refl (lines_run bs (run ++ (b ∷ [])) (snoc_some run b (length bs)))
  where
    at : (t : Bool) → eqb b 10 ≡ t → lines_from (run ++ (b ∷ [])) bs ≡ ((run ++ (b ∷ [])) ++ take (line_length bs) bs) ∷ lines_of (drop (suc (line_length bs)) bs)
        → lines_from run (b ∷ bs) ≡ (run ++ take (line_length (b ∷ bs)) (b ∷ bs)) ∷ lines_of (drop (suc (line_length (b ∷ bs))) (b ∷ bs))
    at true e k = rw (length_newline b bs e, append-nil run) (lines_newline run bs b e)
    at false e k = rw (length_other b bs e) (lines_other run bs b e ∙ k ∙ ap (λ (l : List ℕ). l ∷ lines_of (drop (suc (line_length bs)) bs)) (append_assoc run (b ∷ []) (take (line_length bs) bs)))

-- a line, where the next begins, and that this is further on
module _ (text : List ℕ) (at : ℕ) (h : at < length text) where
  pub line_inside : at + line_length (drop at text) ≤ length text
  line_inside =
      let k = line_le (drop at text) in
      let l = length-drop at text in
      omega arith

  pub line_further : at < min (at + line_length (drop at text) + 1) (length text)
  line_further = omega arith

  drop_min : (n : ℕ) → drop (min n (length text)) text ≡ drop n text
  drop_min n = two (leb n (length text)) refl
    where
      two : (b : Bool) → leb n (length text) ≡ b → drop (min n (length text)) text ≡ drop n text
      two true e = let k : min n (length text) ≡ n = omega (arith, leb-true n (length text) e) in rw k
      two false e =
          let k = leb-false n (length text) e in
          let j : length text ≤ n = omega arith in
          let i : length text ≤ length text = omega arith in
          let m : min n (length text) ≡ length text = omega arith in
          rw (m, drop_of_length-le text j, drop_of_length-le text i)

  pub line_first : lines_of (drop at text) ≡ take (at + line_length (drop at text) - at) (drop at text) ∷ lines_of (drop (min (at + line_length (drop at text) + 1) (length text)) text)
  line_first =
      let n = line_length (drop at text) in
      let e : at + n - at ≡ n = omega arith in
      let f : at + n + 1 ≡ at + suc n = omega arith in
      let l = length-drop at text in
      lines_run (drop at text) [] (omega arith) ∙ (rw (e, drop_min (at + n + 1), f, ← drop-drop (suc n) at text))
