-- An aggregate in 01's notation, from its tokens. Definitions only: to be believed.
--   function_in       its first word;  aggregate top f: what follows it, up to the threshold
-- Assumes nothing.
use Rattle.std.specs.Prelude.{true, false, cond, List, [], ◌∷◌, ◌++◌, map, ℕ, zero, suc, leb, eqb, ℤ, pos, negsuc}
use Rattle.std.proofs.Math.Option.{Option, none, some}
use Rattle.meaning.specs.Foundedness.{same_list}
use Rattle.meaning.specs.Program.{Element, Aggregate}
use Rattle.meaning.specs.declared.Function.{Function}
use Rattle.meaning.specs.declared.Function.TheVariants.{Count, Sum, Min, Max}
use Rattle.meaning.specs.declared.Comparison.{Comparison}
use Rattle.meaning.specs.declared.Comparison.TheVariants.{Less, Greater}
use Rattle.notation.specs.Tokens.{Token, number, word, neck, mark, end}
use Rattle.notation.specs.Parser.{unexpected, outside, too_many, Parser, done, stop, next, ◌>>=◌, token, a_number, is_mark, check, a_mark, member}

-- ---- an aggregate: `count{1:1, 1:2} > 1`, after its first word

-- elements after those of es; v is the value of the next; n of them may come
unfoldable pub elements_from : ℕ → ℕ → List Element → ℕ → Parser (List Element)
elements_from zero top es v = stop too_many 0
elements_from (suc n) top es v = do
  a ← check (leb v 65535) outside 0
  b ← a_mark 58
  p ← a_number
  l ← member 0 top 64 (map (λ (e : Element). e.atom) es) p
  t ← token
  elim (is_mark 44 t) [
    | true ↦ (do
      u ← a_number
      elements_from n top (es ++ (record { value = v; atom = p } ∷ [])) u)
    | false ↦ (do
      c ← check (is_mark 125 t) unexpected 0
      done (es ++ (record { value = v; atom = p } ∷ [])))
  ]

abbrev pub elements_by : ℕ → Token → Parser (List Element)
elements_by top (number v) = elements_from 64 top [] v
elements_by top (word w) = stop unexpected 0
elements_by top neck = stop unexpected 0
elements_by top (mark b) = check (eqb b 125) unexpected 0 >>= (λ a. done [])
elements_by top end = stop unexpected 0

abbrev pub comparison_in : Token → Parser Comparison
comparison_in (number n) = stop unexpected 0
comparison_in (word w) = stop unexpected 0
comparison_in neck = stop unexpected 0
comparison_in (mark b) = cond (eqb b 60) (done Less) (cond (eqb b 62) (done Greater) (stop unexpected 0))
comparison_in end = stop unexpected 0

-- "threshold (-1 to 4,194,304)"
abbrev pub threshold_in : Token → Parser ℤ
threshold_in (number n) = check (leb n 4194304) outside 0 >>= (λ a. done (pos n))
threshold_in (word w) = stop unexpected 0
threshold_in neck = stop unexpected 0
threshold_in (mark b) = do
  a ← check (eqb b 45) unexpected 0
  n ← a_number
  c ← check (eqb n 1) outside 0
  done (negsuc 0)
threshold_in end = stop unexpected 0

unfoldable pub aggregate : ℕ → Function → Parser Aggregate
aggregate top f = do
  a ← a_mark 123
  t ← token
  es ← elements_by top t
  k ← next comparison_in
  z ← next threshold_in
  done (record { function = f; comparison = k; threshold = z; elements = es })

-- `count`, `sum`, `min`, `max`
unfoldable pub function_of : List ℕ → Option Function
function_of w =
    cond (same_list w (99 ∷ 111 ∷ 117 ∷ 110 ∷ 116 ∷ [])) (some Count)
    (cond (same_list w (115 ∷ 117 ∷ 109 ∷ [])) (some Sum) (cond (same_list w (109 ∷ 105 ∷ 110 ∷ [])) (some Min) (cond (same_list w (109 ∷ 97 ∷ 120 ∷ [])) (some Max) none)))

abbrev pub function_by : Option Function → Parser Function
function_by none = stop unexpected 0
function_by (some f) = done f

abbrev pub function_in : Token → Parser Function
function_in (number n) = stop unexpected 0
function_in (word w) = function_by (function_of w)
function_in neck = stop unexpected 0
function_in (mark b) = stop unexpected 0
function_in end = stop unexpected 0
