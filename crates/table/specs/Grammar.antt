-- The rule table (01): "Three sections in a fixed order, each after its count", and the refusals 1 to 7. Definitions only: to be believed.
--   table            the words of a table, each with its role, and the contents that they make
--   contents_of t     the contents of the words t, or the refusal: "Order: .. 1, ..; then the first faulty word from the left ..; then 3"
-- Assumes nothing.
use Rattle.std.specs.Prelude.{Bool, true, false, List, [], ◌∷◌, map, ℕ, zero, suc, leb, ℤ, pos, negsuc, nat_abs, length}
use Rattle.results.specs.declared.Refusal.{Refusal}
use Rattle.results.specs.declared.Refusal.TheVariants.{TooManyWords, Trailing}
use Rattle.meaning.specs.Program.{Element, Aggregate}
use Rattle.layout.specs.Layout.{function_by, comparison_by}
use Rattle.table.specs.Roles.{Role, count, quantity, member, Format, done, word, ◌>>=◌, Result, read, refused, run}
use Rattle.table.specs.Contents.{NumberedRule, Contents}

-- a word of a role
abbrev pub one : Role → Format ℤ
one role = word role done

-- n parts of one kind
unfoldable pub times : {A : Type 0} → ℕ → Format A → Format (List A)
times zero part = done []
times (suc n) part = do
  x ← part
  xs ← times n part
  done (x ∷ xs)

-- ---- lists, "each after its count"

-- n members after one whose number is `previous`
unfoldable pub members : Bool → ℕ → ℕ → ℕ → Format (List ℤ)
members signed top previous zero = done []
members signed top previous (suc n) = do
  w ← one (member signed top previous)
  l ← members signed top (nat_abs w) n
  done (w ∷ l)

unfoldable pub list : ℕ → Bool → ℕ → Format (List ℤ)
list most signed top = do
  n ← one (count most)
  members signed top 0 (nat_abs n)

unfoldable pub atoms : ℕ → ℕ → Format (List ℕ)
atoms most top = do
  l ← list most false top
  done (map nat_abs l)

-- ---- "function (0 count, 1 sum, 2 min, 3 max), comparison (0 less than, 1 greater than), threshold (-1 to 4,194,304), element count (0 to
-- ---- 64), then pairs of value (0 to 65,535) and atom"

unfoldable pub elements : ℕ → ℕ → ℕ → Format (List Element)
elements top previous zero = done []
elements top previous (suc n) = do
  v ← one (quantity (pos 0) (pos 65535))
  p ← one (member false top previous)
  es ← elements top (nat_abs p) n
  done (record { value = nat_abs v; atom = nat_abs p } ∷ es)

unfoldable pub aggregate : ℕ → Format Aggregate
aggregate top = do
  f ← one (quantity (pos 0) (pos 3))
  c ← one (quantity (pos 0) (pos 1))
  t ← one (quantity (negsuc 0) (pos 4194304))
  n ← one (count 64)
  es ← elements top 0 (nat_abs n)
  done (record { function = function_by (nat_abs f); comparison = comparison_by (nat_abs c); threshold = t; elements = es })

-- ---- "head atoms (0 to 16), positive body atoms (0 to 64), negated body atoms (0 to 64), aggregate literals (0 to 8)"

unfoldable pub rule : ℕ → ℕ → Format NumberedRule
rule top most = do
  h ← atoms 16 top
  p ← atoms 64 top
  n ← atoms 64 top
  l ← list 8 true most
  done (record { head = h; pos = p; neg = n; aggs = l })

-- ---- the three sections

unfoldable pub aggregates : ℕ → Format (List Aggregate)
aggregates top = do
  g ← one (count 64)
  times (nat_abs g) (aggregate top)

unfoldable pub rules : ℕ → ℕ → Format (List NumberedRule)
rules top most = do
  m ← one (count 1024)
  times (nat_abs m) (rule top most)

unfoldable pub table : Format Contents
table = do
  n ← one (count 256)
  gs ← aggregates (nat_abs n)
  rs ← rules (nat_abs n) (length gs)
  done (record { atoms = nat_abs n; aggregates = gs; rules = rs })

-- ---- the whole

pub data Outcome : Type 0 where
  accepted : Contents → Outcome
  refused_for : Refusal → Outcome

-- 3, "words follow the last rule"
abbrev pub ended : Result Contents → Outcome
ended (read c i []) = accepted c
ended (read c i (w ∷ ws)) = refused_for (Trailing i)
ended (refused r) = refused_for r

-- 1, "more than 16,384 words", before all others
abbrev pub outcome_by : Bool → List ℤ → Outcome
outcome_by true t = ended (run table 0 t)
outcome_by false t = refused_for TooManyWords

unfoldable pub contents_of : List ℤ → Outcome
contents_of t = outcome_by (leb (length t) 16384) t
