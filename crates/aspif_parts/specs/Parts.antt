-- The parts of a text of statements, and the tests of elements by which the code writes the defining statements. Definitions only.
--   lines_text       the lines of statements
--   head_text        a rule statement as far as its head;  literals_text: literals, each after a space
--   bound_by         the lower bound of a comparison, 0 for one of 0 or less
--   pass_of          whether an element passes a test
--   reached_body     the body of a count or sum that reaches a bound;  element_body: that of one good element
-- Assumes nothing.
use Rattle.std.specs.Prelude.{Bool, true, false, List, [], ◌∷◌, ◌++◌, map, ℕ, zero, suc, ◌≤◌, leb, ltb, ℤ, pos, negsuc, length}
use Rattle.meaning.specs.Lists.{Is, any, keep}
use Rattle.meaning.specs.Program.{Element, Aggregate}
use Rattle.meaning.specs.declared.Comparison.{Comparison}
use Rattle.meaning.specs.declared.Comparison.TheVariants.{Less, Greater}
use Rattle.aspif.specs.Statements.{Signed, Body, normal, weight, Statement}
use Rattle.layout.specs.Layout.{atoms, pairs, part_at, past_at, Listed}
use Rattle.layout.specs.declared.Table.{Table}
use Rattle.table.specs.Contents.{Contents, Each}
use Rattle.aspif.specs.Writing.{same_number, uses, with, stated_literal, barred, stating, bodies_of}
use Rattle.aspif.specs.Lines.{number_text, spaced, literal_number, pair_numbers, body_numbers, statement_text}
use Rattle.aspif_parts.specs.declared.Test.{Test}

-- ---- lines

abbrev pub line_text : Statement → List ℕ
line_text s = statement_text s ++ (10 ∷ [])

unfoldable pub lines_text : List Statement → List ℕ
lines_text [] = []
lines_text (s ∷ ss) = line_text s ++ lines_text ss

unfoldable pub head_text : List ℕ → List ℕ
head_text h = number_text (pos 1) ++ spaced (pos 0 ∷ pos (length h) ∷ map pos h)

-- a space and the literal's number
abbrev pub literal_text : Signed → List ℕ
literal_text x = 32 ∷ number_text (literal_number x)

unfoldable pub literals_text : List Signed → List ℕ
literals_text l = spaced (map literal_number l)

unfoldable pub pairs_text : List Element → List ℕ
pairs_text es = spaced (pair_numbers es)

unfoldable pub body_text : Body → List ℕ
body_text b = spaced (body_numbers b)

-- ---- tests of elements

abbrev pub bound_by : Comparison → ℤ → ℕ
bound_by k (negsuc n) = 0
bound_by Less (ℤ.pos n) = n
bound_by Greater (ℤ.pos n) = suc n

abbrev pub passes_by : Comparison → ℕ → ℕ → Bool
passes_by Less b v = ltb v b
passes_by Greater b v = leb b v

abbrev pub pass_of : Test → Element → Bool
pass_of test e = passes_by test.comparison test.bound e.value

abbrev pub test_of : Comparison → ℕ → Test
test_of k b = record { comparison = k; bound = b }

-- the elements that must not be true beside a good one: for the least, and for the most
abbrev pub bad_for_least : Comparison → ℕ → Test
bad_for_least Less b = test_of Less 0
bad_for_least Greater b = test_of Less b

abbrev pub bad_for_most : Comparison → ℕ → Test
bad_for_most Less b = test_of Greater b
bad_for_most Greater b = test_of Less 0

abbrev pub bit_of : Bool → ℕ
bit_of true = 1
bit_of false = 0

-- every atom of the pairs is 1 or more
abbrev pub AtomsFrom1 : List ℤ → Type 0
AtomsFrom1 l = Each (λ e. 1 ≤ e.atom) (pairs l)

-- ---- bodies

abbrev pub weight_by : Bool → ℕ → ℕ
weight_by true v = 1
weight_by false v = v

-- the elements that pass, each with weight 1 in a count
abbrev pub weighed : Bool → Element → Element
weighed count e = record { value = weight_by count e.value; atom = e.atom }

abbrev pub weights_by : Test → Bool → List Element → List Element
weights_by test count es = map (weighed count) (keep (pass_of test) es)

abbrev pub reached_body : ℕ → List Element → Body
reached_body zero es = normal []
reached_body (suc b) es = weight (pos (suc b)) es

unfoldable pub barred_by : Test → List Element → List Signed
barred_by test es = map barred (keep (pass_of test) es)

abbrev pub element_body : Test → List Element → Element → Body
element_body bad es e = normal (with true e.atom ∷ barred_by bad es)

abbrev pub element_bodies : Test → Test → List Element → List Element → List Body
element_bodies good bad all es = map (element_body bad all) (keep (pass_of good) es)

abbrev pub stating_all : ℕ → List Body → List Statement
stating_all p bs = map (stating p) bs

-- ---- one element's part of a text: nothing where it does not pass

abbrev pub element_of : ℕ → ℕ → Element
element_of v p = record { value = v; atom = p }

abbrev pub weight_text : Test → Bool → ℕ → ℕ → List ℕ
weight_text test count v p = pairs_text (weights_by test count (element_of v p ∷ []))

abbrev pub barred_text : Test → ℕ → ℕ → List ℕ
barred_text test v p = literals_text (barred_by test (element_of v p ∷ []))

abbrev pub good_text : ℕ → Test → Test → List Element → ℕ → ℕ → List ℕ
good_text p good bad es v q = lines_text (stating_all p (element_bodies good bad es (element_of v q ∷ [])))

-- the lines of a new atom, 0 where the literal is not in use
abbrev pub used_lines : Aggregate → ℕ → List ℕ
used_lines a zero = []
used_lines a (suc p) = lines_text (stating_all (suc p) (bodies_of a.function a))

-- ---- the body of a rule

-- every literal of the list is in use
abbrev pub InUse : Contents → List ℤ → Type 0
InUse c l = (w : ℤ) → Is (any (same_number w) l) → Is (uses c.rules w)

-- the body whose positive atoms stand at i lies there
pub record BodyLies (t : List ℤ) (tb : Table) (i : ℕ) : Type 0 where
  pub poss : Listed tb.atoms t i
  pub negs : Listed tb.atoms t (past_at t i)
  pub aggs : Listed tb.aggregates t (past_at t (past_at t i))

abbrev pub stated_body : Contents → List ℤ → ℕ → Body
stated_body c t i =
    normal (map (with true) (atoms (part_at t i)) ++ (map (with false) (atoms (part_at t (past_at t i))) ++ map (stated_literal c) (part_at t (past_at t (past_at t i)))))
