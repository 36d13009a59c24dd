-- The tokens of a text in 01's notation, part by part as `Notation` has the bytes. `proofs/LexedTable.antt` shows that they are its tokens, `proofs/ReadTable.antt`
-- what is made of them. Assumes nothing.
use mathlib.Core.Bool.{Bool, true, false, cond, not}
use mathlib.Core.List.{List, [], ◌∷◌, ◌++◌, map}
use Prim.Native.Nat.{ℕ, suc}
use lib.Dec.{leb}
use lib.IntN.{ℤ, negsuc, nat_abs}
use lib.ListN.{take}
use lib.Signed.{non_neg}
use Rattle.meaning.specs.Program.{Element, Aggregate}
use Rattle.meaning.specs.declared.Function.{Function}
use Rattle.meaning.specs.declared.Function.TheVariants.{Count, Sum, Min, Max}
use Rattle.meaning.specs.declared.Comparison.{Comparison}
use Rattle.meaning.specs.declared.Comparison.TheVariants.{Less, Greater}
use Rattle.table.specs.Contents.{NumberedRule, Contents, aggregate_by}
use Rattle.notation.specs.Notation.{some}
use Rattle.notation.specs.Tokens.{Token, number, word, neck, mark}

-- ---- parts with a mark between them

abbrev pub before_t : ℕ → Bool → List Token
before_t between false = []
before_t between true = mark between ∷ []

abbrev pub joined_t : ℕ → Bool → List (List Token) → List Token
joined_t between behind [] = []
joined_t between behind (x ∷ xs) = before_t between behind ++ (x ++ joined_t between true xs)

-- ---- an aggregate

abbrev pub function_word : Function → List ℕ
function_word Count = 99 ∷ 111 ∷ 117 ∷ 110 ∷ 116 ∷ []
function_word Sum = 115 ∷ 117 ∷ 109 ∷ []
function_word Min = 109 ∷ 105 ∷ 110 ∷ []
function_word Max = 109 ∷ 97 ∷ 120 ∷ []

abbrev pub comparison_mark : Comparison → ℕ
comparison_mark Less = 60
comparison_mark Greater = 62

abbrev pub element_t : Element → List Token
element_t e = number e.value ∷ mark 58 ∷ number e.atom ∷ []

abbrev pub threshold_t : ℤ → List Token
threshold_t (ℤ.pos n) = number n ∷ []
threshold_t (negsuc n) = mark 45 ∷ number (suc n) ∷ []

-- after the first word
abbrev pub rest_t : Aggregate → List Token
rest_t a = mark 123 ∷ (joined_t 44 false (map element_t a.elements) ++ (mark 125 ∷ mark (comparison_mark a.comparison) ∷ threshold_t a.threshold))

abbrev pub aggregate_t : Aggregate → List Token
aggregate_t a = word (function_word a.function) ∷ rest_t a

-- ---- a rule

abbrev pub not_t : Bool → List Token
not_t false = []
not_t true = word (110 ∷ 111 ∷ 116 ∷ []) ∷ []

abbrev pub name_t : ℕ → List Token
name_t j = mark 35 ∷ number j ∷ []

abbrev pub literal_t : ℕ → List Aggregate → ℤ → List Token
literal_t d gs w = not_t (not (non_neg w)) ++ cond (leb (nat_abs w) d) (name_t (nat_abs w)) (aggregate_t (aggregate_by gs (nat_abs w)))

abbrev pub atom_t : Bool → ℕ → List Token
atom_t b p = not_t b ++ (number p ∷ [])

abbrev pub body_t : ℕ → List Aggregate → List ℕ → List ℕ → List ℤ → List (List Token)
body_t d gs ps ns ws = map (atom_t false) ps ++ (map (atom_t true) ns ++ map (literal_t d gs) ws)

abbrev pub neck_t : Bool → Bool → List Token
neck_t true false = []
neck_t true true = neck ∷ []
neck_t false b = neck ∷ []

abbrev pub rule_t : ℕ → List Aggregate → NumberedRule → List Token
rule_t d gs r =
    joined_t 124 false (map (atom_t false) r.head)
    ++ (neck_t (some r.head) (some (body_t d gs r.pos r.neg r.aggs)) ++ (joined_t 44 false (body_t d gs r.pos r.neg r.aggs) ++ (mark 46 ∷ [])))

-- ---- the table

abbrev pub atoms_t : ℕ → List Token
atoms_t n = word (97 ∷ 116 ∷ 111 ∷ 109 ∷ 115 ∷ []) ∷ number n ∷ mark 46 ∷ []

abbrev pub name_line_t : ℕ → Aggregate → List Token
name_line_t j a = mark 35 ∷ number j ∷ mark 61 ∷ (aggregate_t a ++ (mark 46 ∷ []))

abbrev pub names_t : ℕ → List Aggregate → List Token
names_t j [] = []
names_t j (a ∷ gs) = name_line_t j a ++ names_t (suc j) gs

abbrev pub rule_line_t : ℕ → List Aggregate → ℕ → NumberedRule → List Token
rule_line_t d gs i r = number i ∷ mark 58 ∷ rule_t d gs r

abbrev pub rules_t : ℕ → List Aggregate → ℕ → List NumberedRule → List Token
rules_t d gs i [] = []
rules_t d gs i (r ∷ rs) = rule_line_t d gs i r ++ rules_t d gs (suc i) rs

abbrev pub table_t : ℕ → Contents → List Token
table_t d c = atoms_t c.atoms ++ (names_t 1 (take d c.aggregates) ++ rules_t d c.aggregates 1 c.rules)
