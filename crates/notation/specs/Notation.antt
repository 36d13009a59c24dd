-- A table in 01's notation (01, "Examples to test by": "The notation `1 | 2 :- 3, not 4.` stands for the words"), so that the words can be read back from
-- it. Definitions only: to be believed. A text is, line by line:
--   atoms 3.                             the number of atoms
--   #1 = count{1:1, 1:2} > 1.            the aggregates that have a name: those up to `named`
--   1: 1 | 2.                            the rules by number; a fact has no `:-`, a constraint no head
--   2: 3 :- 1, not 2, not #1.            positive atoms, negated atoms, aggregate literals, by name ..
--   3: :- sum{5:1, 7:3} < 12.            .. or written out
-- An aggregate needs no name where the literals over it and over those after it, from the first rule to the last, take them in turn, each once.
--   aggregate_text, rule_text d c r    an aggregate; a rule of c whose aggregates up to d have a name: with 0 for d all of them are written out
--   named c                          the least number of names that does
--   text_of c                         the text of a table with the contents c
-- Assumes nothing.
use Rattle.std.specs.Prelude.{Bool, true, false, not, cond, List, [], ◌∷◌, ◌++◌, map, ℕ, zero, suc, leb, eqb, ℤ, negsuc, nat_abs, length, take}
use Rattle.std.specs.Int.Signed.{non_neg}
use Rattle.meaning.specs.Program.{Element, Aggregate}
use Rattle.meaning.specs.declared.Function.{Function}
use Rattle.meaning.specs.declared.Function.TheVariants.{Count, Sum, Min, Max}
use Rattle.meaning.specs.declared.Comparison.{Comparison}
use Rattle.meaning.specs.declared.Comparison.TheVariants.{Less, Greater}
use Rattle.table.specs.Contents.{NumberedRule, Contents, aggregate_by}
use Rattle.text.specs.Line.{decimal}

-- ---- parts with something between them

abbrev pub some : {A : Type 0} → List A → Bool
some [] = false
some (x ∷ l) = true

-- what stands before a part, if another stands before it
abbrev pub before : List ℕ → Bool → List ℕ
before between false = []
before between true = between

-- parts after others, if `behind`
abbrev pub joined_from : List ℕ → Bool → List (List ℕ) → List ℕ
joined_from between behind [] = []
joined_from between behind (x ∷ xs) = before between behind ++ (x ++ joined_from between true xs)

abbrev pub joined : List ℕ → List (List ℕ) → List ℕ
joined between xs = joined_from between false xs

-- `, ` and ` | `
abbrev pub comma : List ℕ
comma = 44 ∷ 32 ∷ []

abbrev pub bar : List ℕ
bar = 32 ∷ 124 ∷ 32 ∷ []

-- `not `
abbrev pub not_word : List ℕ
not_word = 110 ∷ 111 ∷ 116 ∷ 32 ∷ []

-- ---- an aggregate: `count{1:1, 1:2} > 1`

abbrev pub function_text : Function → List ℕ
function_text Count = 99 ∷ 111 ∷ 117 ∷ 110 ∷ 116 ∷ 123 ∷ []
function_text Sum = 115 ∷ 117 ∷ 109 ∷ 123 ∷ []
function_text Min = 109 ∷ 105 ∷ 110 ∷ 123 ∷ []
function_text Max = 109 ∷ 97 ∷ 120 ∷ 123 ∷ []

abbrev pub comparison_text : Comparison → List ℕ
comparison_text Less = 125 ∷ 32 ∷ 60 ∷ 32 ∷ []
comparison_text Greater = 125 ∷ 32 ∷ 62 ∷ 32 ∷ []

-- a value, a colon and an atom
abbrev pub element_text : Element → List ℕ
element_text e = decimal e.value ++ (58 ∷ decimal e.atom)

abbrev pub threshold_text : ℤ → List ℕ
threshold_text (ℤ.pos n) = decimal n
threshold_text (negsuc n) = 45 ∷ decimal (suc n)

unfoldable pub aggregate_text : Aggregate → List ℕ
aggregate_text a = function_text a.function ++ (joined comma (map element_text a.elements) ++ (comparison_text a.comparison ++ threshold_text a.threshold))

-- ---- a rule

-- an atom with a word before it, or none
abbrev pub atom_text : List ℕ → ℕ → List ℕ
atom_text word p = word ++ decimal p

-- `#` and the number
abbrev pub name_text : ℕ → List ℕ
name_text j = 35 ∷ decimal j

-- the literal w: the name of its aggregate, or the aggregate written out
unfoldable pub literal_text : ℕ → List Aggregate → ℤ → List ℕ
literal_text d gs w = before not_word (not (non_neg w)) ++ cond (leb (nat_abs w) d) (name_text (nat_abs w)) (aggregate_text (aggregate_by gs (nat_abs w)))

abbrev pub body_parts : ℕ → List Aggregate → List ℕ → List ℕ → List ℤ → List (List ℕ)
body_parts d gs ps ns ws = map (atom_text []) ps ++ (map (atom_text not_word) ns ++ map (literal_text d gs) ws)

-- between a head and a body, by whether they have members: nothing in a fact, else ` :- ` after a head and `:- ` before a constraint's body
abbrev pub neck : Bool → Bool → List ℕ
neck true false = []
neck true true = 32 ∷ 58 ∷ 45 ∷ 32 ∷ []
neck false b = 58 ∷ 45 ∷ 32 ∷ []

-- 46 is the dot, 10 a newline
abbrev pub stop : List ℕ
stop = 46 ∷ 10 ∷ []

abbrev pub lists_text : ℕ → List Aggregate → List ℕ → List ℕ → List ℕ → List ℤ → List ℕ
lists_text d gs hs ps ns ws =
    joined bar (map (atom_text []) hs) ++ (neck (some hs) (some (body_parts d gs ps ns ws)) ++ (joined comma (body_parts d gs ps ns ws) ++ stop))

unfoldable pub rule_text : ℕ → List Aggregate → NumberedRule → List ℕ
rule_text d gs r = lists_text d gs r.head r.pos r.neg r.aggs

-- ---- which aggregates need no name

-- e is the aggregate whose turn it is; 0 where one was taken out of turn
unfoldable pub turn : ℕ → ℕ → ℤ → ℕ
turn d e w = cond (leb (nat_abs w) d) e (cond (eqb (nat_abs w) e) (suc e) 0)

unfoldable pub turns : ℕ → ℕ → List ℤ → ℕ
turns d e [] = e
turns d e (w ∷ ws) = turns d (turn d e w) ws

unfoldable pub turns_all : ℕ → ℕ → List NumberedRule → ℕ
turns_all d e [] = e
turns_all d e (r ∷ rs) = turns_all d (turns d e r.aggs) rs

-- those after d are taken in turn, to the last
unfoldable pub in_turn : Contents → ℕ → Bool
in_turn c d = eqb (turns_all d (suc d) c.rules) (suc (length c.aggregates))

-- the first of d, d + 1, .., d + n that does
unfoldable pub named_from : Contents → ℕ → ℕ → ℕ
named_from c d zero = d
named_from c d (suc n) = cond (in_turn c d) d (named_from c (suc d) n)

unfoldable pub named : Contents → ℕ
named c = named_from c 0 (length c.aggregates)

-- ---- the table

-- `atoms 3.`
abbrev pub atoms_line : ℕ → List ℕ
atoms_line n = (97 ∷ 116 ∷ 111 ∷ 109 ∷ 115 ∷ 32 ∷ []) ++ (decimal n ++ stop)

-- `#1 = ..`
abbrev pub name_line : ℕ → Aggregate → List ℕ
name_line j a = name_text j ++ ((32 ∷ 61 ∷ 32 ∷ []) ++ (aggregate_text a ++ stop))

unfoldable pub names_text : ℕ → List Aggregate → List ℕ
names_text j [] = []
names_text j (a ∷ gs) = name_line j a ++ names_text (suc j) gs

-- `1: ..`
abbrev pub rule_line : ℕ → List Aggregate → ℕ → NumberedRule → List ℕ
rule_line d gs i r = decimal i ++ ((58 ∷ 32 ∷ []) ++ rule_text d gs r)

unfoldable pub rules_text : ℕ → List Aggregate → ℕ → List NumberedRule → List ℕ
rules_text d gs i [] = []
rules_text d gs i (r ∷ rs) = rule_line d gs i r ++ rules_text d gs (suc i) rs

-- with d names
unfoldable pub text_by : ℕ → Contents → List ℕ
text_by d c = atoms_line c.atoms ++ (names_text 1 (take d c.aggregates) ++ rules_text d c.aggregates 1 c.rules)

unfoldable pub text_of : Contents → List ℕ
text_of c = text_by (named c) c
