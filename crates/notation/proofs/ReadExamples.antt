-- Texts, and what reading them gives, computed. Assumes nothing.
use mathlib.Core.Path.{◌≡◌, refl}
use mathlib.Core.List.{[], ◌∷◌}
use lib.IntN.{pos, negsuc}
use Rattle.table.specs.Contents.{encode, encode_aggregate, encode_rule}
use Rattle.table.specs.Roles.{fault}
use Rattle.table.specs.Roles as roles
use Rattle.table.specs.Grammar.{contents_of}
use Rattle.table.specs.Grammar as grammar
use Rattle.notation.specs.Tokens.{tokens_from, starts_from, fresh, alone, place_after}
use Rattle.notation.specs.Parser.{unexpected, outside, descent, misnumbered, run, member}
use Rattle.notation.specs.Aggregates.{function_of, aggregate, elements_from}
use Rattle.notation.specs.Grammar.{statements, numbered, atoms_given, name_given, rule_from, with_rule, heads, body, literals, word_literal, literal_from, with_aggregate, with_literal}
use Rattle.notation.specs.Reading.{words, refused, read_text, contents}

-- what was written is read back:
--   atoms 12.
--   #1 = min{5:1} > 3.
--   #2 = sum{65535:1, 1:12} < -1.
--   1: 1 | 2 :- 3, not 4, #2.
--   2: :- not #2.
--   3: :- .
--   4: :- 1, not 1, #1, not max{} < 0.
read_4 : read_text (97 ∷ 116 ∷ 111 ∷ 109 ∷ 115 ∷ 32 ∷ 49 ∷ 50 ∷ 46 ∷ 10 ∷ 35 ∷ 49 ∷ 32 ∷ 61 ∷ 32 ∷ 109 ∷ 105 ∷ 110 ∷ 123 ∷ 53 ∷ 58 ∷ 49 ∷ 125 ∷ 32 ∷ 62 ∷ 32 ∷ 51 ∷ 46 ∷ 10 ∷ 35 ∷ 50 ∷ 32 ∷ 61 ∷ 32 ∷ 115 ∷ 117 ∷ 109 ∷ 123 ∷ 54 ∷ 53 ∷ 53 ∷ 51 ∷ 53 ∷ 58 ∷ 49 ∷ 44 ∷ 32 ∷ 49 ∷ 58 ∷ 49 ∷ 50 ∷ 125 ∷ 32 ∷ 60 ∷ 32 ∷ 45 ∷ 49 ∷ 46 ∷ 10 ∷ 49 ∷ 58 ∷ 32 ∷ 49 ∷ 32 ∷ 124 ∷ 32 ∷ 50 ∷ 32 ∷ 58 ∷ 45 ∷ 32 ∷ 51 ∷ 44 ∷ 32 ∷ 110 ∷ 111 ∷ 116 ∷ 32 ∷ 52 ∷ 44 ∷ 32 ∷ 35 ∷ 50 ∷ 46 ∷ 10 ∷ 50 ∷ 58 ∷ 32 ∷ 58 ∷ 45 ∷ 32 ∷ 110 ∷ 111 ∷ 116 ∷ 32 ∷ 35 ∷ 50 ∷ 46 ∷ 10 ∷ 51 ∷ 58 ∷ 32 ∷ 58 ∷ 45 ∷ 32 ∷ 46 ∷ 10 ∷ 52 ∷ 58 ∷ 32 ∷ 58 ∷ 45 ∷ 32 ∷ 49 ∷ 44 ∷ 32 ∷ 110 ∷ 111 ∷ 116 ∷ 32 ∷ 49 ∷ 44 ∷ 32 ∷ 35 ∷ 49 ∷ 44 ∷ 32 ∷ 110 ∷ 111 ∷ 116 ∷ 32 ∷ 109 ∷ 97 ∷ 120 ∷ 123 ∷ 125 ∷ 32 ∷ 60 ∷ 32 ∷ 48 ∷ 46 ∷ 10 ∷ []) ≡ words (pos 12 ∷ pos 3 ∷ pos 2 ∷ pos 1 ∷ pos 3 ∷ pos 1 ∷ pos 5 ∷ pos 1 ∷ pos 1 ∷ pos 0 ∷ negsuc 0 ∷ pos 2 ∷ pos 65535 ∷ pos 1 ∷ pos 1 ∷ pos 12 ∷ pos 3 ∷ pos 0 ∷ pos 0 ∷ pos 0 ∷ pos 4 ∷ pos 2 ∷ pos 1 ∷ pos 2 ∷ pos 1 ∷ pos 3 ∷ pos 1 ∷ pos 4 ∷ pos 1 ∷ pos 2 ∷ pos 0 ∷ pos 0 ∷ pos 0 ∷ pos 1 ∷ negsuc 1 ∷ pos 0 ∷ pos 0 ∷ pos 0 ∷ pos 0 ∷ pos 0 ∷ pos 1 ∷ pos 1 ∷ pos 1 ∷ pos 1 ∷ pos 2 ∷ pos 1 ∷ negsuc 2 ∷ [])
unfolding read_text contents tokens_from starts_from fresh alone run statements numbered atoms_given name_given rule_from with_rule heads body literals word_literal literal_from with_aggregate with_literal function_of aggregate elements_from member place_after encode encode_aggregate encode_rule contents_of fault roles.run grammar.times grammar.members grammar.list grammar.atoms grammar.elements grammar.aggregate grammar.rule grammar.aggregates grammar.rules grammar.table
read_4 = refl

-- spaces and newlines stand anywhere, numbers and `atoms` may be left out, literals stand in any order:
--   % written by hand
--   1 | 2. :- not 1 ,count { 1:1,1:2 }>1, 2.%end
read_5 : read_text (37 ∷ 32 ∷ 119 ∷ 114 ∷ 105 ∷ 116 ∷ 116 ∷ 101 ∷ 110 ∷ 32 ∷ 98 ∷ 121 ∷ 32 ∷ 104 ∷ 97 ∷ 110 ∷ 100 ∷ 10 ∷ 49 ∷ 32 ∷ 124 ∷ 32 ∷ 50 ∷ 46 ∷ 32 ∷ 58 ∷ 45 ∷ 32 ∷ 110 ∷ 111 ∷ 116 ∷ 32 ∷ 49 ∷ 32 ∷ 44 ∷ 99 ∷ 111 ∷ 117 ∷ 110 ∷ 116 ∷ 32 ∷ 123 ∷ 32 ∷ 49 ∷ 58 ∷ 49 ∷ 44 ∷ 49 ∷ 58 ∷ 50 ∷ 32 ∷ 125 ∷ 62 ∷ 49 ∷ 44 ∷ 32 ∷ 50 ∷ 46 ∷ 37 ∷ 101 ∷ 110 ∷ 100 ∷ []) ≡ words (pos 2 ∷ pos 1 ∷ pos 0 ∷ pos 1 ∷ pos 1 ∷ pos 2 ∷ pos 1 ∷ pos 1 ∷ pos 1 ∷ pos 2 ∷ pos 2 ∷ pos 2 ∷ pos 1 ∷ pos 2 ∷ pos 0 ∷ pos 0 ∷ pos 0 ∷ pos 0 ∷ pos 1 ∷ pos 2 ∷ pos 1 ∷ pos 1 ∷ pos 1 ∷ pos 1 ∷ [])
unfolding read_text contents tokens_from starts_from fresh alone run statements numbered atoms_given name_given rule_from with_rule heads body literals word_literal literal_from with_aggregate with_literal function_of aggregate elements_from member place_after encode encode_aggregate encode_rule contents_of fault roles.run grammar.times grammar.members grammar.list grammar.atoms grammar.elements grammar.aggregate grammar.rule grammar.aggregates grammar.rules grammar.table
read_5 = refl

-- a list that does not ascend: the 2 in line 2:
--   1.
--   1 :- 3, 2.
read_6 : read_text (49 ∷ 46 ∷ 10 ∷ 49 ∷ 32 ∷ 58 ∷ 45 ∷ 32 ∷ 51 ∷ 44 ∷ 32 ∷ 50 ∷ 46 ∷ []) ≡ refused descent (record { line = 2; column = 9 })
unfolding read_text contents tokens_from starts_from fresh alone run statements numbered atoms_given name_given rule_from with_rule heads body literals word_literal literal_from with_aggregate with_literal function_of aggregate elements_from member place_after encode encode_aggregate encode_rule contents_of fault roles.run grammar.times grammar.members grammar.list grammar.atoms grammar.elements grammar.aggregate grammar.rule grammar.aggregates grammar.rules grammar.table
read_6 = refl

-- an atom above the number given:
--   atoms 2.
--   1 | 3.
read_7 : read_text (97 ∷ 116 ∷ 111 ∷ 109 ∷ 115 ∷ 32 ∷ 50 ∷ 46 ∷ 10 ∷ 49 ∷ 32 ∷ 124 ∷ 32 ∷ 51 ∷ 46 ∷ []) ≡ refused outside (record { line = 2; column = 5 })
unfolding read_text contents tokens_from starts_from fresh alone run statements numbered atoms_given name_given rule_from with_rule heads body literals word_literal literal_from with_aggregate with_literal function_of aggregate elements_from member place_after encode encode_aggregate encode_rule contents_of fault roles.run grammar.times grammar.members grammar.list grammar.atoms grammar.elements grammar.aggregate grammar.rule grammar.aggregates grammar.rules grammar.table
read_7 = refl

-- no dot at the end:
--   1 :- 2
read_8 : read_text (49 ∷ 32 ∷ 58 ∷ 45 ∷ 32 ∷ 50 ∷ []) ≡ refused unexpected (record { line = 1; column = 7 })
unfolding read_text contents tokens_from starts_from fresh alone run statements numbered atoms_given name_given rule_from with_rule heads body literals word_literal literal_from with_aggregate with_literal function_of aggregate elements_from member place_after encode encode_aggregate encode_rule contents_of fault roles.run grammar.times grammar.members grammar.list grammar.atoms grammar.elements grammar.aggregate grammar.rule grammar.aggregates grammar.rules grammar.table
read_8 = refl

-- rule 2 is called 3:
--   1: 1.
--   3: 2.
read_9 : read_text (49 ∷ 58 ∷ 32 ∷ 49 ∷ 46 ∷ 10 ∷ 51 ∷ 58 ∷ 32 ∷ 50 ∷ 46 ∷ []) ≡ refused misnumbered (record { line = 2; column = 1 })
unfolding read_text contents tokens_from starts_from fresh alone run statements numbered atoms_given name_given rule_from with_rule heads body literals word_literal literal_from with_aggregate with_literal function_of aggregate elements_from member place_after encode encode_aggregate encode_rule contents_of fault roles.run grammar.times grammar.members grammar.list grammar.atoms grammar.elements grammar.aggregate grammar.rule grammar.aggregates grammar.rules grammar.table
read_9 = refl

-- an aggregate that has no number yet:
--   1 :- #1.
read_10 : read_text (49 ∷ 32 ∷ 58 ∷ 45 ∷ 32 ∷ 35 ∷ 49 ∷ 46 ∷ []) ≡ refused outside (record { line = 1; column = 7 })
unfolding read_text contents tokens_from starts_from fresh alone run statements numbered atoms_given name_given rule_from with_rule heads body literals word_literal literal_from with_aggregate with_literal function_of aggregate elements_from member place_after encode encode_aggregate encode_rule contents_of fault roles.run grammar.times grammar.members grammar.list grammar.atoms grammar.elements grammar.aggregate grammar.rule grammar.aggregates grammar.rules grammar.table
read_10 = refl

-- examples/notation/night.table:
--   % A night plan with weights and a charge. Each of three aisles is swept by machine A or by machine B:
--   %   1 | 2  aisle 1 by A, by B     3 | 4  aisle 2 by A, by B     5 | 6  aisle 3 by A, by B
--   1 | 2.
--   3 | 4.
--   5 | 6.
--   % An aisle takes from a machine's charge: the first 30, the second 25, the third 20. A has 60, B has 50.
--   :- sum{30:1, 25:3, 20:5} > 60.
--   :- sum{30:2, 25:4, 20:6} > 50.
--   % 7: B is in use tonight, and it has to be.
--   7 :- count{1:2, 1:4, 1:6} > 0.
--   :- not 7.
read_11 : read_text (37 ∷ 32 ∷ 65 ∷ 32 ∷ 110 ∷ 105 ∷ 103 ∷ 104 ∷ 116 ∷ 32 ∷ 112 ∷ 108 ∷ 97 ∷ 110 ∷ 32 ∷ 119 ∷ 105 ∷ 116 ∷ 104 ∷ 32 ∷ 119 ∷ 101 ∷ 105 ∷ 103 ∷ 104 ∷ 116 ∷ 115 ∷ 32 ∷ 97 ∷ 110 ∷ 100 ∷ 32 ∷ 97 ∷ 32 ∷ 99 ∷ 104 ∷ 97 ∷ 114 ∷ 103 ∷ 101 ∷ 46 ∷ 32 ∷ 69 ∷ 97 ∷ 99 ∷ 104 ∷ 32 ∷ 111 ∷ 102 ∷ 32 ∷ 116 ∷ 104 ∷ 114 ∷ 101 ∷ 101 ∷ 32 ∷ 97 ∷ 105 ∷ 115 ∷ 108 ∷ 101 ∷ 115 ∷ 32 ∷ 105 ∷ 115 ∷ 32 ∷ 115 ∷ 119 ∷ 101 ∷ 112 ∷ 116 ∷ 32 ∷ 98 ∷ 121 ∷ 32 ∷ 109 ∷ 97 ∷ 99 ∷ 104 ∷ 105 ∷ 110 ∷ 101 ∷ 32 ∷ 65 ∷ 32 ∷ 111 ∷ 114 ∷ 32 ∷ 98 ∷ 121 ∷ 32 ∷ 109 ∷ 97 ∷ 99 ∷ 104 ∷ 105 ∷ 110 ∷ 101 ∷ 32 ∷ 66 ∷ 58 ∷ 10 ∷ 37 ∷ 32 ∷ 32 ∷ 32 ∷ 49 ∷ 32 ∷ 124 ∷ 32 ∷ 50 ∷ 32 ∷ 32 ∷ 97 ∷ 105 ∷ 115 ∷ 108 ∷ 101 ∷ 32 ∷ 49 ∷ 32 ∷ 98 ∷ 121 ∷ 32 ∷ 65 ∷ 44 ∷ 32 ∷ 98 ∷ 121 ∷ 32 ∷ 66 ∷ 32 ∷ 32 ∷ 32 ∷ 32 ∷ 32 ∷ 51 ∷ 32 ∷ 124 ∷ 32 ∷ 52 ∷ 32 ∷ 32 ∷ 97 ∷ 105 ∷ 115 ∷ 108 ∷ 101 ∷ 32 ∷ 50 ∷ 32 ∷ 98 ∷ 121 ∷ 32 ∷ 65 ∷ 44 ∷ 32 ∷ 98 ∷ 121 ∷ 32 ∷ 66 ∷ 32 ∷ 32 ∷ 32 ∷ 32 ∷ 32 ∷ 53 ∷ 32 ∷ 124 ∷ 32 ∷ 54 ∷ 32 ∷ 32 ∷ 97 ∷ 105 ∷ 115 ∷ 108 ∷ 101 ∷ 32 ∷ 51 ∷ 32 ∷ 98 ∷ 121 ∷ 32 ∷ 65 ∷ 44 ∷ 32 ∷ 98 ∷ 121 ∷ 32 ∷ 66 ∷ 10 ∷ 49 ∷ 32 ∷ 124 ∷ 32 ∷ 50 ∷ 46 ∷ 10 ∷ 51 ∷ 32 ∷ 124 ∷ 32 ∷ 52 ∷ 46 ∷ 10 ∷ 53 ∷ 32 ∷ 124 ∷ 32 ∷ 54 ∷ 46 ∷ 10 ∷ 37 ∷ 32 ∷ 65 ∷ 110 ∷ 32 ∷ 97 ∷ 105 ∷ 115 ∷ 108 ∷ 101 ∷ 32 ∷ 116 ∷ 97 ∷ 107 ∷ 101 ∷ 115 ∷ 32 ∷ 102 ∷ 114 ∷ 111 ∷ 109 ∷ 32 ∷ 97 ∷ 32 ∷ 109 ∷ 97 ∷ 99 ∷ 104 ∷ 105 ∷ 110 ∷ 101 ∷ 39 ∷ 115 ∷ 32 ∷ 99 ∷ 104 ∷ 97 ∷ 114 ∷ 103 ∷ 101 ∷ 58 ∷ 32 ∷ 116 ∷ 104 ∷ 101 ∷ 32 ∷ 102 ∷ 105 ∷ 114 ∷ 115 ∷ 116 ∷ 32 ∷ 51 ∷ 48 ∷ 44 ∷ 32 ∷ 116 ∷ 104 ∷ 101 ∷ 32 ∷ 115 ∷ 101 ∷ 99 ∷ 111 ∷ 110 ∷ 100 ∷ 32 ∷ 50 ∷ 53 ∷ 44 ∷ 32 ∷ 116 ∷ 104 ∷ 101 ∷ 32 ∷ 116 ∷ 104 ∷ 105 ∷ 114 ∷ 100 ∷ 32 ∷ 50 ∷ 48 ∷ 46 ∷ 32 ∷ 65 ∷ 32 ∷ 104 ∷ 97 ∷ 115 ∷ 32 ∷ 54 ∷ 48 ∷ 44 ∷ 32 ∷ 66 ∷ 32 ∷ 104 ∷ 97 ∷ 115 ∷ 32 ∷ 53 ∷ 48 ∷ 46 ∷ 10 ∷ 58 ∷ 45 ∷ 32 ∷ 115 ∷ 117 ∷ 109 ∷ 123 ∷ 51 ∷ 48 ∷ 58 ∷ 49 ∷ 44 ∷ 32 ∷ 50 ∷ 53 ∷ 58 ∷ 51 ∷ 44 ∷ 32 ∷ 50 ∷ 48 ∷ 58 ∷ 53 ∷ 125 ∷ 32 ∷ 62 ∷ 32 ∷ 54 ∷ 48 ∷ 46 ∷ 10 ∷ 58 ∷ 45 ∷ 32 ∷ 115 ∷ 117 ∷ 109 ∷ 123 ∷ 51 ∷ 48 ∷ 58 ∷ 50 ∷ 44 ∷ 32 ∷ 50 ∷ 53 ∷ 58 ∷ 52 ∷ 44 ∷ 32 ∷ 50 ∷ 48 ∷ 58 ∷ 54 ∷ 125 ∷ 32 ∷ 62 ∷ 32 ∷ 53 ∷ 48 ∷ 46 ∷ 10 ∷ 37 ∷ 32 ∷ 55 ∷ 58 ∷ 32 ∷ 66 ∷ 32 ∷ 105 ∷ 115 ∷ 32 ∷ 105 ∷ 110 ∷ 32 ∷ 117 ∷ 115 ∷ 101 ∷ 32 ∷ 116 ∷ 111 ∷ 110 ∷ 105 ∷ 103 ∷ 104 ∷ 116 ∷ 44 ∷ 32 ∷ 97 ∷ 110 ∷ 100 ∷ 32 ∷ 105 ∷ 116 ∷ 32 ∷ 104 ∷ 97 ∷ 115 ∷ 32 ∷ 116 ∷ 111 ∷ 32 ∷ 98 ∷ 101 ∷ 46 ∷ 10 ∷ 55 ∷ 32 ∷ 58 ∷ 45 ∷ 32 ∷ 99 ∷ 111 ∷ 117 ∷ 110 ∷ 116 ∷ 123 ∷ 49 ∷ 58 ∷ 50 ∷ 44 ∷ 32 ∷ 49 ∷ 58 ∷ 52 ∷ 44 ∷ 32 ∷ 49 ∷ 58 ∷ 54 ∷ 125 ∷ 32 ∷ 62 ∷ 32 ∷ 48 ∷ 46 ∷ 10 ∷ 58 ∷ 45 ∷ 32 ∷ 110 ∷ 111 ∷ 116 ∷ 32 ∷ 55 ∷ 46 ∷ 10 ∷ []) ≡ words (pos 7 ∷ pos 3 ∷ pos 1 ∷ pos 1 ∷ pos 60 ∷ pos 3 ∷ pos 30 ∷ pos 1 ∷ pos 25 ∷ pos 3 ∷ pos 20 ∷ pos 5 ∷ pos 1 ∷ pos 1 ∷ pos 50 ∷ pos 3 ∷ pos 30 ∷ pos 2 ∷ pos 25 ∷ pos 4 ∷ pos 20 ∷ pos 6 ∷ pos 0 ∷ pos 1 ∷ pos 0 ∷ pos 3 ∷ pos 1 ∷ pos 2 ∷ pos 1 ∷ pos 4 ∷ pos 1 ∷ pos 6 ∷ pos 7 ∷ pos 2 ∷ pos 1 ∷ pos 2 ∷ pos 0 ∷ pos 0 ∷ pos 0 ∷ pos 2 ∷ pos 3 ∷ pos 4 ∷ pos 0 ∷ pos 0 ∷ pos 0 ∷ pos 2 ∷ pos 5 ∷ pos 6 ∷ pos 0 ∷ pos 0 ∷ pos 0 ∷ pos 0 ∷ pos 0 ∷ pos 0 ∷ pos 1 ∷ pos 1 ∷ pos 0 ∷ pos 0 ∷ pos 0 ∷ pos 1 ∷ pos 2 ∷ pos 1 ∷ pos 7 ∷ pos 0 ∷ pos 0 ∷ pos 1 ∷ pos 3 ∷ pos 0 ∷ pos 0 ∷ pos 1 ∷ pos 7 ∷ pos 0 ∷ [])
unfolding read_text contents tokens_from starts_from fresh alone run statements numbered atoms_given name_given rule_from with_rule heads body literals word_literal literal_from with_aggregate with_literal function_of aggregate elements_from member place_after encode encode_aggregate encode_rule contents_of fault roles.run grammar.times grammar.members grammar.list grammar.atoms grammar.elements grammar.aggregate grammar.rule grammar.aggregates grammar.rules grammar.table
read_11 = refl

-- examples/notation/turned.table:
--   % 1: the map is turned.   2: lane 6 is an aisle.   3: the plan goes by the old map.
--   2 :- 1.        % the map is turned, so lane 6 is an aisle
--   1 :- 2.        % lane 6 is an aisle, so the map is turned
--   3 :- not 1.
--   % Nothing holds the first two up, and the answer does not have them.
read_12 : read_text (37 ∷ 32 ∷ 49 ∷ 58 ∷ 32 ∷ 116 ∷ 104 ∷ 101 ∷ 32 ∷ 109 ∷ 97 ∷ 112 ∷ 32 ∷ 105 ∷ 115 ∷ 32 ∷ 116 ∷ 117 ∷ 114 ∷ 110 ∷ 101 ∷ 100 ∷ 46 ∷ 32 ∷ 32 ∷ 32 ∷ 50 ∷ 58 ∷ 32 ∷ 108 ∷ 97 ∷ 110 ∷ 101 ∷ 32 ∷ 54 ∷ 32 ∷ 105 ∷ 115 ∷ 32 ∷ 97 ∷ 110 ∷ 32 ∷ 97 ∷ 105 ∷ 115 ∷ 108 ∷ 101 ∷ 46 ∷ 32 ∷ 32 ∷ 32 ∷ 51 ∷ 58 ∷ 32 ∷ 116 ∷ 104 ∷ 101 ∷ 32 ∷ 112 ∷ 108 ∷ 97 ∷ 110 ∷ 32 ∷ 103 ∷ 111 ∷ 101 ∷ 115 ∷ 32 ∷ 98 ∷ 121 ∷ 32 ∷ 116 ∷ 104 ∷ 101 ∷ 32 ∷ 111 ∷ 108 ∷ 100 ∷ 32 ∷ 109 ∷ 97 ∷ 112 ∷ 46 ∷ 10 ∷ 50 ∷ 32 ∷ 58 ∷ 45 ∷ 32 ∷ 49 ∷ 46 ∷ 32 ∷ 32 ∷ 32 ∷ 32 ∷ 32 ∷ 32 ∷ 32 ∷ 32 ∷ 37 ∷ 32 ∷ 116 ∷ 104 ∷ 101 ∷ 32 ∷ 109 ∷ 97 ∷ 112 ∷ 32 ∷ 105 ∷ 115 ∷ 32 ∷ 116 ∷ 117 ∷ 114 ∷ 110 ∷ 101 ∷ 100 ∷ 44 ∷ 32 ∷ 115 ∷ 111 ∷ 32 ∷ 108 ∷ 97 ∷ 110 ∷ 101 ∷ 32 ∷ 54 ∷ 32 ∷ 105 ∷ 115 ∷ 32 ∷ 97 ∷ 110 ∷ 32 ∷ 97 ∷ 105 ∷ 115 ∷ 108 ∷ 101 ∷ 10 ∷ 49 ∷ 32 ∷ 58 ∷ 45 ∷ 32 ∷ 50 ∷ 46 ∷ 32 ∷ 32 ∷ 32 ∷ 32 ∷ 32 ∷ 32 ∷ 32 ∷ 32 ∷ 37 ∷ 32 ∷ 108 ∷ 97 ∷ 110 ∷ 101 ∷ 32 ∷ 54 ∷ 32 ∷ 105 ∷ 115 ∷ 32 ∷ 97 ∷ 110 ∷ 32 ∷ 97 ∷ 105 ∷ 115 ∷ 108 ∷ 101 ∷ 44 ∷ 32 ∷ 115 ∷ 111 ∷ 32 ∷ 116 ∷ 104 ∷ 101 ∷ 32 ∷ 109 ∷ 97 ∷ 112 ∷ 32 ∷ 105 ∷ 115 ∷ 32 ∷ 116 ∷ 117 ∷ 114 ∷ 110 ∷ 101 ∷ 100 ∷ 10 ∷ 51 ∷ 32 ∷ 58 ∷ 45 ∷ 32 ∷ 110 ∷ 111 ∷ 116 ∷ 32 ∷ 49 ∷ 46 ∷ 10 ∷ 37 ∷ 32 ∷ 78 ∷ 111 ∷ 116 ∷ 104 ∷ 105 ∷ 110 ∷ 103 ∷ 32 ∷ 104 ∷ 111 ∷ 108 ∷ 100 ∷ 115 ∷ 32 ∷ 116 ∷ 104 ∷ 101 ∷ 32 ∷ 102 ∷ 105 ∷ 114 ∷ 115 ∷ 116 ∷ 32 ∷ 116 ∷ 119 ∷ 111 ∷ 32 ∷ 117 ∷ 112 ∷ 44 ∷ 32 ∷ 97 ∷ 110 ∷ 100 ∷ 32 ∷ 116 ∷ 104 ∷ 101 ∷ 32 ∷ 97 ∷ 110 ∷ 115 ∷ 119 ∷ 101 ∷ 114 ∷ 32 ∷ 100 ∷ 111 ∷ 101 ∷ 115 ∷ 32 ∷ 110 ∷ 111 ∷ 116 ∷ 32 ∷ 104 ∷ 97 ∷ 118 ∷ 101 ∷ 32 ∷ 116 ∷ 104 ∷ 101 ∷ 109 ∷ 46 ∷ 10 ∷ []) ≡ words (pos 3 ∷ pos 0 ∷ pos 3 ∷ pos 1 ∷ pos 2 ∷ pos 1 ∷ pos 1 ∷ pos 0 ∷ pos 0 ∷ pos 1 ∷ pos 1 ∷ pos 1 ∷ pos 2 ∷ pos 0 ∷ pos 0 ∷ pos 1 ∷ pos 3 ∷ pos 0 ∷ pos 1 ∷ pos 1 ∷ pos 0 ∷ [])
unfolding read_text contents tokens_from starts_from fresh alone run statements numbered atoms_given name_given rule_from with_rule heads body literals word_literal literal_from with_aggregate with_literal function_of aggregate elements_from member place_after encode encode_aggregate encode_rule contents_of fault roles.run grammar.times grammar.members grammar.list grammar.atoms grammar.elements grammar.aggregate grammar.rule grammar.aggregates grammar.rules grammar.table
read_12 = refl

-- examples/notation/contradiction.table:
--   % Aisle 1 is swept by day (1) or by night (2).
--   1 | 2.
--   :- 1.              % never by day
--   :- 2.              % never by night: with this there is no plan, and it is what to give up
--   :- not 1, not 2.   % but it is swept
read_13 : read_text (37 ∷ 32 ∷ 65 ∷ 105 ∷ 115 ∷ 108 ∷ 101 ∷ 32 ∷ 49 ∷ 32 ∷ 105 ∷ 115 ∷ 32 ∷ 115 ∷ 119 ∷ 101 ∷ 112 ∷ 116 ∷ 32 ∷ 98 ∷ 121 ∷ 32 ∷ 100 ∷ 97 ∷ 121 ∷ 32 ∷ 40 ∷ 49 ∷ 41 ∷ 32 ∷ 111 ∷ 114 ∷ 32 ∷ 98 ∷ 121 ∷ 32 ∷ 110 ∷ 105 ∷ 103 ∷ 104 ∷ 116 ∷ 32 ∷ 40 ∷ 50 ∷ 41 ∷ 46 ∷ 10 ∷ 49 ∷ 32 ∷ 124 ∷ 32 ∷ 50 ∷ 46 ∷ 10 ∷ 58 ∷ 45 ∷ 32 ∷ 49 ∷ 46 ∷ 32 ∷ 32 ∷ 32 ∷ 32 ∷ 32 ∷ 32 ∷ 32 ∷ 32 ∷ 32 ∷ 32 ∷ 32 ∷ 32 ∷ 32 ∷ 32 ∷ 37 ∷ 32 ∷ 110 ∷ 101 ∷ 118 ∷ 101 ∷ 114 ∷ 32 ∷ 98 ∷ 121 ∷ 32 ∷ 100 ∷ 97 ∷ 121 ∷ 10 ∷ 58 ∷ 45 ∷ 32 ∷ 50 ∷ 46 ∷ 32 ∷ 32 ∷ 32 ∷ 32 ∷ 32 ∷ 32 ∷ 32 ∷ 32 ∷ 32 ∷ 32 ∷ 32 ∷ 32 ∷ 32 ∷ 32 ∷ 37 ∷ 32 ∷ 110 ∷ 101 ∷ 118 ∷ 101 ∷ 114 ∷ 32 ∷ 98 ∷ 121 ∷ 32 ∷ 110 ∷ 105 ∷ 103 ∷ 104 ∷ 116 ∷ 58 ∷ 32 ∷ 119 ∷ 105 ∷ 116 ∷ 104 ∷ 32 ∷ 116 ∷ 104 ∷ 105 ∷ 115 ∷ 32 ∷ 116 ∷ 104 ∷ 101 ∷ 114 ∷ 101 ∷ 32 ∷ 105 ∷ 115 ∷ 32 ∷ 110 ∷ 111 ∷ 32 ∷ 112 ∷ 108 ∷ 97 ∷ 110 ∷ 44 ∷ 32 ∷ 97 ∷ 110 ∷ 100 ∷ 32 ∷ 105 ∷ 116 ∷ 32 ∷ 105 ∷ 115 ∷ 32 ∷ 119 ∷ 104 ∷ 97 ∷ 116 ∷ 32 ∷ 116 ∷ 111 ∷ 32 ∷ 103 ∷ 105 ∷ 118 ∷ 101 ∷ 32 ∷ 117 ∷ 112 ∷ 10 ∷ 58 ∷ 45 ∷ 32 ∷ 110 ∷ 111 ∷ 116 ∷ 32 ∷ 49 ∷ 44 ∷ 32 ∷ 110 ∷ 111 ∷ 116 ∷ 32 ∷ 50 ∷ 46 ∷ 32 ∷ 32 ∷ 32 ∷ 37 ∷ 32 ∷ 98 ∷ 117 ∷ 116 ∷ 32 ∷ 105 ∷ 116 ∷ 32 ∷ 105 ∷ 115 ∷ 32 ∷ 115 ∷ 119 ∷ 101 ∷ 112 ∷ 116 ∷ 10 ∷ []) ≡ words (pos 2 ∷ pos 0 ∷ pos 4 ∷ pos 2 ∷ pos 1 ∷ pos 2 ∷ pos 0 ∷ pos 0 ∷ pos 0 ∷ pos 0 ∷ pos 1 ∷ pos 1 ∷ pos 0 ∷ pos 0 ∷ pos 0 ∷ pos 1 ∷ pos 2 ∷ pos 0 ∷ pos 0 ∷ pos 0 ∷ pos 0 ∷ pos 2 ∷ pos 1 ∷ pos 2 ∷ pos 0 ∷ [])
unfolding read_text contents tokens_from starts_from fresh alone run statements numbered atoms_given name_given rule_from with_rule heads body literals word_literal literal_from with_aggregate with_literal function_of aggregate elements_from member place_after encode encode_aggregate encode_rule contents_of fault roles.run grammar.times grammar.members grammar.list grammar.atoms grammar.elements grammar.aggregate grammar.rule grammar.aggregates grammar.rules grammar.table
read_13 = refl
