-- Tables and their texts, computed. Assumes nothing.
use mathlib.Core.Path.{◌≡◌, refl}
use mathlib.Core.List.{[], ◌∷◌}
use lib.IntN.{pos, negsuc}
use Rattle.meaning.specs.declared.Function.TheVariants.{Count, Sum, Min, Max}
use Rattle.meaning.specs.declared.Comparison.TheVariants.{Less, Greater}
use Rattle.table.specs.Contents.{Contents}
use Rattle.text.specs.Line.{decimal, decimal_by}
use Rattle.notation.specs.Notation.{aggregate_text, literal_text, rule_text, turn, turns, turns_all, in_turn, named_from, named, names_text, rules_text, text_by, text_of}

-- case F of 01:
--   atoms 3.
--   1: 1.
--   2: 2.
--   3: 3 :- count{1:1, 1:2} > 1.
table_1 : Contents
table_1 = record { atoms = 3; aggregates = (record { function = Count; comparison = Greater; threshold = pos 1; elements = (record { value = 1; atom = 1 } ∷ record { value = 1; atom = 2 } ∷ []) } ∷ []); rules = (record { head = (1 ∷ []); pos = []; neg = []; aggs = [] } ∷ record { head = (2 ∷ []); pos = []; neg = []; aggs = [] } ∷ record { head = (3 ∷ []); pos = []; neg = []; aggs = (pos 1 ∷ []) } ∷ []) }

text_1 : text_of table_1 ≡ (97 ∷ 116 ∷ 111 ∷ 109 ∷ 115 ∷ 32 ∷ 51 ∷ 46 ∷ 10 ∷ 49 ∷ 58 ∷ 32 ∷ 49 ∷ 46 ∷ 10 ∷ 50 ∷ 58 ∷ 32 ∷ 50 ∷ 46 ∷ 10 ∷ 51 ∷ 58 ∷ 32 ∷ 51 ∷ 32 ∷ 58 ∷ 45 ∷ 32 ∷ 99 ∷ 111 ∷ 117 ∷ 110 ∷ 116 ∷ 123 ∷ 49 ∷ 58 ∷ 49 ∷ 44 ∷ 32 ∷ 49 ∷ 58 ∷ 50 ∷ 125 ∷ 32 ∷ 62 ∷ 32 ∷ 49 ∷ 46 ∷ 10 ∷ [])
unfolding text_of text_by rules_text names_text named named_from in_turn turns_all turns turn rule_text literal_text aggregate_text decimal decimal_by table_1
text_1 = refl

-- an aggregate in two literals has a name, and so have those before it; the last one needs none:
--   atoms 12.
--   #1 = min{5:1} > 3.
--   #2 = sum{65535:1, 1:12} < -1.
--   1: 1 | 2 :- 3, not 4, #2.
--   2: :- not #2.
--   3: :- .
--   4: :- 1, not 1, #1, not max{} < 0.
table_2 : Contents
table_2 = record { atoms = 12; aggregates = (record { function = Min; comparison = Greater; threshold = pos 3; elements = (record { value = 5; atom = 1 } ∷ []) } ∷ record { function = Sum; comparison = Less; threshold = negsuc 0; elements = (record { value = 65535; atom = 1 } ∷ record { value = 1; atom = 12 } ∷ []) } ∷ record { function = Max; comparison = Less; threshold = pos 0; elements = [] } ∷ []); rules = (record { head = (1 ∷ 2 ∷ []); pos = (3 ∷ []); neg = (4 ∷ []); aggs = (pos 2 ∷ []) } ∷ record { head = []; pos = []; neg = []; aggs = (negsuc 1 ∷ []) } ∷ record { head = []; pos = []; neg = []; aggs = [] } ∷ record { head = []; pos = (1 ∷ []); neg = (1 ∷ []); aggs = (pos 1 ∷ negsuc 2 ∷ []) } ∷ []) }

text_2 : text_of table_2 ≡ (97 ∷ 116 ∷ 111 ∷ 109 ∷ 115 ∷ 32 ∷ 49 ∷ 50 ∷ 46 ∷ 10 ∷ 35 ∷ 49 ∷ 32 ∷ 61 ∷ 32 ∷ 109 ∷ 105 ∷ 110 ∷ 123 ∷ 53 ∷ 58 ∷ 49 ∷ 125 ∷ 32 ∷ 62 ∷ 32 ∷ 51 ∷ 46 ∷ 10 ∷ 35 ∷ 50 ∷ 32 ∷ 61 ∷ 32 ∷ 115 ∷ 117 ∷ 109 ∷ 123 ∷ 54 ∷ 53 ∷ 53 ∷ 51 ∷ 53 ∷ 58 ∷ 49 ∷ 44 ∷ 32 ∷ 49 ∷ 58 ∷ 49 ∷ 50 ∷ 125 ∷ 32 ∷ 60 ∷ 32 ∷ 45 ∷ 49 ∷ 46 ∷ 10 ∷ 49 ∷ 58 ∷ 32 ∷ 49 ∷ 32 ∷ 124 ∷ 32 ∷ 50 ∷ 32 ∷ 58 ∷ 45 ∷ 32 ∷ 51 ∷ 44 ∷ 32 ∷ 110 ∷ 111 ∷ 116 ∷ 32 ∷ 52 ∷ 44 ∷ 32 ∷ 35 ∷ 50 ∷ 46 ∷ 10 ∷ 50 ∷ 58 ∷ 32 ∷ 58 ∷ 45 ∷ 32 ∷ 110 ∷ 111 ∷ 116 ∷ 32 ∷ 35 ∷ 50 ∷ 46 ∷ 10 ∷ 51 ∷ 58 ∷ 32 ∷ 58 ∷ 45 ∷ 32 ∷ 46 ∷ 10 ∷ 52 ∷ 58 ∷ 32 ∷ 58 ∷ 45 ∷ 32 ∷ 49 ∷ 44 ∷ 32 ∷ 110 ∷ 111 ∷ 116 ∷ 32 ∷ 49 ∷ 44 ∷ 32 ∷ 35 ∷ 49 ∷ 44 ∷ 32 ∷ 110 ∷ 111 ∷ 116 ∷ 32 ∷ 109 ∷ 97 ∷ 120 ∷ 123 ∷ 125 ∷ 32 ∷ 60 ∷ 32 ∷ 48 ∷ 46 ∷ 10 ∷ [])
unfolding text_of text_by rules_text names_text named named_from in_turn turns_all turns turn rule_text literal_text aggregate_text decimal decimal_by table_2
text_2 = refl

-- no words but the counts:
--   atoms 0.
table_3 : Contents
table_3 = record { atoms = 0; aggregates = []; rules = [] }

text_3 : text_of table_3 ≡ (97 ∷ 116 ∷ 111 ∷ 109 ∷ 115 ∷ 32 ∷ 48 ∷ 46 ∷ 10 ∷ [])
unfolding text_of text_by rules_text names_text named named_from in_turn turns_all turns turn rule_text literal_text aggregate_text decimal decimal_by table_3
text_3 = refl
