-- The parts of a table in 01's notation, from its tokens, and the table that they make. Definitions only: to be believed.
--   aggregate, literals, heads, statement    the parts of a table; each number is tested where it is read
--   table            the whole: aggregates that are written out get the next number
-- Assumes nothing.
use Rattle.std.specs.Prelude.{Bool, true, false, ◌&&◌, List, [], ◌∷◌, ◌++◌, map, ℕ, zero, suc, leb, ltb, eqb, ℤ, pos, neg_ℤ, nat_abs, length}
use Rattle.std.proofs.Math.Option.{Option, none, some}
use Rattle.meaning.specs.Foundedness.{same_list}
use Rattle.meaning.specs.Program.{Aggregate}
use Rattle.table.specs.Contents.{NumberedRule}
use Rattle.notation.specs.Tokens.{Token, number, word, neck, mark, end}
use Rattle.notation.specs.Parser.{unexpected, outside, descent, too_many, misnumbered, Parser, done, stop, next, ◌>>=◌, token, a_number, is_mark, check, a_mark, last_from, member}
use Rattle.notation.specs.Aggregates.{function_in, aggregate}

-- ---- a body

-- the aggregates so far, and the lists of the rule
pub record Body : Type 0 where
  pub aggregates : List Aggregate
  pub pos : List ℕ
  pub neg : List ℕ
  pub aggs : List ℤ

abbrev pub signed : Bool → ℕ → ℤ
signed true j = pos j
signed false j = neg_ℤ (pos j)

unfoldable pub with_literal : Body → ℤ → Parser Body
with_literal b w = do
  a ← check (ltb (last_from 0 (map nat_abs b.aggs)) (nat_abs w)) descent 0
  c ← check (ltb (length b.aggs) 8) too_many 0
  done (record { aggregates = b.aggregates; pos = b.pos; neg = b.neg; aggs = b.aggs ++ (w ∷ []) })

-- the aggregate with the next number
unfoldable pub with_aggregate : List Aggregate → Aggregate → Parser (List Aggregate)
with_aggregate gs a = check (ltb (length gs) 64) too_many 0 >>= (λ b. done (gs ++ (a ∷ [])))

-- an aggregate literal from its token on: `#` and a number, or written out
unfoldable pub literal_from : ℕ → Bool → Body → Token → Parser Body
literal_from top plain b t =
    elim (is_mark 35 t) [
      | true ↦ (do
        j ← a_number
        a ← check (ltb 0 j && leb j (length b.aggregates)) outside 0
        with_literal b (signed plain j))
      | false ↦ (do
        f ← function_in t
        a ← aggregate top f
        gs ← with_aggregate b.aggregates a
        with_literal (record { aggregates = gs; pos = b.pos; neg = b.neg; aggs = b.aggs }) (signed plain (length gs)))
    ]

-- after `not`
abbrev pub barred : ℕ → Body → Token → Parser Body
barred top b (number p) = member 0 top 64 b.neg p >>= (λ l. done (record { aggregates = b.aggregates; pos = b.pos; neg = l; aggs = b.aggs }))
barred top b (word w) = literal_from top false b (word w)
barred top b neck = literal_from top false b neck
barred top b (mark c) = literal_from top false b (mark c)
barred top b end = literal_from top false b end

abbrev pub is_not : List ℕ → Bool
is_not w = same_list w (110 ∷ 111 ∷ 116 ∷ [])

unfoldable pub word_literal : ℕ → Body → List ℕ → Parser Body
word_literal top b w = elim (is_not w) [ true ↦ token >>= barred top b | false ↦ literal_from top true b (word w) ]

abbrev pub literal : ℕ → Body → Token → Parser Body
literal top b (number p) = member 0 top 64 b.pos p >>= (λ l. done (record { aggregates = b.aggregates; pos = l; neg = b.neg; aggs = b.aggs }))
literal top b (word w) = word_literal top b w
literal top b neck = literal_from top true b neck
literal top b (mark c) = literal_from top true b (mark c)
literal top b end = literal_from top true b end

-- literals up to the dot, t being the token of the next; n of them may come
unfoldable pub literals : ℕ → ℕ → Body → Token → Parser Body
literals zero top b t = stop too_many 0
literals (suc n) top b t = do
  c ← literal top b t
  u ← token
  elim (is_mark 44 u) [
    | true ↦ (do
      v ← token
      literals n top c v)
    | false ↦ (do
      x ← check (is_mark 46 u) unexpected 0
      done c)
  ]

-- after `:-`; "positive body atoms (0 to 64), negated body atoms (0 to 64), aggregate literals (0 to 8)" are 136
unfoldable pub body : ℕ → List Aggregate → Parser Body
body top gs = do
  t ← token
  elim (is_mark 46 t) [
    | true ↦ done (record { aggregates = gs; pos = []; neg = []; aggs = [] })
    | false ↦ literals 137 top (record { aggregates = gs; pos = []; neg = []; aggs = [] }) t
  ]

-- ---- a rule

-- a head, and the token after it
pub record Headed : Type 0 where
  pub head : List ℕ
  pub after : Token

-- the head after the atoms l, t being the next token; n more may come
unfoldable pub heads : ℕ → ℕ → List ℕ → Token → Parser Headed
heads zero top l t = stop too_many 0
heads (suc n) top l t =
    elim (is_mark 124 t) [
      | true ↦ (do
        p ← a_number
        m ← member 0 top 16 l p
        u ← token
        heads n top m u)
      | false ↦ done (record { head = l; after = t })
    ]

-- from its first token on
abbrev pub head_from : ℕ → Token → Parser Headed
head_from top (number p) = do
  l ← member 0 top 16 [] p
  u ← token
  heads 17 top l u
head_from top (word w) = stop unexpected 0
head_from top neck = done (record { head = []; after = neck })
head_from top (mark b) = stop unexpected 0
head_from top end = stop unexpected 0

-- the table so far
pub record Sofar : Type 0 where
  pub given : Option ℕ
  pub aggregates : List Aggregate
  pub rules : List NumberedRule

abbrev pub top_of : Option ℕ → ℕ
top_of none = 256
top_of (some n) = n

unfoldable pub with_rule : Sofar → List ℕ → Body → Parser Sofar
with_rule s h b = do
  a ← check (ltb (length s.rules) 1024) too_many 0
  done (record { given = s.given; aggregates = b.aggregates; rules = s.rules ++ (record { head = h; pos = b.pos; neg = b.neg; aggs = b.aggs } ∷ []) })

-- after its head: a dot, or `:-` and a body
abbrev pub rule_after : Sofar → List ℕ → Token → Parser Sofar
rule_after s h (number n) = stop unexpected 0
rule_after s h (word w) = stop unexpected 0
rule_after s h neck = body (top_of s.given) s.aggregates >>= with_rule s h
rule_after s h (mark b) = check (eqb b 46) unexpected 0 >>= (λ a. with_rule s h (record { aggregates = s.aggregates; pos = []; neg = []; aggs = [] }))
rule_after s h end = stop unexpected 0

unfoldable pub rule_from : Sofar → Token → Parser Sofar
rule_from s t = do
  h ← head_from (top_of s.given) t
  rule_after s h.head h.after

-- ---- statements

-- a number: that of the rule, if a colon follows, or an atom of its head
unfoldable pub numbered : Sofar → ℕ → Parser Sofar
numbered s p = do
  t ← token
  elim (is_mark 58 t) [
    | true ↦ (do
      a ← check (eqb p (suc (length s.rules))) misnumbered 1
      u ← token
      rule_from s u)
    | false ↦ (do
      l ← member 1 (top_of s.given) 16 [] p
      h ← heads 17 (top_of s.given) l t
      rule_after s h.head h.after)
  ]

-- `atoms 3.`, before all else
abbrev pub unbegun : Option ℕ → List Aggregate → List NumberedRule → Bool
unbegun (some n) gs rs = false
unbegun none (a ∷ gs) rs = false
unbegun none [] (r ∷ rs) = false
unbegun none [] [] = true

unfoldable pub atoms_given : Sofar → List ℕ → Parser Sofar
atoms_given s w = do
  a ← check (same_list w (97 ∷ 116 ∷ 111 ∷ 109 ∷ 115 ∷ []) && unbegun s.given s.aggregates s.rules) unexpected 0
  n ← a_number
  b ← check (leb n 256) outside 0
  c ← a_mark 46
  done (record { given = some n; aggregates = s.aggregates; rules = s.rules })

-- `#1 = ..`
unfoldable pub name_given : Sofar → Parser Sofar
name_given s = do
  j ← a_number
  a ← check (eqb j (suc (length s.aggregates))) misnumbered 0
  b ← a_mark 61
  f ← next function_in
  g ← aggregate (top_of s.given) f
  c ← a_mark 46
  gs ← with_aggregate s.aggregates g
  done (record { given = s.given; aggregates = gs; rules = s.rules })

abbrev pub statement : Sofar → Token → Parser Sofar
statement s (number p) = numbered s p
statement s (word w) = atoms_given s w
statement s neck = rule_from s neck
statement s (mark b) = check (eqb b 35) unexpected 0 >>= (λ a. name_given s)
statement s end = stop unexpected 0

abbrev pub is_end : Token → Bool
is_end (number p) = false
is_end (word w) = false
is_end neck = false
is_end (mark b) = false
is_end end = true

-- n statements may come, and the end; 1 for the atoms, 64 names and 1,024 rules
unfoldable pub statements : ℕ → Sofar → Parser Sofar
statements zero s = stop too_many 0
statements (suc n) s = do
  t ← token
  elim (is_end t) [
    | true ↦ done s
    | false ↦ (do
      r ← statement s t
      statements n r)
  ]

abbrev pub table : Parser Sofar
table = statements 1090 (record { given = none; aggregates = []; rules = [] })
