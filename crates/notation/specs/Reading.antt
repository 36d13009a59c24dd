-- Reading the notation: the words of a text, or why it is none, with line and column. Definitions only: to be believed. What a person may write is a little more than what
-- `text_of` writes: spaces and newlines stand anywhere between tokens, `%` begins a comment, numbers of rules may be left out, `atoms` too (then there are as
-- many as the highest atom that is named), and the literals of a body stand in any order, so long as the positive atoms ascend, the negated ones do, and the
-- aggregate literals do. An aggregate that is written out gets the next number; `#j` is one that has its number already.
--   read_text bs      the words of a text; or the refusal with line and column, from 1. `proofs/Back.antt`: of `text_of c` they are the words of c
-- In the second edition (02, Wish 8) an element begins with a tuple number and a comma, and a header line says so: neither can be misread for what stands here.
-- Assumes nothing.
use Rattle.std.specs.Prelude.{List, [], ◌∷◌, map, ℕ, ◌-◌, max, ℤ, length, get_or}
use Rattle.std.proofs.Math.Option.{Option, none, some}
use Rattle.meaning.specs.Program.{Element, Aggregate}
use Rattle.table.specs.Contents.{NumberedRule, Contents, encode}
use Rattle.table.specs.Grammar.{Outcome, accepted, refused_for, contents_of}
use Rattle.notation.specs.Tokens.{nothing, tokens, starts_from, Place, place_of}
use Rattle.notation.specs.Parser.{Why, too_many, Result, made, failed, run}
use Rattle.notation.specs.Grammar.{Sofar, table}

-- ---- the number of atoms

-- the highest atom that is named
abbrev pub highest_of : List ℕ → ℕ
highest_of [] = 0
highest_of (p ∷ l) = max p (highest_of l)

abbrev pub highest_in : {A : Type 0} → (A → ℕ) → List A → ℕ
highest_in f [] = 0
highest_in f (x ∷ l) = max (f x) (highest_in f l)

abbrev pub highest_rule : NumberedRule → ℕ
highest_rule r = max (highest_of r.head) (max (highest_of r.pos) (highest_of r.neg))

abbrev pub highest : Sofar → ℕ
highest s = max (highest_in (λ (a : Aggregate). highest_of (map (λ (e : Element). e.atom) a.elements)) s.aggregates) (highest_in highest_rule s.rules)

abbrev pub atoms_of : Option ℕ → ℕ → ℕ
atoms_of none h = h
atoms_of (some n) h = n

unfoldable pub contents : Sofar → Contents
contents s = record { atoms = atoms_of s.given (highest s); aggregates = s.aggregates; rules = s.rules }

-- ---- the text

-- where the token stands from which on k are left
abbrev pub place_left : List ℕ → List ℕ → ℕ → Place
place_left bs starts k = place_of bs (get_or starts (length starts - k) 0)

pub data Reading : Type 0 where
  words : List ℤ → Reading
  refused : Why → Place → Reading

-- the words are at most 16,384, and a table that is accepted
abbrev pub accepting : List ℤ → Place → Outcome → Reading
accepting ws p (accepted c) = words ws
accepting ws p (refused_for r) = refused too_many p

abbrev pub read_by : List ℕ → Result Sofar → Reading
read_by bs (made s ts) = accepting (encode (contents s)) (place_of bs (length bs)) (contents_of (encode (contents s)))
read_by bs (failed w k) = refused w (place_left bs (starts_from 0 0 nothing bs) k)

unfoldable pub read_text : List ℕ → Reading
read_text bs = read_by bs (run table (tokens bs))
