-- What the functions of this crate return, in terms of what is read (`Roles`, `Grammar`). Each is 01's result seen through the types of the code.
--   reading_of t    what `read` returns: the places of an accepted table, or the refusal
--   table_of c      the places of the contents c in its words
-- Assumes nothing.
use Rattle.std.specs.Prelude.{List, [], ◌∷◌, ℕ, suc, ◌+◌, ℤ, nat_abs, length, set, replicate, Ok, Err}
use Rattle.std.specs.Prelude.{Result as Returned}
use Rattle.results.specs.declared.Refusal.{Refusal}
use Rattle.results.specs.declared.Refusal.TheVariants.{Absent, Trailing}
use Rattle.meaning.specs.Program.{Aggregate}
use Rattle.layout.specs.declared.Table.{Table}
use Rattle.table.specs.Roles.{Result, read, refused}
use Rattle.table.specs.Contents.{NumberedRule, Contents, encode_aggregate, encode_all}
use Rattle.table.specs.Grammar.{Outcome, accepted, refused_for, contents_of}
use Rattle.table.specs.declared.Places.{Places}

-- ---- words and parts

-- the first of the words, which has index i
abbrev pub word_of : ℕ → List ℤ → Returned (ℤ × ℕ) Refusal
word_of i [] = Err (Absent i)
word_of i (w ∷ ws) = Ok (w, suc i)

-- a word without its sign
abbrev pub got_of : Result ℤ → Returned (ℕ × ℕ) Refusal
got_of (read w i ws) = Ok (nat_abs w, i)
got_of (refused r) = Err r

-- the index past a part
abbrev pub part_of : {A : Type 0} → Result A → Returned ℕ Refusal
part_of (read x i ws) = Ok i
part_of (refused r) = Err r

-- ---- the aggregates

abbrev pub no_starts : List ℕ
no_starts = replicate 64 0

-- where the aggregates gs begin, the first at index i: put into starts from place k on
abbrev pub placed : ℕ → ℕ → List Aggregate → List ℕ → List ℕ
placed k i [] starts = starts
placed k i (a ∷ gs) starts = placed (suc k) (i + length (encode_aggregate a)) gs (set starts k i)

-- those of the aggregates still to be read, the first at index i, after k others
abbrev pub places_from : ℕ → ℕ → List ℕ → Result (List Aggregate) → Returned Places Refusal
places_from k i starts (read gs j ws) = Ok (record { number = k + length gs; starts = placed k i gs starts; end = j })
places_from k i starts (refused r) = Err r

-- ---- the table

-- after the rules, whose count stands at i
abbrev pub finished : ℕ → ℕ → List ℕ → ℕ → Result (List NumberedRule) → Returned Table Refusal
finished n g starts i (read rs j []) = Ok (record { atoms = n; aggregates = g; rules = length rs; first = suc i; starts = starts })
finished n g starts i (read rs j (w ∷ ws)) = Err (Trailing j)
finished n g starts i (refused r) = Err r

-- the aggregates begin at index 2, and the first rule stands after their words and the count of the rules
unfoldable pub table_of : Contents → Table
table_of c = record {
  atoms = c.atoms;
  aggregates = length c.aggregates;
  rules = length c.rules;
  first = 3 + length (encode_all encode_aggregate c.aggregates);
  starts = placed 0 2 c.aggregates no_starts;
}

abbrev pub reading_by : Outcome → Returned Table Refusal
reading_by (accepted c) = Ok (table_of c)
reading_by (refused_for r) = Err r

unfoldable pub reading_of : List ℤ → Returned Table Refusal
reading_of t = reading_by (contents_of t)
