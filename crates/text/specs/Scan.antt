-- Definitions that follow the code of the reader, for the contracts of its inner functions; `proofs/Reading.antt` ties them to `Text`'s.
--   skipped, spanned   how many bytes lead up to a run, and how many a run has that begins here
--   held               the value of digits, held at 2 to the 64 less 1: larger ones are good nowhere
--   limit_in, word_in, count_of   what the inner functions return of a limit, a word, all words
--   listed             the words before the first bad one
-- Assumes nothing.
use Rattle.std.specs.Prelude.{true, false, List, [], ◌∷◌, ℕ, suc, ◌+◌, min, ℤ, length, Option, None, Some, Result, Ok, Err}
use Rattle.std.proofs.Math.Option as O
use Rattle.std.proofs.Math.Option.{some, none}
use Rattle.text.specs.Text as T
use Rattle.text.specs.Text.{parting, Words, all, bad_at}

unfoldable pub skipped : List ℕ → ℕ
skipped [] = 0
skipped (b ∷ bs) = elim (parting b) [ true ↦ suc (skipped bs) | false ↦ 0 ]

unfoldable pub spanned : List ℕ → ℕ
spanned [] = 0
spanned (b ∷ bs) = elim (parting b) [ true ↦ 0 | false ↦ suc (spanned bs) ]

abbrev pub held : O.Option ℕ → Option ℕ
held none = None
held (some n) = Some (min n 18446744073709551615)

abbrev pub limit_in : O.Option ℕ → Option ℕ
limit_in none = None
limit_in (some n) = Some n

abbrev pub word_in : O.Option ℤ → Option ℤ
word_in none = None
word_in (some z) = Some z

-- n words read before these
abbrev pub count_of : ℕ → Words → Result ℕ ℕ
count_of n (all zs) = Ok (n + length zs)
count_of n (bad_at k) = Err k

unfoldable pub listed : List (List ℕ) → List ℤ
listed [] = []
listed (run ∷ rs) = elim (T.word run) [ some z ↦ z ∷ listed rs | none ↦ [] ]
