-- The token that comes next, as the code takes it; `proofs/Lexed.antt` ties it to `notation`'s `Tokens`.
--   started_at bs s   the token that begins at index s, or the end
--   lex_at bs i       the token that comes next from index i on
-- Assumes nothing.
use Rattle.std.specs.Prelude.{cond, List, false, ℕ, ◌+◌, min, leb, eqb, length, get_or, drop}
use Rattle.notation.specs.Tokens.{digit, letter}
use Rattle.read_notation.specs.declared.lexing.Token.{Token}
use Rattle.read_notation.specs.declared.lexing.Token.TheVariants.{Number, Word, Neck, Mark, End}
use Rattle.read_notation.specs.declared.lexing.Lexeme.{Lexeme}
use Rattle.read_notation.specs.Scanning.{gap, span, value_from}

abbrev pub lexeme : Token → ℕ → ℕ → Lexeme
lexeme t s e = record { token = t; start = s; after = e }

-- 58 is the colon, 45 the minus; past the end there is no byte, and 0 is none
abbrev pub mark_by : ℕ → ℕ → ℕ → Lexeme
mark_by b next s = cond (eqb b 58) (cond (eqb next 45) (lexeme Neck s (s + 1 + 1)) (lexeme (Mark b) s (s + 1))) (lexeme (Mark b) s (s + 1))

unfoldable pub mark_at : List ℕ → ℕ → Lexeme
mark_at bs s = mark_by (get_or bs s 0) (get_or bs (s + 1) 0) s

abbrev pub number_at : List ℕ → ℕ → Lexeme
number_at bs s = lexeme (Number (min (value_from 0 (drop s bs)) 4194305)) s (s + span digit (drop s bs))

abbrev pub word_at : List ℕ → ℕ → Lexeme
word_at bs s = lexeme Word s (s + span letter (drop s bs))

unfoldable pub started_at : List ℕ → ℕ → Lexeme
started_at bs s = cond (leb (length bs) s) (lexeme End s s) (cond (digit (get_or bs s 0)) (number_at bs s) (cond (letter (get_or bs s 0)) (word_at bs s) (mark_at bs s)))

abbrev pub lex_at : List ℕ → ℕ → Lexeme
lex_at bs i = started_at bs (i + gap false (drop i bs))
