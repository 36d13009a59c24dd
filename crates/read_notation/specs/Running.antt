-- `notation`'s `run`, as the code goes: not over a list of tokens but along the text, with the index after the last token and where the last two begin.
--   At A            what was made, and the cursor after it; or why not, and the index at which the token at fault begins
--   run_at bs p c    reads p from the tokens that come next
-- A token at fault is the last one or the one before it: `notation` stops for no other. Assumes nothing.
use Rattle.std.specs.Prelude.{Bool, true, List, ℕ, zero, suc, Result, Ok, Err}
use Rattle.notation.specs.Parser.{Why, unexpected, Parser, done, stop, next}
use Rattle.read_notation.specs.declared.lexing.Lexeme.{Lexeme}
use Rattle.read_notation.specs.declared.single.Cursor.{Cursor}
use Rattle.read_notation.specs.Lexemes.{lex_at}
use Rattle.read_notation.specs.Views.{token_of}

pub data At (A : Type 0) : Type 0 where
  came : A → Cursor → At A
  fault : Why → ℕ → At A

-- where the last token begins, or the one before it
abbrev pub back : ℕ → Cursor → ℕ
back zero c = c.start
back (suc k) c = c.before

-- after one more token
abbrev pub past : Cursor → ℕ → ℕ → Cursor
past c s e = record { after = e; start = s; before = c.start }

abbrev pub moved : Cursor → Lexeme → Cursor
moved c x = past c x.start x.after

abbrev pub run_at : {A : Type 0} → List ℕ → Parser A → Cursor → At A
run_at bs (done x) c = came x c
run_at bs (stop w k) c = fault w (back k c)
run_at bs (next f) c = run_at bs (f (token_of bs (lex_at bs c.after))) (moved c (lex_at bs c.after))

-- ---- single tokens: what the code returns of a number and of a mark

abbrev pub numbered_at : Result (ℕ × Cursor) ℕ → At ℕ
numbered_at (Ok r) = came r.0 r.1
numbered_at (Err s) = fault unexpected s

abbrev pub marked_at : Result Cursor ℕ → At Bool
marked_at (Ok c) = came true c
marked_at (Err s) = fault unexpected s
