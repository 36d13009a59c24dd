-- One more token: what a parser makes of the one that comes next, by what the code took. Assumes nothing.
use mathlib.Core.Path.{◌≡◌, sym, ap, ◌∙◌}
use mathlib.Core.List.{List}
use Prim.Native.Nat.{ℕ}
use Rattle.notation.specs.Tokens.{Token}
use Rattle.notation.specs.Parser.{Parser, next}
use Rattle.read_notation.specs.declared.lexing.Token as D
use Rattle.read_notation.specs.declared.lexing.Lexeme.{Lexeme}
use Rattle.read_notation.specs.declared.single.Cursor.{Cursor}
use Rattle.read_notation.specs.Lexemes.{lex_at}
use Rattle.read_notation.specs.Views.{token_by, token_of}
use Rattle.read_notation.specs.Running.{moved, run_at}

module _ {A : Type 0} (bs : List ℕ) (c : Cursor) (f : Token → Parser A) (x : Lexeme) (e : x ≡ lex_at bs c.after) where
  pub takes : (k : D.Token) → x.token ≡ k → run_at bs (f (token_by bs k x.start x.after)) (moved c x) ≡ run_at bs (next f) c
  takes k t =
      sym (ap (λ (y : D.Token). run_at bs (f (token_by bs y x.start x.after)) (moved c x)) t)
      ∙ ap (λ (y : Lexeme). run_at bs (f (token_of bs y)) (moved c y)) e
