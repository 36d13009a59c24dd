-- What the token that the code takes stands for among `notation`'s. Definitions only.
--   held t          numbers above 4,194,305 are taken for that
--   token_of bs x    the token of a lexeme; a word is the bytes from its start to the index after it
--   Takes bs i x    x is the token that comes next from index i on, with where it begins; the others come next from the index after it
-- `proofs/Lexed.antt`: `lex_at` takes it. Assumes nothing.
use Rattle.std.specs.Prelude.{◌≡◌, List, [], ◌∷◌, ℕ, ◌-◌, min, take, drop}
use Rattle.notation.specs.Tokens.{Token, number, word, neck, mark, end, nothing, tokens_from, starts_from}
use Rattle.read_notation.specs.declared.lexing.Token as D
use Rattle.read_notation.specs.declared.lexing.Token.TheVariants.{Number, Word, Neck, Mark, End}
use Rattle.read_notation.specs.declared.lexing.Lexeme.{Lexeme}

abbrev pub held : Token → Token
held (number n) = number (min n 4194305)
held (word w) = word w
held neck = neck
held (mark b) = mark b
held end = end

abbrev pub token_by : List ℕ → D.Token → ℕ → ℕ → Token
token_by bs (Number n) s e = number n
token_by bs Word s e = word (take (e - s) (drop s bs))
token_by bs Neck s e = neck
token_by bs (Mark b) s e = mark b
token_by bs End s e = end

abbrev pub token_of : List ℕ → Lexeme → Token
token_of bs x = token_by bs x.token x.start x.after

-- after the end comes nothing
abbrev pub unless_end : {A : Type 0} → D.Token → List A → List A
unless_end (Number n) l = l
unless_end Word l = l
unless_end Neck l = l
unless_end (Mark b) l = l
unless_end End l = []

pub record Takes (bs : List ℕ) (i : ℕ) (x : Lexeme) : Type 0 where
  pub token : Token
  pub known : held token ≡ token_of bs x
  pub tokens : tokens_from nothing (drop i bs) ≡ token ∷ unless_end x.token (tokens_from nothing (drop x.after bs))
  pub starts : (s : ℕ) → starts_from i s nothing (drop i bs) ≡ x.start ∷ unless_end x.token (starts_from x.after x.after nothing (drop x.after bs))
