-- The tokens of a text in 01's notation, and where they stand. Definitions only: to be believed.
--   Token            a number, a word of small letters, `:-`, any other byte that is no space; and the end
--   tokens bs        the tokens of a text: blanks stand anywhere between them, `%` begins a comment to the end of the line
--   starts_from       the index at which each of them begins
--   place_of bs i     line and column, from 1, of the byte at index i
-- Assumes nothing.
use Rattle.std.specs.Prelude.{Bool, true, false, cond, not, ◌&&◌, ◌||◌, List, [], ◌∷◌, ◌++◌, map, ℕ, suc, ◌+◌, ◌-◌, ◌*◌, leb, eqb, take}

-- ---- bytes

abbrev pub digit : ℕ → Bool
digit b = leb 48 b && leb b 57

abbrev pub letter : ℕ → Bool
letter b = leb 97 b && leb b 122

-- a space, a tab, a newline, a return
abbrev pub blank : ℕ → Bool
blank b = eqb b 32 || eqb b 9 || eqb b 10 || eqb b 13

-- ---- tokens

pub data Token : Type 0 where
  number : ℕ → Token
  -- small letters
  word : List ℕ → Token
  -- `:-`
  neck : Token
  -- any other byte
  mark : ℕ → Token
  end : Token

-- what the bytes so far leave open; 58 is the colon, 45 the minus, 37 the percent sign
pub data Open : Type 0 where
  nothing : Open
  digits : ℕ → Open
  letters : List ℕ → Open
  colon : Open
  comment : Open

-- whether a byte goes on with it
abbrev pub goes : Open → ℕ → Bool
goes nothing b = false
goes (digits n) b = digit b
goes (letters w) b = letter b
goes colon b = eqb b 45
goes comment b = not (eqb b 10)

-- what is open after a byte that begins anew
unfoldable pub fresh : ℕ → Open
fresh b = cond (digit b) (digits (b - 48)) (cond (letter b) (letters (b ∷ [])) (cond (eqb b 58) colon (cond (eqb b 37) comment nothing)))

-- the token that such a byte is by itself
unfoldable pub alone : ℕ → List Token
alone b = cond (digit b || letter b || eqb b 58 || eqb b 37 || blank b) [] (mark b ∷ [])

-- after a byte that goes on
abbrev pub longer : Open → ℕ → Open
longer nothing b = nothing
longer (digits n) b = digits (n * 10 + (b - 48))
longer (letters w) b = letters (w ++ (b ∷ []))
longer colon b = nothing
longer comment b = comment

-- the token that ends with a byte that goes on: only `:-` does
abbrev pub within : Open → List Token
within nothing = []
within (digits n) = []
within (letters w) = []
within colon = neck ∷ []
within comment = []

-- the token that is over where no byte goes on
abbrev pub over : Open → List Token
over nothing = []
over (digits n) = number n ∷ []
over (letters w) = word w ∷ []
over colon = mark 58 ∷ []
over comment = []

unfoldable pub tokens_from : Open → List ℕ → List Token
tokens_from o [] = over o ++ (end ∷ [])
tokens_from o (b ∷ bs) = elim (goes o b) [ true ↦ within o ++ tokens_from (longer o b) bs | false ↦ over o ++ (alone b ++ tokens_from (fresh b) bs) ]

abbrev pub tokens : List ℕ → List Token
tokens bs = tokens_from nothing bs

-- where each token begins: the byte at hand has index i, and what is open began at index s
unfoldable pub starts_from : ℕ → ℕ → Open → List ℕ → List ℕ
starts_from i s o [] = map (λ t. s) (over o) ++ (i ∷ [])
starts_from i s o (b ∷ bs) =
    elim (goes o b) [
      | true ↦ map (λ t. s) (within o) ++ starts_from (suc i) s (longer o b) bs
      | false ↦ map (λ t. s) (over o) ++ (map (λ t. i) (alone b) ++ starts_from (suc i) i (fresh b) bs)
    ]

-- ---- places

-- line and column of a byte, from 1; 10 is a newline
pub record Place : Type 0 where
  pub line : ℕ
  pub column : ℕ

abbrev pub stepped : Bool → Place → Place
stepped true p = record { line = suc p.line; column = 1 }
stepped false p = record { line = p.line; column = suc p.column }

unfoldable pub place_after : Place → List ℕ → Place
place_after p [] = p
place_after p (b ∷ bs) = place_after (stepped (eqb b 10) p) bs

abbrev pub place_of : List ℕ → ℕ → Place
place_of bs i = place_after (record { line = 1; column = 1 }) (take i bs)
