-- What tokens may come: a parser takes one token after the other and makes something of them, or says why one of them is refused. Definitions only: to be believed.
--   Parser A         what tokens may come, and what is made of them
--   run p ts         reads p from the tokens ts
--   a_number, a_mark, check, member    a number, a mark, a test of what was read, a member of a list that ascends
-- Assumes nothing.
use Rattle.std.specs.Prelude.{Bool, true, false, ◌&&◌, List, [], ◌∷◌, ◌++◌, ℕ, suc, ◌+◌, leb, ltb, eqb, length}
use Rattle.notation.specs.Tokens.{Token, number, word, neck, mark, end}

-- ---- why a text is refused

pub data Why : Type 0 where
  -- the token cannot stand here
  unexpected : Why
  -- a number is outside 01's range, or names an atom or an aggregate that there is not
  outside : Why
  -- a list does not ascend
  descent : Why
  -- a list or a section is longer than 01 allows
  too_many : Why
  -- the number of a rule or a name is not the next one
  misnumbered : Why

-- ---- what tokens may come

pub data Parser (A : Type 0) : Type 0 where
  done : A → Parser A
  -- for the last token, or one that many before it
  stop : Why → ℕ → Parser A
  next : (Token → Parser A) → Parser A

infixl 20 ◌>>=◌
abbrev pub ◌>>=◌ : {A B : Type 0} → Parser A → (A → Parser B) → Parser B
◌>>=◌ (done x) f = f x
◌>>=◌ (stop w k) f = stop w k
◌>>=◌ (next g) f = next (λ t. g t >>= f)

-- what was made, and the tokens after it; or why not, and how many tokens are left from the one at fault on
pub data Result (A : Type 0) : Type 0 where
  made : A → List Token → Result A
  failed : Why → ℕ → Result A

unfoldable pub run : {A : Type 0} → Parser A → List Token → Result A
run (done x) ts = made x ts
run (stop w k) ts = failed w (suc (length ts + k))
run (next f) [] = failed unexpected 0
run (next f) (t ∷ ts) = run (f t) ts

-- ---- single tokens

abbrev pub token : Parser Token
token = next done

abbrev pub number_in : Token → Parser ℕ
number_in (number n) = done n
number_in (word w) = stop unexpected 0
number_in neck = stop unexpected 0
number_in (mark b) = stop unexpected 0
number_in end = stop unexpected 0

abbrev pub a_number : Parser ℕ
a_number = next number_in

abbrev pub is_mark : ℕ → Token → Bool
is_mark b (number n) = false
is_mark b (word w) = false
is_mark b neck = false
is_mark b (mark a) = eqb a b
is_mark b end = false

abbrev pub check : Bool → Why → ℕ → Parser Bool
check true w k = done true
check false w k = stop w k

abbrev pub a_mark : ℕ → Parser Bool
a_mark b = next (λ t. check (is_mark b t) unexpected 0)

-- ---- lists: "ascends strictly"

abbrev pub last_from : ℕ → List ℕ → ℕ
last_from x [] = x
last_from x (y ∷ l) = last_from y l

-- the atom p after those of l, of 1 to top, at most `most` in all; k tokens have come since
unfoldable pub member : ℕ → ℕ → ℕ → List ℕ → ℕ → Parser (List ℕ)
member k top most l p = do
  a ← check (ltb 0 p && leb p top) outside k
  b ← check (ltb (last_from 0 l) p) descent k
  c ← check (ltb (length l) most) too_many k
  done (l ++ (p ∷ []))
