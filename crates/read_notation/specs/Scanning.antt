-- Definitions that follow the code which takes tokens, for its contracts; `proofs/Lexed.antt` ties them to `notation`'s `Tokens`.
--   gap         how many bytes lead up to the next token, in a comment or not
--   span        how many bytes of a kind stand here
--   value_from   the value of the digits that stand here, after n
-- Assumes nothing.
use Rattle.std.specs.Prelude.{Bool, true, false, ◌&&◌, cond, not, List, [], ◌∷◌, ℕ, suc, ◌+◌, ◌-◌, ◌*◌, eqb, leb}
use Rattle.notation.specs.Tokens.{digit, blank}

-- ---- between tokens; 37 is the percent sign, 10 a newline

abbrev pub between : Bool → ℕ → Bool
between comment b = cond comment true (cond (eqb b 37) true (blank b))

abbrev pub comment_after : Bool → ℕ → Bool
comment_after comment b = cond comment (not (eqb b 10)) (eqb b 37)

unfoldable pub gap : Bool → List ℕ → ℕ
gap comment [] = 0
gap comment (b ∷ bs) = elim (between comment b) [ true ↦ suc (gap (comment_after comment b) bs) | false ↦ 0 ]

-- ---- within one

-- the bytes from low to high
abbrev pub among : ℕ → ℕ → ℕ → Bool
among low high b = leb low b && leb b high

unfoldable pub span : (ℕ → Bool) → List ℕ → ℕ
span kind [] = 0
span kind (b ∷ bs) = elim (kind b) [ true ↦ suc (span kind bs) | false ↦ 0 ]

unfoldable pub value_from : ℕ → List ℕ → ℕ
value_from n [] = n
value_from n (b ∷ bs) = elim (digit b) [ true ↦ value_from (n * 10 + (b - 48)) bs | false ↦ n ]
