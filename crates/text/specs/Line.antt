-- What the program prints (01: "It prints one line: `answer`, choices, skips and a colon, then a space and an atom for each true atom; or `none`
-- or `limit` with choices and skips; or `refused` with number and place"). Definitions only: to be believed.
--   decimal n          the digits of n, from the first that is not 0; 0 has one
--   atoms_from p plan   a space and its number for each true atom, where the plan's first byte is atom p's
--   line_of r n plan    the line of a result, where the table has n atoms; a newline ends it
--   PrintAs            the contract of `print`: how much it wrote, and what the buffer holds after it
-- Assumes nothing.
use Rattle.std.specs.Prelude.{◌≡◌, Bool, true, false, List, [], ◌∷◌, ◌++◌, ℕ, zero, suc, ◌+◌, ◌/◌, ◌%◌, min, eqb, ltb, length, take, drop, Result, Ok, Err}
use Rattle.results.specs.Results.{number_of, place_of}
use Rattle.results.specs.declared.Refusal.{Refusal}
use Rattle.results.specs.declared.Solved.{Solved}
use Rattle.results.specs.declared.Solved.TheVariants as solved
use Rattle.text.specs.Text.{pick}

-- ---- decimal numbers; 48 is the digit 0

-- of at most k digits: any number has fewer than it has ones
unfoldable pub decimal_by : ℕ → ℕ → List ℕ
decimal_by zero n = []
decimal_by (suc k) n = elim (ltb n 10) [ true ↦ (48 + n) ∷ [] | false ↦ decimal_by k (n / 10) ++ ((48 + n % 10) ∷ []) ]

unfoldable pub decimal : ℕ → List ℕ
decimal n = decimal_by (suc n) n

-- a word with two numbers, a space between them
abbrev pub pair : List ℕ → ℕ → ℕ → List ℕ
pair word m n = word ++ decimal m ++ 32 ∷ decimal n

-- ---- "a space and an atom for each true atom"; "byte i-1 of the plan buffer is 1 if atom i is true"

unfoldable pub atom : ℕ → ℕ → List ℕ
atom p b = pick (eqb b 1) (32 ∷ decimal p) []

unfoldable pub atoms_from : ℕ → List ℕ → List ℕ
atoms_from p [] = []
atoms_from p (b ∷ plan) = atom p b ++ atoms_from (suc p) plan

-- ---- the line; 58 is a colon and 10 a newline. N is at most 256

-- `answer `, `none `, `limit `, `refused `
abbrev pub answer_word : List ℕ
answer_word = 97 ∷ 110 ∷ 115 ∷ 119 ∷ 101 ∷ 114 ∷ 32 ∷ []

abbrev pub none_word : List ℕ
none_word = 110 ∷ 111 ∷ 110 ∷ 101 ∷ 32 ∷ []

abbrev pub limit_word : List ℕ
limit_word = 108 ∷ 105 ∷ 109 ∷ 105 ∷ 116 ∷ 32 ∷ []

abbrev pub refused_word : List ℕ
refused_word = 114 ∷ 101 ∷ 102 ∷ 117 ∷ 115 ∷ 101 ∷ 100 ∷ 32 ∷ []

abbrev pub line : List ℕ → ℕ → ℕ → List ℕ
line word m n = pair word m n ++ 10 ∷ []

abbrev pub answer_line : ℕ → ℕ → ℕ → List ℕ → List ℕ
answer_line c s n plan = pair answer_word c s ++ 58 ∷ atoms_from 1 (take (min n 256) plan) ++ 10 ∷ []

abbrev pub line_of : Result Solved Refusal → ℕ → List ℕ → List ℕ
line_of (Ok (solved.Answer k)) n plan = answer_line k.choices k.skips n plan
line_of (Ok (solved.Nothing k)) n plan = line none_word k.choices k.skips
line_of (Ok (solved.Limit k)) n plan = line limit_word k.choices k.skips
line_of (Err r) n plan = line refused_word (number_of r) (place_of r)

-- ---- "returns how much it wrote and keeps the rest of the buffer". Any line fits into 1,100 bytes; to a shorter buffer nothing is written

abbrev pub short : List ℕ → Bool
short old = ltb (length old) 1100

pub record PrintAs (r : Result Solved Refusal) (n : ℕ) (plan old : List ℕ) (wrote : ℕ) (new : List ℕ) : Type 0 where
  pub result : wrote ≡ pick (short old) 0 (length (line_of r n plan))
  pub out : new ≡ pick (short old) old (line_of r n plan ++ drop (length (line_of r n plan)) old)
