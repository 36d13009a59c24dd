-- What a report tells of a result. Definitions only: to be believed.
--   mode_of, ask_of          "mode 0 is the old one, any other takes head cycles" (request 14)
--   first_of, second_of      "counts or number and place": choices and skips, of a refusal its number and place
--   narrow                 a place as 32 bits; a larger one would stand as the largest number, but none is (crate `dock`, `proofs/Places.antt`)
--   third_of                the greatest number of passes (request 11), 0 of a refusal
--   reported               "a lent pair of numbers": the first two places of the report, if it has two; else nothing is written
--   with_third              the third place, if there is one
-- Assumes nothing.
use Rattle.std.specs.Prelude.{Bool, not, List, [], ◌∷◌, ℕ, min, eqb, Result, Ok, Err}
use Rattle.results.specs.Results.{number_of, place_of, counts_of}
use Rattle.results.specs.declared.Refusal.{Refusal}
use Rattle.results.specs.declared.Ask.{Ask}
use Rattle.results.specs.declared.Solved.{Solved}
use Rattle.results.specs.declared.Solved.TheVariants as solved

abbrev pub mode_of : ℕ → Bool
mode_of m = not (eqb m 0)

abbrev pub ask_of : ℕ → ℕ → Ask
ask_of mode lim = record { cycles = mode_of mode; limit = lim }

abbrev pub narrow : ℕ → ℕ
narrow n = min n 4294967295

abbrev pub first_of : Result Solved Refusal → ℕ
first_of (Ok (solved.Answer k)) = k.choices
first_of (Ok (solved.Nothing k)) = k.choices
first_of (Ok (solved.Limit k)) = k.choices
first_of (Err f) = number_of f

abbrev pub second_of : Result Solved Refusal → ℕ
second_of (Ok (solved.Answer k)) = k.skips
second_of (Ok (solved.Nothing k)) = k.skips
second_of (Ok (solved.Limit k)) = k.skips
second_of (Err f) = narrow (place_of f)

abbrev pub reported : ℕ → ℕ → List ℕ → List ℕ
reported m n [] = []
reported m n (a ∷ []) = a ∷ []
reported m n (a ∷ b ∷ rest) = m ∷ n ∷ rest

abbrev pub third_of : Result Solved Refusal → ℕ
third_of r = (counts_of r).passes

abbrev pub with_third : ℕ → List ℕ → List ℕ
with_third p [] = []
with_third p (a ∷ []) = a ∷ []
with_third p (a ∷ b ∷ []) = a ∷ b ∷ []
with_third p (a ∷ b ∷ c ∷ rest) = a ∷ b ∷ p ∷ rest
