-- Rounds and rules as the code finds them: what each rule could add as one word, and the walk over these words for each round. Definitions only; they need
-- not be believed: the contract of `explain` speaks of `why_of` of crate `rounds`, and `proofs/` ties the two.
--   code_by, codes_from   the word of a rule: 0 where it adds nothing, else the candidate that it is (crate `foundation`)
--   due t r c w      the rule with the word c adds its atom in round r
--   walk_codes        one round, rule by rule, from the number i on
--   FitCodes t l     a list of atoms stands in the table where each word of l that is not 0 says
-- Assumes nothing.
use Rattle.std.specs.Prelude.{ℕ, zero, suc, ◌≢◌, Bool, true, false, not, ◌&&◌, List, [], ◌∷◌, eqb, ℤ, Option, Some, None}
use Rattle.meaning.specs.Cond.{if_eq}
use Rattle.meaning.specs.Lists.{◌∈◌, all}
use Rattle.interpretation.specs.State.{Cell}
use Rattle.layout.specs.Layout.{pos_at, past_rule, rule_at, Listed}
use Rattle.foundation.specs.Walk.{could_of, code_of, atom_of, place_of, positives}
use Rattle.rounds.specs.declared.Why.{Why}
use Rattle.rounds.specs.Marks.{earlier}

-- ---- the words of rules

abbrev pub code_by : Option ℕ → ℕ → ℕ
code_by None j = 0
code_by (Some p) j = code_of j p

unfoldable pub codes_from : (ℕ → Cell) → List ℤ → ℕ → ℕ → List ℕ
codes_from a t i zero = []
codes_from a t i (suc n) = code_by (could_of a (rule_at t i)) (pos_at t i) ∷ codes_from a t (past_rule t i) n

abbrev pub FitCode : List ℤ → ℕ → Type 0
FitCode t c = c ≢ 0 → Listed 256 t (place_of c)

abbrev pub FitCodes : List ℤ → List ℕ → Type 0
FitCodes t l = (c : ℕ) → c ∈ l → FitCode t c

-- ---- a round

-- the rule adds something, its atom has no round yet, and its positive atoms have earlier ones
abbrev pub due : List ℤ → ℕ → ℕ → (ℕ → Why) → Bool
due t r c w = not (eqb c 0) && (eqb (w (atom_of c)).round 0 && all (earlier w r) (positives t c))

abbrev pub mark_by : Bool → ℕ → ℕ → ℕ → (ℕ → Why) → ℕ → Why
mark_by true r i c w = λ q. if_eq q (atom_of c) (record { round = r; rule = i }) (w q)
mark_by false r i c w = w

unfoldable pub walk_codes : List ℤ → ℕ → ℕ → List ℕ → (ℕ → Why) → ℕ → Why
walk_codes t r i [] w = w
walk_codes t r i (c ∷ l) w = walk_codes t r (suc i) l (mark_by (due t r c w) r i c w)
