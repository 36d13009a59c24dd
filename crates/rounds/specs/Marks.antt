-- Rounds and rules as code finds them: one array with a round and a rule for each atom, 0 for "not yet", and one walk over the rules for each round.
-- "Added in an earlier round" is 0 < mark < r, so that what the present round adds is not seen by it. Definitions only; they need not be believed:
-- `proofs/Marks.antt` shows that they make `why_of`.
--   marked X r i s w   rule s, number i, in round r: the atom that it can add, if that has no round yet, gets r and i
--   walk X r i P w     the rules of P, numbered from i on, one after the other
--   marks_after P X k   after the rounds 1 to k
-- Assumes nothing.
use Rattle.std.specs.Prelude.{Bool, cond, ◌&&◌, [], ◌∷◌, ℕ, zero, suc, ltb, eqb}
use Rattle.meaning.specs.Lists.{all}
use Rattle.meaning.specs.Aggregates.{Atoms}
use Rattle.meaning.specs.Program.{Rule, Program}
use Rattle.meaning.specs.Foundedness.{supports}
use Rattle.rounds.specs.declared.Why.{Why}
use Rattle.rounds.specs.Rounds.{no_why}

-- an atom's mark is of a round before r
abbrev pub seen : ℕ → Why → Bool
seen r v = ltb 0 v.round && ltb v.round r

abbrev pub earlier : (ℕ → Why) → ℕ → Atoms
earlier w r = λ b. seen r (w b)

abbrev pub marked : Atoms → ℕ → ℕ → Rule → (ℕ → Why) → ℕ → Why
marked X r i s w = λ p. cond (eqb (w p).round 0 && (supports X s p && all (earlier w r) s.pos)) (record { round = r; rule = i }) (w p)

unfoldable pub walk : Atoms → ℕ → ℕ → Program → (ℕ → Why) → ℕ → Why
walk X r i [] w = w
walk X r i (s ∷ P) w = walk X r (suc i) P (marked X r i s w)

unfoldable pub marks_after : Program → Atoms → ℕ → ℕ → Why
marks_after P X zero = λ p. no_why
marks_after P X (suc k) = walk X (suc k) 1 P (marks_after P X k)
