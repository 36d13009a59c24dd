-- Why a text is refused, and what is tested of a member of a list that ascends, from the last member and the number of members: `notation`'s `member`
-- without the list. `proofs/Admitting.antt` ties them. Assumes nothing.
use Rattle.std.specs.Prelude.{cond, ◌&&◌, ℕ, leb, ltb, Result, Ok, Err}
use Rattle.notation.specs.Parser as N
use Rattle.notation.specs.Parser.{Parser, done, stop}
use Rattle.read_notation.specs.declared.members.Why.{Why}
use Rattle.read_notation.specs.declared.members.Why.TheVariants.{Unexpected, Outside, Descent, TooMany, Misnumbered}

abbrev pub why_of : Why → N.Why
why_of Unexpected = N.unexpected
why_of Outside = N.outside
why_of Descent = N.descent
why_of TooMany = N.too_many
why_of Misnumbered = N.misnumbered

-- x, if the test is passed; else the token at fault is k before the last
abbrev pub tested : {A : Type 0} → Result (Unit {0}) Why → ℕ → A → Parser A
tested (Ok u) k x = done x
tested (Err w) k x = stop (why_of w) k

-- the atom p, of 1 to top, after `count` atoms of which `last` is the last; at most `most` in all
unfoldable pub admitted : ℕ → ℕ → ℕ → ℕ → ℕ → Result (Unit {0}) Why
admitted top most count last p =
    cond (ltb 0 p && leb p top) (cond (ltb last p) (cond (ltb count most) (Ok tt) (Err TooMany)) (Err Descent)) (Err Outside)
