-- A rule statement number by number, as the code reads it. Definitions only, for the contracts of inner functions; `proofs/` ties them to `Lines`.
--   step_of     what one field more does to what is expected: a number, or none, which counts as 0 and is outside the subset
--   read_by     the state after all fields
-- Assumes nothing.
use Rattle.std.specs.Prelude.{Bool, true, ◌&&◌, not, List, [], ◌∷◌, ℕ, ◌-◌, min, eqb, leb, ltb, Option, Some, None}
use Rattle.text.specs.Text.{pick}
use Rattle.aspif_scan.specs.declared.number.Number.{Number}
use Rattle.aspif_scan.specs.Number.{nought}
use Rattle.aspif_scan.specs.declared.machine.Stage.{Stage}
use Rattle.aspif_scan.specs.declared.machine.Stage.TheVariants.{Rule, Disjunction, HeadCount, Head, Body, LiteralCount, Literal, Bound, PairCount, Pair, Weight, NormalEnd, WeightEnd, Outside}
use Rattle.aspif_scan.specs.declared.machine.State.{State}

-- a number of 0 or more
abbrev pub plainly : Number → Bool
plainly n = not n.minus

-- the higher of two atoms, the second only if it is at most 256
unfoldable pub higher_of : ℕ → ℕ → ℕ
higher_of top p = pick (ltb 256 p) top (pick (ltb top p) p top)

abbrev pub start_of : State
start_of = record { stage = Rule; left = 0; atom = 0; bound = 0; top = 0; within = true }

-- the state with something else expected
abbrev pub expecting : Stage → State → State
expecting t s = record { stage = t; left = s.left; atom = s.atom; bound = s.bound; top = s.top; within = s.within }

-- the number k, and then `next`
abbrev pub exactly_of : State → Number → ℕ → Stage → State
exactly_of s n k next = expecting (pick (plainly n && eqb n.size k) next Outside) s

-- a count, then so many members, then `after`
abbrev pub counted_of : State → Number → Stage → Stage → State
counted_of s n member after = record {
  stage = pick (plainly n) (pick (eqb n.size 0) after member) Outside;
  left = n.size;
  atom = s.atom;
  bound = s.bound;
  top = s.top;
  within = s.within;
}

-- 0 for a normal body, 1 for a weight body
abbrev pub body_of : State → Number → State
body_of s n = expecting (pick (plainly n) (pick (eqb n.size 0) LiteralCount (pick (eqb n.size 1) Bound Outside)) Outside) s

-- a member of a list of atoms or literals, whose sign is right if `form` says so
abbrev pub listed_of : State → Number → Bool → Stage → Stage → State
listed_of s n form member after = record {
  stage = pick (form && ltb 0 n.size) (pick (eqb s.left 1) after member) Outside;
  left = s.left - 1;
  atom = n.size;
  bound = s.bound;
  top = higher_of s.top n.size;
  within = s.within && leb n.size 256;
}

-- the bound b: b - 1 is in -1 to 4,194,304; a larger one is held at the least that is beyond
abbrev pub bound_of : State → Number → State
bound_of s n = record {
  stage = PairCount;
  left = s.left;
  atom = s.atom;
  bound = min n.size 4194306;
  top = s.top;
  within = s.within && (not n.minus && leb n.size 4194305);
}

-- the weight of the last atom
abbrev pub weight_of : State → Number → State
weight_of s n = record {
  stage = pick (eqb s.left 0) WeightEnd Pair;
  left = s.left;
  atom = s.atom;
  bound = s.bound;
  top = s.top;
  within = s.within && (not n.minus && leb n.size 65535);
}

abbrev pub outside_of : State → State
outside_of s = expecting Outside s

abbrev pub step_at : Stage → State → Number → State
step_at Rule s n = exactly_of s n 1 Disjunction
step_at Disjunction s n = exactly_of s n 0 HeadCount
step_at HeadCount s n = counted_of s n Head Body
step_at Head s n = listed_of s n (plainly n) Head Body
step_at Body s n = body_of s n
step_at LiteralCount s n = counted_of s n Literal NormalEnd
step_at Literal s n = listed_of s n true Literal NormalEnd
step_at Bound s n = bound_of s n
step_at PairCount s n = counted_of s n Pair WeightEnd
step_at Pair s n = listed_of s n (plainly n) Weight Weight
step_at Weight s n = weight_of s n
step_at NormalEnd s n = outside_of s
step_at WeightEnd s n = outside_of s
step_at Outside s n = outside_of s

unfoldable pub step_of : State → Option Number → State
step_of s None = outside_of (step_at s.stage s nought)
step_of s (Some n) = step_at s.stage s n

-- the state after all fields
unfoldable pub read_by : State → List (Option Number) → State
read_by s [] = s
read_by s (n ∷ ns) = read_by (step_of s n) ns
