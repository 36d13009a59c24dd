-- The rounds and rules of an answer as numbers (02, request 1), in a lent array: of each atom its round and then its rule, atom 1's first. Definitions only: to
-- be believed.
--   numbers_of       the numbers of an array of records
--   whys_written     the lent array afterwards: the numbers at its front, if it has room for all of 256 atoms; else nothing is written
-- Assumes nothing.
use Rattle.std.specs.Prelude.{Bool, true, false, List, [], ◌∷◌, ◌++◌, ℕ, ltb, length, drop}
use Rattle.rounds.specs.declared.Why.{Why}

abbrev pub numbers_of : List Why → List ℕ
numbers_of [] = []
numbers_of (v ∷ l) = v.round ∷ v.rule ∷ numbers_of l

abbrev pub written_by : Bool → List ℕ → List ℕ → List ℕ
written_by true numbers old = old
written_by false numbers old = numbers ++ drop 512 old

abbrev pub whys_written : List Why → List ℕ → List ℕ
whys_written ws old = written_by (ltb (length old) 512) (numbers_of ws) old
