-- The plan buffer (01, "What comes back"). Definitions only: to be believed.
--   bit_of, bytes_from, plan_with   "On an answer byte i-1 of the plan buffer is 1 if atom i is true, else 0, and bytes from N on keep their contents"
--   plan_atoms n plan             the atoms of 1 .. n whose byte is 1
-- Assumes nothing.
use Rattle.std.specs.Prelude.{Bool, true, false, List, [], ◌∷◌, ◌++◌, ℕ, zero, suc, eqb, get_or, drop}
use Rattle.meaning.specs.Cond.{if_lt}
use Rattle.meaning.specs.Aggregates.{Atoms}

abbrev pub bit_of : Bool → ℕ
bit_of true = 1
bit_of false = 0

-- the bytes of the n atoms from p on
abbrev pub bytes_from : Atoms → ℕ → ℕ → List ℕ
bytes_from X p zero = []
bytes_from X p (suc n) = bit_of (X p) ∷ bytes_from X (suc p) n

abbrev pub plan_with : ℕ → Atoms → List ℕ → List ℕ
plan_with n X old = bytes_from X 1 n ++ drop n old

abbrev pub plan_atoms : ℕ → List ℕ → Atoms
plan_atoms n plan zero = false
plan_atoms n plan (suc i) = if_lt i n (eqb (get_or plan i 0) 1) false
