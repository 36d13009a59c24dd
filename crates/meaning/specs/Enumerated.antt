-- Answer sets by trying every interpretation, as a test on lists of true atoms. Definitions only. They need not be believed: `proofs/Enumerated.antt` shows the test
-- exact. It is for tables of small cases.
--   among l         the interpretation that makes the atoms of l true
--   sublists l      the lists that leave out some members of l
--   is_answer P l    the atoms l are an answer set: a model, and no sublist that lacks one of them is a model of the reduct
--   answers_of P n   all answer sets over atoms 1 to n, in 01's order
-- Reached by public contracts, and so to be believed: `atoms_from`.
-- Assumes nothing.
use Rattle.std.specs.Prelude.{Bool, not, ◌&&◌, List, [], ◌∷◌, ◌++◌, map, ℕ, zero, suc}
use Rattle.meaning.specs.Lists.{any, keep, has}
use Rattle.meaning.specs.Program.{Program}
use Rattle.meaning.specs.Aggregates.{Atoms}
use Rattle.meaning.specs.Answers.{model, reduct}

abbrev pub among : List ℕ → Atoms
among l = λ p. has p l

-- those with the first member come first
abbrev pub sublists : List ℕ → List (List ℕ)
sublists [] = [] ∷ []
sublists (p ∷ l) = map (λ (m : List ℕ). p ∷ m) (sublists l) ++ sublists l

-- m lacks a member of l
abbrev pub lacks : List ℕ → List ℕ → Bool
lacks l m = any (λ p. not (has p m)) l

unfoldable pub is_answer : Program → List ℕ → Bool
is_answer P l = model P (among l) && not (any (λ m. lacks l m && model (reduct P (among l)) (among m)) (sublists l))

-- the atoms p .. p + n - 1
abbrev pub atoms_from : ℕ → ℕ → List ℕ
atoms_from p zero = []
atoms_from p (suc n) = p ∷ atoms_from (suc p) n

unfoldable pub answers_of : Program → ℕ → List (List ℕ)
answers_of P n = keep (is_answer P) (sublists (atoms_from 1 n))
