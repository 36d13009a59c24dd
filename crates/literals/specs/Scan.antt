-- What the code asks of a list of literals under a partial interpretation, as the code walks it: which is the first false one. Definitions only; they need
-- not be believed: `proofs/Scans.antt` ties them to the first members of crate `steps`.
--   atom_lits s l     the atoms of a list's words as literals of the sign s;  literal_lits t l: its aggregate literals
--   first_false a s   Some k: literal k, from 0, is the first false one; None: none is false
--   atoms_reason      the union of the reasons of a list's defined atoms
-- Assumes nothing.
use Rattle.std.specs.Prelude.{ℕ, suc, Bool, true, false, List, [], ◌∷◌, map, ℤ, Option, Some, None}
use Rattle.levels.specs.Levels.{Levels, no_levels, union}
use Rattle.interpretation.specs.State.{Cell}
use Rattle.layout.specs.Layout.{atoms, literal_of}
use Rattle.valuing.specs.Values.{says_false, Lit, atom_lit, agg_lit, value}
use Rattle.valuing.specs.Reasons.{reason_at}

abbrev pub atom_lits : Bool → List ℤ → List Lit
atom_lits s l = map (atom_lit s) (atoms l)

abbrev pub literal_lits : List ℤ → List ℤ → List Lit
literal_lits t l = map agg_lit (map (literal_of t) l)

-- the first literal of the list having index i
unfoldable pub first_from : (ℕ → Cell) → ℕ → List Lit → Option ℕ
first_from a i [] = None
first_from a i (x ∷ s) = elim (says_false (value a x)) [ true ↦ Some i | false ↦ first_from a (suc i) s ]

abbrev pub first_false : (ℕ → Cell) → List Lit → Option ℕ
first_false a s = first_from a 0 s

unfoldable pub atoms_reason : (ℕ → Cell) → (ℕ → Levels) → List ℕ → Levels
atoms_reason a r [] = no_levels
atoms_reason a r (p ∷ s) = union (reason_at (a p) (r p)) (atoms_reason a r s)
