-- The arcs from an atom, rule by rule. Definitions only. Which arcs there are, and what a chain of them is, stands in `meaning`.
--   arcs_of added P      the arcs of a program: "from head atom to positive body atom", and "with arcs from head atom to aggregate element atom added"
--   targets added r     the atoms to which a rule makes arcs, from each atom of its head
--   listed, elements, literals   the atoms of a list's words, of an aggregate's pairs, and of the aggregates of a list of literals, as sets
-- Assumes nothing.
use Rattle.std.specs.Prelude.{Bool, true, false, ◌&&◌, ◌||◌, List, map, ℕ, ◌+◌, ◌*◌, ◌<◌, eqb, ℤ, pos, nat_abs, length, get_or}
use Rattle.meaning.specs.Lists.{any, has}
use Rattle.meaning.specs.Program.{Rule, Program, In}
use Rattle.meaning.specs.Dependency.{arc, occurs, any_arc}
use Rattle.layout.specs.Layout.{atoms, pairs, literal_of}
use Rattle.levels.specs.Levels.{Levels}

abbrev pub arcs_of : Bool → Program → ℕ → ℕ → Bool
arcs_of true P = any_arc P
arcs_of false P = arc P

-- "negated atoms make no arc"; "an aggregate adds its arcs whether its literal is negated or not"
unfoldable pub targets : Bool → Rule → Levels
targets added r q = has q r.pos || added && any (occurs q) r.aggs

-- ---- sets of atoms, as rows stand for them

abbrev pub listed : List ℤ → Levels
listed l = λ q. has q (atoms l)

abbrev pub elements : List ℤ → Levels
elements l = λ q. any (λ e. eqb q e.atom) (pairs l)

abbrev pub literals : List ℤ → List ℤ → Levels
literals t l = λ q. any (occurs q) (map (literal_of t) l)

-- every atom of the pairs is one of 1 .. top
abbrev pub Elements : ℕ → List ℤ → Type 0
Elements top l = (k : ℕ) → 2 * k + 1 < length l → In top (nat_abs (get_or l (2 * k + 1) (pos 0)))
