-- The foundedness test as the code walks over the rules (01, "Reasons and jumps": "starting from none, repeatedly add p if some rule has body true, p its only
-- true head atom and all positive body atoms added"). Definitions only; they need not be believed: the contract of `founded` speaks of `meaning`'s
-- test, and `proofs/` ties the two.
--   marked ms        the atoms that the marks stand for: atom p's at index p - 1
--   sole_of a ps      the only true atom of a head;  rest_true: negated atoms and aggregate literals are true
--   could_of a r      the atom that rule r adds once its positive atoms are marked
--   code_of j p       a candidate, a rule that could add atom p, as one word; the list of its positive atoms begins at j
--   candidates_from   the candidates among n rules
--   walk_marks, walk_left   a walk over the candidates l: what it makes of the marked atoms G, and which candidates it leaves
--   Stands l b n     l stands at the n first places of the array b
--   Fit t l          a list of atoms stands in the table where each candidate of l says
--   MarksAdded       the marks hold the atoms that get added
-- Assumes nothing.
use Rattle.std.specs.Prelude.{ℕ, zero, suc, ◌+◌, ◌-◌, ◌*◌, ◌/◌, ◌%◌, ◌≤◌, ◌≡◌, ◌↔◌, Bool, true, false, not, ◌||◌, List, [], ◌∷◌, map, eqb, ℤ, length, get_or, take, Option, None, Some}
use Rattle.meaning.specs.Cond.{if_eq}
use Rattle.meaning.specs.Lists.{Is, ◌∈◌, all}
use Rattle.meaning.specs.Aggregates.{Atoms}
use Rattle.meaning.specs.Program.{Rule, Program}
use Rattle.meaning.specs.Foundedness.{Added}
use Rattle.interpretation.specs.State.{Cell, truth_of}
use Rattle.valuing.specs.Values.{atom_lit, agg_lit}
use Rattle.literals.specs.Scan.{first_false}
use Rattle.rules.specs.Demand.{together, asks, is_conflict}
use Rattle.layout.specs.Layout.{atoms, part_at, pos_at, past_rule, rule_at, Listed}

unfoldable pub marked : List Bool → Atoms
marked ms zero = false
marked ms (suc i) = get_or ms i false

-- h is false, or it is p
abbrev pub fits : (ℕ → Cell) → ℕ → ℕ → Bool
fits a p h = not (truth_of (a h)) || eqb h p

abbrev pub add_if : Bool → ℕ → Option ℕ
add_if true p = Some p
add_if false p = None

abbrev pub sole_by : (ℕ → Cell) → List ℕ → Option ℕ → Option ℕ
sole_by a ps (Some k) = add_if (all (fits a (get_or ps k 0)) ps) (get_or ps k 0)
sole_by a ps None = None

-- the head atoms are taken negated: the first false literal is the first true atom
unfoldable pub sole_of : (ℕ → Cell) → List ℕ → Option ℕ
sole_of a ps = sole_by a ps (first_false a (map (atom_lit false) ps))

-- negated atoms and aggregate literals are true
unfoldable pub rest_true : (ℕ → Cell) → Rule → Bool
rest_true a r = is_conflict (together (asks a (map (atom_lit false) r.neg)) (asks a (map agg_lit r.aggs)))

abbrev pub could_by : (ℕ → Cell) → Rule → Option ℕ → Option ℕ
could_by a r None = None
could_by a r (Some p) = add_if (rest_true a r) p

unfoldable pub could_of : (ℕ → Cell) → Rule → Option ℕ
could_of a r = could_by a r (sole_of a r.head)

-- p is false, or it is marked
abbrev pub covers : (ℕ → Cell) → Atoms → ℕ → Bool
covers a G p = not (truth_of (a p)) || G p

-- ---- candidates

unfoldable pub code_of : ℕ → ℕ → ℕ
code_of j p = j * 256 + (p - 1)

abbrev pub atom_of : ℕ → ℕ
atom_of c = c % 256 + 1

abbrev pub place_of : ℕ → ℕ
place_of c = c / 256

abbrev pub positives : List ℤ → ℕ → List ℕ
positives t c = atoms (part_at t (place_of c))

abbrev pub with_candidate : Option ℕ → ℕ → List ℕ → List ℕ
with_candidate None j l = l
with_candidate (Some p) j l = code_of j p ∷ l

unfoldable pub candidates_from : (ℕ → Cell) → List ℤ → ℕ → ℕ → List ℕ
candidates_from a t i zero = []
candidates_from a t i (suc n) = with_candidate (could_of a (rule_at t i)) (pos_at t i) (candidates_from a t (past_rule t i) n)

pub record Stands (l : List ℕ) (b : List ℕ) (n : ℕ) : Type 0 where
  pub number : n ≡ length l
  pub sized : length b ≡ 1024
  pub few : n ≤ 1024
  pub same : take n b ≡ l

abbrev pub Fit : List ℤ → List ℕ → Type 0
Fit t l = (c : ℕ) → c ∈ l → Listed 256 t (place_of c)

-- ---- a walk

abbrev pub with_atom : ℕ → Atoms → Atoms
with_atom p G = λ q. if_eq q p true (G q)

-- the two tests: whether c's atom is marked, and whether its positive atoms are
abbrev pub marks_by : Bool → Bool → ℕ → Atoms → Atoms
marks_by true b c G = G
marks_by false true c G = with_atom (atom_of c) G
marks_by false false c G = G

abbrev pub left_by : Bool → Bool → ℕ → List ℕ → List ℕ
left_by true b c l = l
left_by false true c l = l
left_by false false c l = c ∷ l

abbrev pub marks_past : List ℤ → ℕ → Atoms → Atoms
marks_past t c G = marks_by (G (atom_of c)) (all G (positives t c)) c G

unfoldable pub walk_marks : List ℤ → List ℕ → Atoms → Atoms
walk_marks t [] G = G
walk_marks t (c ∷ l) G = walk_marks t l (marks_past t c G)

unfoldable pub walk_left : List ℤ → List ℕ → Atoms → List ℕ
walk_left t [] G = []
walk_left t (c ∷ l) G = left_by (G (atom_of c)) (all G (positives t c)) c (walk_left t l (marks_past t c G))

-- what is marked is what gets added
abbrev pub MarksAdded : List Bool → Program → Atoms → Type 0
MarksAdded ms P X = (p : ℕ) → Is (marked ms p) ↔ Added P X p
