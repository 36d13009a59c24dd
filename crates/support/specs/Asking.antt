-- Steps d and e at one atom p (01, "Propagation" and "Reasons and jumps"), as the code finds what they ask. Definitions only; they need not be
-- believed: `proofs/Atom.antt` and `proofs/Forcing.antt` tie them to the steps of crate `steps`.
--   first_with g v l    the first atom of l with the value v, g being the atoms' values;  other_true g p l: the first true one other than p
--   witness_of a p r    the witness of a rule that fails to support p, if it does;  witness_at: the same as the code names it
--   supports_of a p r   p is in the head of r, and there is no witness
--   Candidates         rules with p in the head lie at the places of a list
--   skipped, some_rule  of the rules at a list of places: how many come before the first that passes a test, and whether one passes it
--   forced_of a r       the first atom that step e sets at rule r
--   ask_of t tb a p     what steps d and e ask at p
--   blame_of a R p P    "the union of the witnesses' reasons over all rules with p in the head"
--   did_ask             the working state after steps d and e, B being that union
-- Assumes nothing.
use Rattle.std.specs.Prelude.{Some, None}
use Rattle.std.specs.Prelude as code
use Rattle.std.specs.Prelude.{ℕ, zero, suc, ◌<◌, ◌≡◌, Bool, true, false, cond, not, ◌&&◌, List, [], ◌∷◌, eqb, ℤ, length, get_or}
use Rattle.std.proofs.Math.Option.{Option, none, some}
use Rattle.meaning.specs.Lists.{has}
use Rattle.meaning.specs.Program.{Rule, Program}
use Rattle.levels.specs.Levels.{Levels, no_levels, union}
use Rattle.interpretation.specs.State.{Cell}
use Rattle.interpretation.specs.View.{cell_value}
use Rattle.interpretation.specs.declared.Value.{Value}
use Rattle.interpretation.specs.declared.Value.TheVariants.{True, False, Undefined}
use Rattle.layout.specs.Layout.{atoms, part_at, pos_at, neg_at, aggs_at, rule_at}
use Rattle.heads.specs.Heads.{places_of, with_head, AllLie}
use Rattle.layout.specs.declared.Table.{Table}
use Rattle.valuing.specs.Values.{says_true, says_false, says_undefined, Lit, value}
use Rattle.valuing.specs.Reasons.{reason_of}
use Rattle.steps.specs.Steps.{head_lits, body_lits, first_of, is_other, or_else, Work, set, refuted, step_e}
use Rattle.literals.specs.Scan.{literal_lits, first_false}
use Rattle.support.specs.declared.Ask.{Ask}
use Rattle.support.specs.declared.Ask.TheVariants.{Nothing, Conflict, Unset, Sole}
use Rattle.support.specs.declared.Witness.{Witness}
use Rattle.support.specs.declared.Witness.TheVariants as witness

-- ---- atoms of a list, by their values

abbrev pub values_of : (ℕ → Cell) → ℕ → Value
values_of a = λ p. cell_value (a p)

abbrev pub same_value : Value → Value → Bool
same_value True w = says_true w
same_value False w = says_false w
same_value Undefined w = says_undefined w

unfoldable pub first_with : (ℕ → Value) → Value → List ℕ → code.Option ℕ
first_with g v [] = None
first_with g v (q ∷ l) = elim (same_value v (g q)) [ true ↦ Some q | false ↦ first_with g v l ]

unfoldable pub other_true : (ℕ → Value) → ℕ → List ℕ → code.Option ℕ
other_true g p [] = None
other_true g p (q ∷ l) = elim (not (eqb q p) && says_true (g q)) [ true ↦ Some q | false ↦ other_true g p l ]

-- ---- "A rule that fails to support p has one witness"

-- x is what a literal's value is
abbrev pub witness_by : (Lit → Value) → ℕ → Rule → Option Lit
witness_by x p r = or_else (first_of (λ l. is_other p l && says_true (x l)) (head_lits r)) (first_of (λ l. says_false (x l)) (body_lits r))

unfoldable pub witness_of : (ℕ → Cell) → ℕ → Rule → Option Lit
witness_of a p r = witness_by (value a) p r

abbrev pub is_none : Option Lit → Bool
is_none none = true
is_none (some x) = false

unfoldable pub supports_of : (ℕ → Cell) → ℕ → Rule → Bool
supports_of a p r = has p r.head && is_none (witness_of a p r)

-- in table order: the atoms first, then what comes after
abbrev pub atom_or : code.Option ℕ → code.Option Witness → code.Option Witness
atom_or (Some q) w = Some (witness.Atom q)
atom_or None w = w

abbrev pub refuted_by : code.Option ℕ → code.Option Witness
refuted_by (Some k) = Some (witness.Literal k)
refuted_by None = None

-- of the rule at i: its first false body literal
unfoldable pub body_witness : (ℕ → Cell) → List ℤ → ℕ → code.Option Witness
body_witness a t i =
    atom_or (first_with (values_of a) False (atoms (part_at t (pos_at t i))))
    (atom_or (first_with (values_of a) True (atoms (part_at t (neg_at t i))))
    (refuted_by (first_false a (literal_lits t (part_at t (aggs_at t i))))))

unfoldable pub witness_at : (ℕ → Cell) → List ℤ → ℕ → ℕ → code.Option Witness
witness_at a t p i = atom_or (other_true (values_of a) p (atoms (part_at t i))) (body_witness a t i)

abbrev pub is_nobody : code.Option Witness → Bool
is_nobody None = true
is_nobody (Some w) = false

-- ---- the rules at a list of places

-- a rule lies at each place, and it has p in the head
pub record Candidates (t : List ℤ) (tb : Table) (p : ℕ) (l : List ℕ) : Type 0 where
  pub lie : AllLie tb t l
  pub headed : (k : ℕ) → k < length l → has p (rule_at t (get_or l k 0)).head ≡ true

-- how many come before the first that passes the test f
unfoldable pub skipped : (Rule → Bool) → List ℤ → List ℕ → ℕ
skipped f t [] = zero
skipped f t (i ∷ l) = elim (f (rule_at t i)) [ true ↦ zero | false ↦ suc (skipped f t l) ]

-- one passes
unfoldable pub some_rule : (Rule → Bool) → List ℤ → List ℕ → Bool
some_rule f t [] = false
some_rule f t (i ∷ l) = elim (f (rule_at t i)) [ true ↦ true | false ↦ some_rule f t l ]

-- ---- what is asked

-- "that rule's other undefined head atoms become false, then its positive body atoms still undefined true, then its negated atoms still undefined false"
abbrev pub or_set : code.Option ℕ → Bool → code.Option (ℕ × Bool) → code.Option (ℕ × Bool)
or_set (Some q) v n = Some (q, v)
or_set None v n = n

abbrev pub forced_by : (ℕ → Value) → Rule → code.Option (ℕ × Bool)
forced_by g r =
    or_set (first_with g Undefined r.head) false
    (or_set (first_with g Undefined r.pos) true (or_set (first_with g Undefined r.neg) false None))

unfoldable pub forced_of : (ℕ → Cell) → Rule → code.Option (ℕ × Bool)
forced_of a r = forced_by (values_of a) r

-- the rule at i supports: is there another, and is there something to set?
abbrev pub sole_by : ℕ → Bool → code.Option (ℕ × Bool) → Ask
sole_by i true n = Nothing
sole_by i false (Some (q, v)) = Sole i
sole_by i false None = Nothing

-- "No rule supports p: .. if undefined, p becomes false"
abbrev pub open_by : Bool → Ask
open_by true = Nothing
open_by false = Unset

-- "No rule supports p: conflict if p is true"; "p is true and one rule supports it"
unfoldable pub true_by : (Rule → Bool) → (Rule → code.Option (ℕ × Bool)) → List ℤ → List ℕ → Ask
true_by f g t [] = Conflict
true_by f g t (i ∷ l) = elim (f (rule_at t i)) [ true ↦ sole_by i (some_rule f t l) (g (rule_at t i)) | false ↦ true_by f g t l ]

abbrev pub ask_by : (Rule → Bool) → (Rule → code.Option (ℕ × Bool)) → List ℤ → Value → List ℕ → Ask
ask_by f g t False l = Nothing
ask_by f g t Undefined l = open_by (some_rule f t l)
ask_by f g t True l = true_by f g t l

unfoldable pub ask_of : List ℤ → Table → (ℕ → Cell) → ℕ → Ask
ask_of t tb a p = ask_by (supports_of a p) (forced_of a) t (cell_value (a p)) (with_head t p (places_of t tb))

-- ---- "the union of the witnesses' reasons"

abbrev pub joined_by : (Lit → Levels) → Option Lit → Levels → Levels
joined_by y none B = B
joined_by y (some x) B = union (y x) B

-- one rule's share of it
abbrev pub blamed_by : (Rule → Option Lit) → (Lit → Levels) → ℕ → Rule → Levels → Levels
blamed_by x y p r B = cond (has p r.head) (joined_by y (x r) B) B

unfoldable pub blame_by : (Rule → Option Lit) → (Lit → Levels) → ℕ → Program → Levels
blame_by x y p [] = no_levels
blame_by x y p (r ∷ s) = blamed_by x y p r (blame_by x y p s)

unfoldable pub blame_of : (ℕ → Cell) → (ℕ → Levels) → ℕ → Program → Levels
blame_of a R p P = blame_by (witness_of a p) (reason_of a R) p P

-- ---- what steps d and e do

abbrev pub did_ask : List ℤ → ℕ → Ask → Levels → Work → Work
did_ask t p Nothing B w = w
did_ask t p Conflict B w = refuted (union (w.reason p) B) w
did_ask t p Unset B w = set p false B w
did_ask t p (Sole i) B w = step_e (some (rule_at t i)) (union (w.reason p) B) w
