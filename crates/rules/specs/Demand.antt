-- What steps a to c ask of one rule (01, "Propagation"), as the code finds it. Definitions only; they need not be believed: `proofs/Rule.antt` ties them to
-- the steps of crate `steps`. A rule forbids that its body literals are all true and its head atoms all false, so its head atoms are taken negated:
-- if all these literals are true, it is in conflict (a); if one is undefined and the others are true, that one must become false (b and c); a
-- false one means that the rule holds.
--   becomes_false x   the step that makes literal x false: "if it is no aggregate literal"
--   together d e     what two parts of a rule ask: Conflict asks nothing more of the other part, Nothing settles it
--   asks a s         what literals s ask;  demand_of a r: what rule r asks
--   did d R w        the working state after that step, its reason R
-- Assumes nothing.
use Rattle.std.specs.Prelude.{ℕ, Bool, true, false, not, List, [], ◌∷◌, ◌++◌, map}
use Rattle.meaning.specs.Program.{Rule}
use Rattle.levels.specs.Levels.{Levels}
use Rattle.interpretation.specs.State.{Cell}
use Rattle.interpretation.specs.declared.Value.{Value}
use Rattle.interpretation.specs.declared.Value.TheVariants.{True, False, Undefined}
use Rattle.valuing.specs.Values.{Lit, atom_lit, agg_lit, value}
use Rattle.steps.specs.Steps.{body_lits, Work, set, refuted}
use Rattle.rules.specs.declared.Step.{Step}
use Rattle.rules.specs.declared.Step.TheVariants.{Nothing, Conflict, Set}

abbrev pub becomes_false : Lit → Step
becomes_false (atom_lit s p) = Set p (not s)
becomes_false (agg_lit l) = Nothing

abbrev pub ask_of : Value → Lit → Step
ask_of True x = Conflict
ask_of False x = Nothing
ask_of Undefined x = becomes_false x

abbrev pub together : Step → Step → Step
together Nothing e = Nothing
together Conflict e = e
together (Set p v) Nothing = Nothing
together (Set p v) Conflict = Set p v
together (Set p v) (Set q u) = Nothing

unfoldable pub asks : (ℕ → Cell) → List Lit → Step
asks a [] = Conflict
asks a (x ∷ s) = together (ask_of (value a x) x) (asks a s)

-- the head atoms, negated
abbrev pub denied_lits : Rule → List Lit
denied_lits r = map (atom_lit false) r.head

unfoldable pub demand_of : (ℕ → Cell) → Rule → Step
demand_of a r = asks a (denied_lits r ++ body_lits r)

abbrev pub is_conflict : Step → Bool
is_conflict Nothing = false
is_conflict Conflict = true
is_conflict (Set p v) = false

abbrev pub did : Step → Levels → Work → Work
did Nothing R w = w
did Conflict R w = refuted R w
did (Set p v) R w = set p v R w
