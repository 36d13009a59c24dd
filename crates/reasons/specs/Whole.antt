-- 01's reasons, to compare with those of request 4 of 02: "An aggregate literal's reason is the union over its defined element atoms." Definitions only. No contract
-- reaches them: they say what the reasons were.
--   Part A B       every level of A is one of B
--   whole_of        the reason of a literal as 01 has it;  wholes_of: of a list of literals
--   why_by          the reason of steps d and e, by any reasons of literals
--   SameValues     two propagations that give atoms the same values, and meet a conflict at the same time, whatever reasons they keep
-- Assumes nothing.
use Rattle.std.specs.Prelude.{ℕ, ◌≡◌, true, cond, List, [], ◌∷◌}
use Rattle.std.proofs.Math.Option.{Option, none, some}
use Rattle.meaning.specs.Lists.{has}
use Rattle.meaning.specs.Program.{Element, Program}
use Rattle.levels.specs.Levels.{Levels, no_levels, union}
use Rattle.interpretation.specs.State.{Cell, Interpretation}
use Rattle.valuing.specs.Values.{Lit, atom_lit, agg_lit}
use Rattle.valuing.specs.Reasons.{reason_at}
use Rattle.steps.specs.Steps.{Propagated, Work, is_settled, witness}
use Rattle.search.specs.Search.{Problem}

abbrev pub Part : Levels → Levels → Type 0
Part A B = (l : ℕ) → A l ≡ true → B l ≡ true

-- "the union over its defined element atoms"
abbrev pub elements_reason : (ℕ → Cell) → (ℕ → Levels) → List Element → Levels
elements_reason a r [] = no_levels
elements_reason a r (e ∷ es) = union (reason_at (a e.atom) (r e.atom)) (elements_reason a r es)

abbrev pub whole_of : (ℕ → Cell) → (ℕ → Levels) → Lit → Levels
whole_of a r (atom_lit s p) = reason_at (a p) (r p)
whole_of a r (agg_lit l) = elements_reason a r l.aggregate.elements

abbrev pub wholes_of : (ℕ → Cell) → (ℕ → Levels) → List Lit → Levels
wholes_of a r [] = no_levels
wholes_of a r (x ∷ s) = union (whole_of a r x) (wholes_of a r s)

-- the union of the witnesses' reasons over the rules with p in the head that do not support it
abbrev pub joined_by : (Lit → Levels) → Option Lit → Levels → Levels
joined_by f none R = R
joined_by f (some x) R = union (f x) R

abbrev pub why_by : (Lit → Levels) → Work → ℕ → Program → Levels
why_by f w p [] = no_levels
why_by f w p (r ∷ s) = let t = why_by f w p s in let u = joined_by f (witness w p r) t in cond (has p r.head) u t

-- ---- propagations with other reasons

abbrev pub Propagation : Type 0
Propagation = Interpretation → (ℕ → Levels) → Propagated

pub record SameValues (f g : Propagation) : Type 0 where
  pub cells : (i : Interpretation) (r s : ℕ → Levels) → (f i r).cell ≡ (g i s).cell
  pub verdicts : (i : Interpretation) (r s : ℕ → Levels) → is_settled (f i r).verdict ≡ is_settled (g i s).verdict
  pub passes : (i : Interpretation) (r s : ℕ → Levels) → (f i r).passes ≡ (g i s).passes

-- the same problem with another propagation
abbrev pub propagating_by : Propagation → Problem → Problem
propagating_by g P = record { atoms = P.atoms; propagate = g; test = P.test; pins = P.pins; first = P.first }
