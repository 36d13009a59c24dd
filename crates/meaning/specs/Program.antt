-- A finite program without variables (01, "What the solver covers" and "The rule table"). Definitions only: to be believed.
--   Aggregate    "function (count, sum, min, max), comparison (less than, greater than), threshold, .. pairs of value and atom"
--   Literal      "An aggregate literal is j for aggregate j and -j for its negation": here with the aggregate in the place of its number
--   Rule         "Each is four lists: head atoms, positive body atoms, negated body atoms, aggregate literals"
--   In n p       p is an atom of 1 to n: "Atoms are numbered from 1"
-- Assumes nothing.
use Rattle.std.specs.Prelude.{Bool, List, ℕ, ◌≤◌, ◌<◌, ℤ}
use Rattle.meaning.specs.Lists.{◌∈◌}
use Rattle.meaning.specs.declared.Function.{Function}
use Rattle.meaning.specs.declared.Comparison.{Comparison}

pub record Element : Type 0 where
  pub value : ℕ
  pub atom : ℕ

pub record Aggregate : Type 0 where
  pub function : Function
  pub comparison : Comparison
  pub threshold : ℤ
  pub elements : List Element

-- an aggregate (plain), or its negation
pub record Literal : Type 0 where
  pub plain : Bool
  pub aggregate : Aggregate

-- "A rule with an empty head is a constraint"
pub record Rule : Type 0 where
  pub head : List ℕ
  pub pos : List ℕ
  pub neg : List ℕ
  pub aggs : List Literal

abbrev pub Program : Type 0
Program = List Rule

-- ---- atoms of 1 to n

abbrev pub In : ℕ → ℕ → Type 0
In n p = (1 ≤ p) × (p ≤ n)

-- every atom of the rule is one of 1 .. n
pub record RuleIn (n : ℕ) (r : Rule) : Type 0 where
  pub heads : (p : ℕ) → p ∈ r.head → In n p
  pub poss : (p : ℕ) → p ∈ r.pos → In n p
  pub negs : (p : ℕ) → p ∈ r.neg → In n p
  pub elems : (l : Literal) → l ∈ r.aggs → (e : Element) → e ∈ l.aggregate.elements → In n e.atom

abbrev pub AtomsIn : ℕ → Program → Type 0
AtomsIn n P = (r : Rule) → r ∈ P → RuleIn n r

-- every head atom is below n
abbrev pub Below : ℕ → Program → Type 0
Below n P = (r : Rule) → r ∈ P → (p : ℕ) → p ∈ r.head → p < n
