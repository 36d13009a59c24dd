-- Which atom depends on which, and the two classes that are refused (01, "Meaning"; refusals 8 and 9). Definitions only: to be believed.
--   arc          "from head atom to positive body atom"
--   added_arc     "with arcs from head atom to aggregate element atom added": whether the literal is negated or not
--   Chain R p q  a chain of arcs R from p to q, perhaps of none
--   HeadCycle    "two atoms of one head depend on each other through chains from head atom to positive body atom"
--   AggregateCycle   "with arcs from head atom to aggregate element atom added, a cycle contains such an added arc", charged to the rule that adds it
-- Assumes nothing.
use Rattle.std.specs.Prelude.{◌≡◌, ◌≢◌, Bool, ◌&&◌, ◌||◌, ℕ, eqb}
use Rattle.meaning.specs.Lists.{Is, ◌∈◌, any, has}
use Rattle.meaning.specs.Program.{Element, Literal, Rule, Program}

-- "negated atoms make no arc"
unfoldable pub arc : Program → ℕ → ℕ → Bool
arc P p q = any (λ r. has p r.head && has q r.pos) P

unfoldable pub occurs : ℕ → Literal → Bool
occurs q l = any (λ e. eqb q e.atom) l.aggregate.elements

unfoldable pub added_arc : Program → ℕ → ℕ → Bool
added_arc P p q = any (λ r. has p r.head && any (occurs q) r.aggs) P

unfoldable pub any_arc : Program → ℕ → ℕ → Bool
any_arc P p q = arc P p q || added_arc P p q

pub data Chain (R : ℕ → ℕ → Bool) (p : ℕ) : ℕ → Type 0 where
  stay : {q : ℕ} → p ≡ q → Chain R p q
  go : {q s : ℕ} → Chain R p q → Is (R q s) → Chain R p s

-- two different atoms of the rule's head, each reaching the other
pub record HeadCycle (P : Program) (r : Rule) : Type 0 where
  pub first : ℕ
  pub second : ℕ
  pub first_in : first ∈ r.head
  pub second_in : second ∈ r.head
  pub differ : first ≢ second
  pub there : Chain (arc P) first second
  pub back : Chain (arc P) second first

-- an arc that the rule adds, from an atom of its head to one of its aggregates' elements, lies on a cycle
pub record AggregateCycle (P : Program) (r : Rule) : Type 0 where
  pub from : ℕ
  pub from_in : from ∈ r.head
  pub lit : Literal
  pub lit_in : lit ∈ r.aggs
  pub elem : Element
  pub elem_in : elem ∈ lit.aggregate.elements
  pub back : Chain (any_arc P) elem.atom from

-- no rule of the program has it
abbrev pub Free : (Program → Rule → Type 0) → Program → Type 0
Free Cycle P = (r : Rule) → r ∈ P → Cycle P r → ⊥
