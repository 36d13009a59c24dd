-- Models, the reduct, answer sets and their order (01, "Meaning"; Faber, Leone and Pfeifer 2004). Definitions only: to be believed.
--   literal      an aggregate literal: the comparison, or its negation ("and its negation true")
--   body, holds  "A rule holds if some body literal is false or some head atom is true"
--   reduct       "The reduct under an interpretation keeps the rules whose whole body is true in it"
--   AnswerSet    "An answer set is a model of the program of which no proper subset is a model of that reduct, aggregates being evaluated
--                afresh in the subset"
--   Before, First   "Order of answer sets: at the lowest-numbered atom on which two differ, the one that has it true comes first"
-- Assumes nothing.
use Rattle.std.specs.Prelude.{◌≡◌, ◌⊎◌, Bool, true, false, not, ◌&&◌, ◌||◌, ℕ, ◌≤◌, ◌<◌}
use Rattle.std.specs.Bool.{beq}
use Rattle.meaning.specs.Lists.{Is, all, any, keep}
use Rattle.meaning.specs.Program.{Literal, Rule, Program, In}
use Rattle.meaning.specs.Aggregates.{Atoms, compared}

unfoldable pub literal : Atoms → Literal → Bool
literal I l = beq l.plain (compared l.aggregate I)

-- the whole body is true
unfoldable pub body : Atoms → Rule → Bool
body I r = all I r.pos && all (λ p. not (I p)) r.neg && all (literal I) r.aggs

unfoldable pub holds : Atoms → Rule → Bool
holds I r = not (body I r) || any I r.head

unfoldable pub model : Program → Atoms → Bool
model P I = all (holds I) P

unfoldable pub reduct : Program → Atoms → Program
reduct P X = keep (body X) P

infix 40 ◌⊆◌
abbrev pub ◌⊆◌ : Atoms → Atoms → Type 0
Y ⊆ X = (p : ℕ) → Is (Y p) → Is (X p)

-- a proper subset: a subset that lacks an atom
infix 40 ◌⊂◌
abbrev pub ◌⊂◌ : Atoms → Atoms → Type 0
Y ⊂ X = (Y ⊆ X) × ((p : ℕ) × Is (X p) × (Y p ≡ false))

-- "aggregates being evaluated afresh in the subset": `model .. Y` evaluates them in Y
pub record AnswerSet (P : Program) (X : Atoms) : Type 0 where
  pub is_model : Is (model P X)
  pub minimal : (Y : Atoms) → Y ⊂ X → model (reduct P X) Y ≡ false

-- ---- the order

-- X comes before Z: at the lowest atom of 1 .. n on which they differ, X has it true
pub record Before (n : ℕ) (X Z : Atoms) : Type 0 where
  pub at : ℕ
  pub inside : In n at
  pub same : (q : ℕ) → 1 ≤ q → q < at → X q ≡ Z q
  pub here : X at ≡ true
  pub there : Z at ≡ false

-- X comes first among those of AS: each of them is X or comes after it
abbrev pub First : ℕ → (Atoms → Type 0) → Atoms → Type 0
First n AS X = (Z : Atoms) → AS Z → (X ≡ Z) ⊎ Before n X Z
