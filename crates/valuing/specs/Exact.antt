-- What it means that a value in a partial interpretation is exact. Definitions only.
-- Assumes nothing.
use Rattle.std.specs.Prelude.{ℕ, ◌≡◌, Bool, false, List}
use Rattle.meaning.specs.Lists.{Is, ◌∈◌}
use Rattle.meaning.specs.Aggregates.{Atoms}
use Rattle.meaning.specs.Program.{Element, Literal}
use Rattle.meaning.specs.Answers.{literal}
use Rattle.interpretation.specs.State.{Cell, defined}
use Rattle.interpretation.specs.declared.Value.{Value}
use Rattle.interpretation.specs.declared.Value.TheVariants.{True, False}
use Rattle.valuing.specs.Values.{Lit, atom_lit, agg_lit, value, true_in}

-- X is a completion of a at the elements' atoms: it has the value of each that is defined
abbrev pub Completes : (ℕ → Cell) → List Element → Atoms → Type 0
Completes a es X = (e : Element) → e ∈ es → (v : Bool) (l : ℕ) → a e.atom ≡ defined v l → X e.atom ≡ v

-- "Atoms ascend strictly inside one aggregate, so an atom occurs there once"
abbrev pub Distinct : List Element → Type 0
Distinct es = (d e : Element) → d ∈ es → e ∈ es → d.atom ≡ e.atom → d ≡ e

module _ (a : ℕ → Cell) (es : List Element) (f : Atoms → Bool) (v : Value) where
  -- v is right about the test f: what it says holds in every completion
  pub record Right : Type 0 where
    pub always : v ≡ True → (X : Atoms) → Completes a es X → Is (f X)
    pub never : v ≡ False → (X : Atoms) → Completes a es X → f X ≡ false

  -- and where it says nothing, there are completions of both kinds
  abbrev pub Both : Type 0
  Both = ((X : Atoms) × Completes a es X × Is (f X)) × ((X : Atoms) × Completes a es X × (f X ≡ false))

-- ---- an aggregate literal

module _ (a : ℕ → Cell) (l : Literal) where
  -- every completion gives it the value b
  abbrev pub Always : Bool → Type 0
  Always b = (X : Atoms) → Completes a l.aggregate.elements X → literal X l ≡ b

  -- some completion does
  abbrev pub Sometimes : Bool → Type 0
  Sometimes b = (X : Atoms) × Completes a l.aggregate.elements X × (literal X l ≡ b)

-- ---- a literal of a rule

-- X has the value of each defined atom of the literal
abbrev pub Follows : (ℕ → Cell) → Atoms → Lit → Type 0
Follows a X (atom_lit s p) = (v : Bool) (l : ℕ) → a p ≡ defined v l → X p ≡ v
Follows a X (agg_lit t) = Completes a t.aggregate.elements X

-- what the literal's value says is so in X
abbrev pub Truth : (ℕ → Cell) → Atoms → Lit → Type 0
Truth a X x = (value a x ≡ True → Is (true_in X x)) × (value a x ≡ False → true_in X x ≡ false)
