-- Rounds and rules as numbers, for tables of cases: the round and the rule of atom 1, then of atom 2, and so on. Definitions only.
-- Assumes nothing.
use Rattle.std.specs.Prelude.{ℕ, zero, suc, Bool, List, [], ◌∷◌, ◌++◌, ℤ}
use Rattle.meaning.specs.Lists.{has}
use Rattle.meaning.specs.declared.Function.{Function}
use Rattle.meaning.specs.declared.Comparison.{Comparison}
use Rattle.meaning.specs.Program.{Element, Aggregate, Literal, Rule, Program}
use Rattle.meaning.specs.Foundedness.{same_list}
use Rattle.rounds.specs.declared.Why.{Why}
use Rattle.rounds.specs.Rounds.{why_of}
use Rattle.rounds.specs.Marks.{marks_after}

abbrev pub shown_whys : ℕ → (ℕ → Why) → List ℕ
shown_whys zero w = []
shown_whys (suc n) w = shown_whys n w ++ ((w (suc n)).round ∷ (w (suc n)).rule ∷ [])

pub record WhyCase : Type 0 where
  pub atoms : ℕ
  pub program : Program
  pub trues : List ℕ
  pub whys : List ℕ

abbrev pub as_defined : WhyCase → Bool
as_defined c = same_list (shown_whys c.atoms (why_of c.program c.atoms (λ p. has p c.trues))) c.whys

abbrev pub as_marked : WhyCase → Bool
as_marked c = same_list (shown_whys c.atoms (marks_after c.program (λ p. has p c.trues) c.atoms)) c.whys

abbrev pub why_case : ℕ → Program → List ℕ → List ℕ → WhyCase
why_case n P t w = record { atoms = n; program = P; trues = t; whys = w }

abbrev pub rule : List ℕ → List ℕ → List ℕ → List Literal → Rule
rule h p n a = record { head = h; pos = p; neg = n; aggs = a }

abbrev pub lit : Bool → Aggregate → Literal
lit b a = record { plain = b; aggregate = a }

abbrev pub agg : Function → Comparison → ℤ → List Element → Aggregate
agg f c t es = record { function = f; comparison = c; threshold = t; elements = es }

infix 60 ◌∶◌
abbrev pub ◌∶◌ : ℕ → ℕ → Element
v ∶ p = record { value = v; atom = p }
