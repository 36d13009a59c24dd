-- `depend::cycles::may_cross` meets its contract. The invariant, of either test: a rule to come passes it, or one passed has, where some rule passes it. Assumes nothing.
use mathlib.Core.Path.{◌≡◌}
use mathlib.Core.Bool.{Bool, ◌||◌}
use mathlib.Core.List.{List}
use Prim.Native.Nat.{ℕ, ◌-◌}
use lib.IntN.{ℤ}
use Rattle.meaning.specs.Lists.{any}
use Rattle.meaning.specs.Program.{Rule}
use Rattle.layout.specs.Layout.{rules_from, RulesLie}
use Rattle.depend.specs.Cycles.{wide, makes_arcs}
use Rattle.depend.proofs.cycles.may_cross.Given as goal

-- a rule to come from i on passes, after k of n rules, or one before has
abbrev pub Gathers : (Rule → Bool) → List ℤ → ℕ → ℕ → ℕ → ℕ → Bool → Type 0
Gathers f t i₀ n i k b = any f (rules_from t i (n - k)) || b ≡ any f (rules_from t i₀ n)

abbrev pub invariant-loop : goal.invariant-loop
invariant-loop l =
    RulesLie l.fn.t.places.atoms l.fn.t.places.aggregates l.t.words.now l.at (l.fn.t.places.rules - l.counter)
    × Gathers wide l.t.words.now l.fn.t.places.first l.fn.t.places.rules l.at l.counter l.two
    × Gathers makes_arcs l.t.words.now l.fn.t.places.first l.fn.t.places.rules l.at l.counter l.arcs
