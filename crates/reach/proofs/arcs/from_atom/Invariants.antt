-- `reach::arcs::from_atom` meets its contract. The invariant: the set so far and what the rules to come make arcs to are what all rules of the atom's list make arcs to. Assumes nothing.
use mathlib.Core.Path.{◌≡◌}
use mathlib.Core.Bool.{Bool}
use mathlib.Core.List.{List}
use Prim.Native.Nat.{ℕ}
use lib.IntN.{ℤ}
use lib.ListN.{drop}
use Rattle.meaning.specs.Lists.{any}
use Rattle.layout.specs.Layout.{rule_at}
use Rattle.levels.specs.Levels.{Levels, union}
use Rattle.levels.specs.View.{row}
use Rattle.reach.specs.Arcs.{targets}
use Rattle.reach.proofs.arcs.from_atom.Given as goal

-- what the rules at a list of places make arcs to
abbrev pub aims : Bool → List ℤ → List ℕ → Levels
aims added t l = λ q. any (λ (j : ℕ). targets added (rule_at t j) q) l

abbrev pub invariant-loop-at : goal.invariant-loop-at
invariant-loop-at l = union (aims l.added l.t.words.now (drop l.at-index l.l)) (row l.all) ≡ aims l.added l.t.words.now l.l
