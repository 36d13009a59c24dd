-- The problem and the states of the defined search that the locals of `search_by` stand for. Assumes nothing.
use Prim.Native.Nat.{ℕ}
use mathlib.Core.Bool.{Bool}
use mathlib.Core.List.{List}
use lib.IntN.{ℤ}
use Rattle.levels.specs.View.{rows}
use Rattle.interpretation.specs.View.{view}
use Rattle.interpretation.specs.declared.Interpretation.{Interpretation}
use Rattle.layout.specs.declared.Table.{Table}
use Rattle.heads.specs.Heads.{taking}
use Rattle.search.specs.Search.{Problem, Branch, State}
use Rattle.smaller.specs.Cyclic.{base_by}

-- the problem of a table, by the mode, with the rules of list 0
abbrev pub problem : Bool → List ℤ → Table → List ℕ → Problem
problem cycles t tb lists = base_by cycles (taking t lists) tb.atoms

-- the state of the defined search that the locals stand for; `skipped`: what no local has
abbrev pub config : Interpretation → List (List ℕ) → ℕ → ℕ → ℕ → List Branch → State
config it reasons choices skips most skipped = record { interpretation = view it; reason = rows reasons; choices = choices; skips = skips; passes = most; skipped = skipped }
