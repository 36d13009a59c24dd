-- `turns::decide` meets its contract: each way out is one clause of `turn_of`. Assumes nothing.
use mathlib.Core.Path.{◌≡◌, sym}
use mathlib.Core.Option.{Option, none}
use Prim.Native.Nat.{ℕ}
use Rattle.interpretation.specs.State.{lowest}
use Rattle.interpretation.specs.View.{valued}
use Rattle.search.proofs.Parts.{lowest_none}
use Rattle.turns.proofs.decide.Goals as goal

pub test-tested-requires : goal.test-tested-requires
test-tested-requires c =
    let atom : Option ℕ = lowest (valued c.args.values.now) c.args.t.now.places.atoms in
    let whole : atom ≡ none = sym c.in-None.ensures in
    (c.requires.0, lowest_none (valued c.args.values.now) c.args.t.now.places.atoms whole)
