-- `second_search::has_smaller` meets its contract. The invariant: the interpretation is that of a state of the second search with a limit that it never meets; the measure is of
-- the interpretation alone. Assumes nothing.
use Prim.Native.Nat.{◌+◌, ◌*◌}
use mathlib.Core.Path.{◌≡◌}
use mathlib.Core.Bool.{true}
use mathlib.Core.List.{map}
use lib.ListN.{length}
use Rattle.meaning.specs.Program.{AtomsIn}
use Rattle.interpretation.specs.State.{true_atoms}
use Rattle.interpretation.specs.View.{valued}
use Rattle.layout.specs.Layout.{rule_at}
use Rattle.search.proofs.Unlimited.{Room}
use Rattle.second_search.specs.Looking.{view_of, Whole}
use Rattle.second_search.proofs.Ordered.{Ordered}
use Rattle.second_search.proofs.Standing.{Stands}
use Rattle.second_search.proofs.has_smaller.Given as goal

abbrev pub invariant-loop-p : goal.invariant-loop-p
invariant-loop-p l =
    Whole l.values l.levels × (length l.chosen ≡ 256) × Ordered l.t.places.atoms (view_of l.values l.levels l.chosen l.depth)
    × ((A : AtomsIn l.t.places.atoms (map (rule_at l.t.words.now) l.places)) × Stands l.t.places.atoms (map (rule_at l.t.words.now) l.places) A (true_atoms l.t.places.atoms (valued l.candidate)) (view_of l.values l.levels l.chosen l.depth))

abbrev pub decreases-loop-p : goal.decreases-loop-p
decreases-loop-p l = Room l.t.places.atoms true (view_of l.values l.levels l.chosen l.depth) * 2 + l.depth
