-- `second_search::look` meets its contract. The invariant of its loop: whatever the defined second search ends with from the present state, with reasons that the code
-- does not keep, it ends with from the start; the interpretation is `Ordered`, which gives every index. The measure is that of the defined search.
-- Assumes nothing.
use Prim.Native.Nat.{suc, ◌+◌, ◌-◌, ◌*◌, ◌≤◌}
use mathlib.Core.Path.{◌≡◌}
use mathlib.Core.List.{map}
use lib.ListN.{length}
use Rattle.interpretation.specs.State.{true_atoms}
use Rattle.interpretation.specs.View.{valued}
use Rattle.layout.specs.Layout.{rule_at}
use Rattle.smaller.specs.Smaller.{second}
use Rattle.second_search.specs.Looking.{view_of, Whole}
use Rattle.second_search.proofs.Counting.{Stands}
use Rattle.second_search.proofs.Ordered.{Ordered}
use Rattle.second_search.proofs.look.Given as goal

abbrev pub invariant-loop-p : goal.invariant-loop-p
invariant-loop-p l =
    Whole l.values l.levels × (length l.chosen ≡ 256) × Ordered l.t.places.atoms (view_of l.values l.levels l.chosen l.depth) × (l.choices ≤ l.left)
    × Stands (second (map (rule_at l.t.words.now) l.places) l.t.places.atoms (true_atoms l.t.places.atoms (valued l.candidate))) l.left (view_of l.values l.levels l.chosen l.depth) l.choices

abbrev pub decreases-loop-p : goal.decreases-loop-p
decreases-loop-p l = (l.left - l.choices) * suc l.t.places.atoms + l.depth
