-- `depend::circles::name` meets its contract. The invariant: the atoms above i have their names. Assumes nothing.
use Rattle.levels.specs.View.{row}
use Rattle.depend.specs.Circles.{Renamed}
use Rattle.depend.proofs.circles.name.Given as goal

abbrev pub invariant-loop-i : goal.invariant-loop-i
invariant-loop-i l = Renamed l.i l.n (row l.these) l.p l.initial.names l.names
