-- `depend::cycles::element_reaches` meets its contract. The invariant: some pair from number i on passes where some pair does. Assumes nothing.
use mathlib.Core.Path.{◌≡◌}
use Prim.Native.Nat.{◌*◌}
use lib.ListN.{drop}
use Rattle.layout.specs.Layout.{pairs}
use Rattle.depend.specs.Circles.{alike}
use Rattle.depend.specs.Cycles.{returning}
use Rattle.depend.proofs.cycles.element_reaches.Given as goal

abbrev pub invariant-loop-i : goal.invariant-loop-i
invariant-loop-i l = returning (alike l.names) l.p (pairs (drop (2 * l.i) l.l)) ≡ returning (alike l.names) l.p (pairs l.l)
