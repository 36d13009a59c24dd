-- `show::parts::put_elements` meets its contract. The invariant of its loop: to lay the elements left from here is to lay all from the start. Assumes nothing.
use mathlib.Core.Path.{◌≡◌}
use Prim.Native.Nat.{◌+◌, ◌*◌}
use native.Mathlib.Omega.{arith}
use Rattle.bytes_out.proofs.Laws.{left_step, left_done}
use Rattle.notation.specs.Notation.{comma}
use Rattle.show.proofs.Joined.{elements_on, elements_none}
use Rattle.show.proofs.parts.put_elements.Goals as goal

pub loop-j-preserved : goal.loop-j-preserved
loop-j-preserved c =
    let i = 2 * c.loop-j.j in
    let k : 2 * (c.loop-j.j + 1) ≡ i + 2 = omega arith in
    rw k (left_step (elements_on comma c.loop-j.follows c.args.l.now i (omega arith)) c.loop-j.invariant c.put_element-to.ensures)

pub returns : goal.returns
returns c = left_done (elements_none comma c.loop-j.follows c.args.l.now (2 * c.loop-j.j) (omega arith)) c.loop-j.invariant
