-- `aspif_uses::numbered` meets its contract. The invariant of its loop: the places passed have their numbers, and those left get the free ones from `next` on. Assumes nothing.
use mathlib.Core.Path.{sym, ◌∙◌}
use Prim.Native.Nat.{◌<◌}
use native.Mathlib.Omega.{arith}
use lib.ListN.{length, get_or, length-set}
use Rattle.aspif_parts.proofs.Marking.{next_most, number_step, number_end}
use Rattle.aspif_uses.proofs.numbered.Goals as goal

pub loop-i-preserved : goal.loop-i-preserved
loop-i-preserved c =
    let i = c.loop-i.invariant in
    let k : c.loop-i.i < length c.loop-i.marks = omega arith in
    let q = next_most (get_or c.loop-i.marks c.loop-i.i 0) c.loop-i.next in (
      omega arith,
      simp length-set i.1,
      omega (arith, c.after-next.ensures),
      rw (c.after-next.ensures, c.atom.ensures) (number_step c.loop-i.marks c.loop-i.i c.loop-i.next k ∙ i.3),
    )

pub returns : goal.returns
returns c = sym (number_end c.loop-i.marks c.loop-i.i c.loop-i.next (omega arith)) ∙ c.loop-i.invariant.3
