-- `pins::memory::atom_as` meets its contract. Assumes nothing.
use mathlib.Core.Path.{sym}
use Prim.Native.Nat.{◌-◌}
use Rattle.meaning.proofs.Cond.{if_lt_yes, if_lt_no}
use Rattle.pins.proofs.memory.atom_as.Goals as goal

pub returns-then-m-gt-ATOMS : goal.returns-then-m-gt-ATOMS
returns-then-m-gt-ATOMS c = let m = c.args.m in sym (if_lt_yes 256 m (m - 256) m c.if-m-gt-ATOMS.true)

pub returns : goal.returns
returns c = let m = c.args.m in sym (if_lt_no 256 m (m - 256) m c.if-m-gt-ATOMS.false)
