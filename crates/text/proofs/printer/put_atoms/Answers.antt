-- `text::printer::put_atoms` meets its contract. The invariant of its loop: the atoms passed have been put. Assumes nothing.
use lib.ListN.{take}
use Rattle.text.proofs.Putting.{put_none, put_then}
use Rattle.text.proofs.Lines.{atoms_none, atoms_more}
use Rattle.text.proofs.printer.put_atoms.Goals as goal

pub loop-i-init : goal.loop-i-init
loop-i-init c = rw (atoms_none 1) (put_none _ _ c.requires)

pub loop-i-preserved : goal.loop-i-preserved
loop-i-preserved c =
    rw (atoms_more (take c.min-2.result c.args.plan.now) c.loop-i.i c.loop-i-test.true) (put_then _ _ _ _ _ _ _ _ c.requires c.loop-i.invariant c.put_atom-to.ensures)
