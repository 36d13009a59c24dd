-- `text::printer::put_atom` meets its contract. Assumes nothing.
use Rattle.text.proofs.Putting.{put_none, put_then}
use Rattle.text.proofs.Lines.{atom_true, atom_false}
use Rattle.text.proofs.printer.put_atom.Goals as goal

pub returns-then-b-eq1 : goal.returns-then-b-eq1
returns-then-b-eq1 c =
    rw (atom_true _ _ c.if-b-eq1.true) (put_then _ _ _ _ _ _ _ _ c.requires c.put_byte-after_space.ensures c.put_number.ensures)

pub returns : goal.returns
returns c = rw (atom_false _ _ c.if-b-eq1.false) (put_none _ _ c.requires)
