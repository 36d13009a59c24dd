-- `aspif_uses::new_atoms` meets its contract. Assumes nothing.
use Rattle.aspif_parts.proofs.Numbers.{new_atoms_are}
use Rattle.aspif_uses.proofs.new_atoms.Goals as goal

pub returns : goal.returns
returns c =
    rw (c.numbered.ensures, c.marked-marks.ensures) (new_atoms_are c.args.t.now.words.now c.args.t.now.places c.args.t.now.laid)
