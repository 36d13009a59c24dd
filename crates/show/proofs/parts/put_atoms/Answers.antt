-- `show::parts::put_atoms` meets its contract. The invariant of its loop: to lay the atoms left from here is to lay all from the start. Assumes nothing.
use native.Mathlib.Omega.{arith}
use Rattle.bytes_out.proofs.Laws.{left_step, left_done}
use Rattle.notation.specs.Notation.{atom_text}
use Rattle.show.proofs.Joined.{atoms_on, atoms_none}
use Rattle.show.proofs.parts.put_atoms.Goals as goal

pub loop-i-preserved : goal.loop-i-preserved
loop-i-preserved c =
    let args = c.args in
    let at-loop = c.loop-i in
    let at-loop-test = c.loop-i-test in
    let at-put-atom = c.put_atom-to in
    (omega arith, left_step (atoms_on args.between.now at-loop.follows (atom_text args.word.now) args.l.now at-loop.i at-loop-test.true) at-loop.invariant.1 at-put-atom.ensures)

pub returns : goal.returns
returns c =
    let args = c.args in
    let at-loop = c.loop-i in
    let at-loop-test = c.loop-i-test in
    left_done (atoms_none args.between.now at-loop.follows (atom_text args.word.now) args.l.now at-loop.i at-loop-test.false) at-loop.invariant.1
