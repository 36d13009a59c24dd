-- `text::printer::put_answer` meets its contract: its parts are put one after the other. Assumes nothing.
use Prim.Native.Nat.{min}
use native.Mathlib.Omega.{arith}
use lib.ListN.{take}
use Rattle.text.specs.Line.{answer_word, pair, atoms_from}
use Rattle.text.proofs.Putting.{put_then, put_on}
use Rattle.text.proofs.Lines.{answer_short}
use Rattle.text.proofs.printer.put_answer.Goals as goal

pub returns : goal.returns
returns c =
    let a = c.args in record {
      put = put_then _ _ _ _ _ _ _ _ (omega arith) (put_on _ _ _ (pair answer_word a.choices a.skips) (atoms_from 1 (take (min a.atoms 256) a.plan.now)) 58 _ _ _ (omega arith) (put_then _ _ _ _ _ _ _ _ (omega arith) c.put_pair-after_pair.ensures.put c.put_byte-after_colon.ensures) c.put_atoms-after_atoms.ensures) c.put_byte.ensures;
      plan_len_bound = answer_short a.choices a.skips a.atoms a.plan.now c.put_pair-after_pair.ensures.second_in_bounds;
    }
