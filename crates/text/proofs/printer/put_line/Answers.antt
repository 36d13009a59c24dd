-- `text::printer::put_line` meets its contract. Assumes nothing.
use native.Mathlib.Omega.{arith}
use Rattle.text.proofs.Putting.{put_then}
use Rattle.text.proofs.Lines.{line_short}
use Rattle.text.proofs.printer.put_line.Goals as goal

pub returns : goal.returns
returns c =
    let a = c.args in
    record { put = put_then _ _ _ _ _ _ _ _ (omega arith) c.put_pair-after_pair.ensures.put c.put_byte.ensures; second_in_bounds = line_short a.word.now a.first a.second c.put_pair-after_pair.ensures.second_in_bounds }
