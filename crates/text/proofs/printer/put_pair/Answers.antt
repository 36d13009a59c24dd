-- `text::printer::put_pair` meets its contract: its parts are put one after the other. Assumes nothing.
use mathlib.Core.List.{◌++◌}
use native.Mathlib.Omega.{arith}
use Rattle.text.specs.Line.{decimal}
use Rattle.text.proofs.Putting.{put_then, put_on}
use Rattle.text.proofs.Lines.{pair_short}
use Rattle.text.proofs.printer.put_pair.Goals as goal

pub returns : goal.returns
returns c =
    let a = c.args in record {
      put = put_on _ _ _ (a.word.now ++ decimal a.first) _ 32 _ _ _ (omega arith) (put_then _ _ _ _ _ _ _ _ (omega arith) (put_then _ _ _ _ _ _ _ _ (omega arith) c.put-after_word.ensures c.put_number-after_first.ensures) c.put_byte-after_space.ensures) c.put_number.ensures;
      second_in_bounds = pair_short a.word.now a.first a.second c.ranges.first.fits c.ranges.second.fits;
    }
