-- `show::parts::put_aggregate` meets its contract. Assumes nothing.
use Rattle.bytes_out.proofs.Laws.{put_then}
use Rattle.show.proofs.Texts.{aggregate_parts}
use Rattle.show.proofs.parts.put_aggregate.Goals as goal

pub returns : goal.returns
returns c =
    let args = c.args in
    let at-function = c.function in
    let at-put-function = c.put_function-after_function in
    let at-pairs = c.pairs in
    let at-put-elements = c.put_elements-after_elements in
    let at-comparison = c.comparison in
    let at-put-comparison = c.put_comparison-after_comparison in
    let at-put-threshold = c.put_threshold in
    rw (← aggregate_parts args.t.now args.begin) (rw (at-function.ensures, at-pairs.ensures, at-comparison.ensures) at (put_then at-put-function.ensures (put_then at-put-elements.ensures (put_then at-put-comparison.ensures at-put-threshold.ensures))))
