-- `aspif_read::putting::put_aggregate` meets its contract. Assumes nothing.
use Rattle.aspif_read.specs.Writing.{aggregate_words}
use Rattle.aspif_read.proofs.Puts.{put_then, put_inside}
use Rattle.aspif_read.proofs.putting.put_aggregate.Goals as goal

pub returns : goal.returns
unfolding aggregate_words
returns c =
    let p1 = c.put-after_function.ensures in
    let p2 = c.put-after_comparison.ensures in
    let p3 = c.put_threshold-after_threshold.ensures in
    let p4 = c.put-after_count.ensures in
    let p5 = c.put_elements.ensures in
    rw (← c.count.ensures.value)
    (put_then _ _ _ _ _ _ _ _ c.requires.0 p1
    (put_then _ _ _ _ _ _ _ _ (put_inside _ _ _ _ _ p1) p2
    (put_then _ _ _ _ _ _ _ _ (put_inside _ _ _ _ _ p2) p3
    (put_then _ _ _ _ _ _ _ _ (put_inside _ _ _ _ _ p3) p4 p5))))
