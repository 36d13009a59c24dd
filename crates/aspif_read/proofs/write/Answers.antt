-- `aspif_read::write` meets its contract. Assumes nothing.
use Rattle.aspif_read.specs.Writing.{table_from}
use Rattle.aspif_read.proofs.Puts.{put_then, put_inside}
use native.Mathlib.Omega.{arith}
use Rattle.aspif_read.proofs.write.Goals as goal

pub returns : goal.returns
unfolding table_from
returns c =
    let p1 = c.put-after_atoms.ensures in
    let p2 = c.put-after_count.ensures in
    let p3 = c.put_section-after_aggregates.ensures in
    let p4 = c.put-after_rules.ensures in
    let p5 = c.put_section.ensures in
    put_then _ _ _ _ _ _ _ _ (omega arith) p1
    (put_then _ _ _ _ _ _ _ _ (put_inside _ _ _ _ _ p1) p2
    (put_then _ _ _ _ _ _ _ _ (put_inside _ _ _ _ _ p2) p3
    (put_then _ _ _ _ _ _ _ _ (put_inside _ _ _ _ _ p3) p4 p5)))
