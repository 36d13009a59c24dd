-- `aspif_read::putting::put_rule` meets its contract. Assumes nothing.
use Rattle.aspif_read.specs.Writing.{rule_words}
use Rattle.aspif_read.proofs.Puts.{put_then, put_inside}
use Rattle.aspif_read.proofs.putting.put_rule.Goals as goal

pub returns : goal.returns
unfolding rule_words
returns c =
    let p1 = c.put_atoms-after_head.ensures in
    let p2 = c.put_atoms-after_positive.ensures in
    let p3 = c.put_atoms-after_negated.ensures in
    let p4 = c.put_literals.ensures in
    put_then _ _ _ _ _ _ _ _ c.requires.0 p1
    (put_then _ _ _ _ _ _ _ _ (put_inside _ _ _ _ _ p1) p2
    (put_then _ _ _ _ _ _ _ _ (put_inside _ _ _ _ _ p2) p3 p4))
