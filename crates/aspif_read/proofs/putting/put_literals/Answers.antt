-- `aspif_read::putting::put_literals` meets its contract. Assumes nothing.
use Rattle.aspif_read.specs.Writing.{literal_words}
use Rattle.aspif_read.proofs.Puts.{put_then}
use borrow.Author.Tests.{eq-eqb, ne_eqb}
use Rattle.aspif_read.proofs.putting.put_literals.Goals as goal

pub returns-then-own-eq0 : goal.returns-then-own-eq0
unfolding literal_words
returns-then-own-eq0 c = rw (eq-eqb _ 0 c.if-own-eq0.true) c.put.ensures

pub returns : goal.returns
unfolding literal_words
returns c = rw (ne_eqb _ 0 c.if-own-eq0.false) (put_then _ _ _ _ _ _ _ _ c.requires.0 c.put-after.ensures c.put-2.ensures)
