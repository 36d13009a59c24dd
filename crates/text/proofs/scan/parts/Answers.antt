-- `text::scan::parts` meets its contract: by the two tests. Assumes nothing.
use borrow.Author.Tests.{eq-eqb, ne_eqb}
use Rattle.text.specs.Text.{parting}
use Rattle.text.proofs.scan.parts.Goals as goal

pub returns-then-b-eq32 : goal.returns-then-b-eq32
unfolding parting
returns-then-b-eq32 c = rw (eq-eqb _ _ c.if-b-eq32.true)

pub returns-else-b-eq32 : goal.returns-else-b-eq32
unfolding parting
returns-else-b-eq32 c = rw (ne_eqb _ _ c.if-b-eq32.false)
