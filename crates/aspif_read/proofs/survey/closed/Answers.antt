-- `aspif_read::survey::closed` meets its contract. Assumes nothing.
use Rattle.aspif_read.proofs.LineLaws.{line_first, lines_none}
use Rattle.aspif_read.proofs.survey.closed.Goals as goal

pub returns-then-end-text : goal.returns-then-end-text
returns-then-end-text c = rw (line_first _ c.args.end c.if-end-text.true)

pub returns : goal.returns
returns c = rw (lines_none _ c.args.end c.if-end-text.false)
