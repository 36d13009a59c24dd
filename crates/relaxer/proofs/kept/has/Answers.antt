-- `relaxer::kept::has` meets its contract. Assumes nothing.
use mathlib.Core.Path.{sym}
use Rattle.levels.proofs.Laws.{row_at}
use Rattle.relaxer.proofs.kept.has.Goals as goal

pub returns : goal.returns
returns c = sym (row_at c.args.a c.args.i c.requires.0)
