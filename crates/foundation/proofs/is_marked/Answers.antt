-- `foundation::is_marked` meets its contract. Assumes nothing.
use mathlib.Core.Path.{sym}
use Rattle.foundation.proofs.Words.{marked_at}
use Rattle.foundation.proofs.is_marked.Goals as goal

pub returns : goal.returns
returns c = sym (marked_at c.args.marks.now c.args.p c.requires.0)
