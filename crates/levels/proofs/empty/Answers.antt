-- `levels::empty` meets its contract. Assumes nothing.
use Rattle.levels.proofs.Laws.{row_zeros}
use Rattle.levels.proofs.empty.Goals as goal

pub returns : goal.returns
returns c = row_zeros
