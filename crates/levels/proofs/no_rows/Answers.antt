-- `levels::no_rows` meets its contract. Assumes nothing.
use Rattle.levels.proofs.Laws.{rows_zeros}
use Rattle.levels.proofs.no_rows.Goals as goal

pub returns : goal.returns
returns c = rows_zeros 256
