-- `relaxer::kept::nothing` meets its contract. Assumes nothing.
use Rattle.relaxer.proofs.Numbers.{none_kept_lem}
use Rattle.relaxer.proofs.kept.nothing.Goals as goal

pub returns : goal.returns
returns c = none_kept_lem 16
