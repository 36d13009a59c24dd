-- `explaining::nothing` meets its contract. Assumes nothing.
use Rattle.rounds.proofs.Records.{recorded_none}
use Rattle.explaining.proofs.nothing.Goals as goal

pub returns : goal.returns
returns c = recorded_none
