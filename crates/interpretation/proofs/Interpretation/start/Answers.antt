-- `interpretation::Interpretation::start` meets its contract. Assumes nothing.
use lib.ListN.{replicate}
use Rattle.interpretation.specs.View.{blank}
use Rattle.interpretation.proofs.Laws.{cells_blank, choices_none}
use Rattle.interpretation.proofs.Interpretation.start.Goals as goal

pub returns : goal.returns
returns c = λ t. record { level = 0; choice = choices_none (replicate 256 0) t; cell = cells_blank 256 (replicate 256 blank) t }
