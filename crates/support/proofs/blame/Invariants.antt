-- `support::blame` meets its contract. Assumes nothing.
use mathlib.Core.Path.{◌≡◌}
use lib.ListN.{drop}
use Rattle.levels.specs.Levels.{union}
use Rattle.levels.specs.View.{row, rows}
use Rattle.interpretation.specs.View.{valued}
use Rattle.layout.specs.Layout.{program_of}
use Rattle.valuing.specs.Reasons.{reason_of}
use Rattle.support.specs.Asking.{witness_of, blame_of}
use Rattle.support.proofs.Rounds.{blame_among}
use Rattle.support.proofs.blame.Given as goal

abbrev pub invariant-loop-k : goal.invariant-loop-k
invariant-loop-k l =
    union (row l.acc) (blame_among (witness_of (valued l.values) l.p) (reason_of (valued l.values) (rows l.reasons)) l.p l.t.words.now (drop l.k l.l)) ≡ blame_of (valued l.values) (rows l.reasons) l.p (program_of l.t.words.now l.t.places)
