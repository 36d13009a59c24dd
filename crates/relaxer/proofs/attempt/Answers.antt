-- `relaxer::attempt` meets its contract: list 0 is made again, and the search over its rules is the trial. Assumes nothing.
use mathlib.Core.Path.{refl}
use Rattle.levels.specs.View.{row}
use Rattle.relaxer.proofs.Trials.{searched}
use Rattle.relaxer.proofs.attempt.Goals as goal

pub returns : goal.returns
returns c =
    let a = c.args in
    (refl, searched a.cycles a.limit a.t.now.words.now a.t.now.places (row a.kept) c.choose.new.lists c.search-found.result c.choose.ensures.1 c.search-found.ensures, c.choose.ensures.0)
