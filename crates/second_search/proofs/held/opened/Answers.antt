-- `second_search::held::opened` meets its contract. Assumes nothing.
use lib.ListN.{length-set}
use mathlib.Core.Path.{◌∙◌}
use Rattle.second_search.proofs.Arrays.{opens}
use Rattle.second_search.proofs.held.opened.Goals as goal

pub returns : goal.returns
returns c =
    let a = c.args in (
      c.set.ensures.0,
      length-set a.chosen.now a.depth a.p ∙ c.requires.4,
      opens a.values.now a.levels.now c.set.new.values c.set.new.levels a.chosen.now a.depth a.p c.requires.2 c.requires.4 c.set.ensures.1,
    )
