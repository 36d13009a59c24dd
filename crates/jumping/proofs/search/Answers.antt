-- `jumping::search` meets its contract: the start of the defined search is the empty interpretation with no reasons. Assumes nothing.
use mathlib.Core.Path.{◌≡◌}
use mathlib.Core.List.{[]}
use Rattle.levels.specs.View.{rows}
use Rattle.interpretation.specs.View.{view}
use Rattle.heads.specs.Heads.{taking}
use Rattle.search.specs.Search.{start}
use Rattle.smaller.specs.Cyclic.{base_by}
use Rattle.jumping.proofs.Leading.{solves_by}
use Rattle.jumping.proofs.search.Goals as goal

pub returns : goal.returns
returns c =
    let r = c.search_by-halt in
    let a = c.args in
    let P = base_by a.cycles (taking a.t.now.words.now a.lists.now) a.t.now.places.atoms in
    let f : record { interpretation = view c.start-it.result; reason = rows c.no_rows-reasons.result; choices = 0; skips = 0; passes = 0; skipped = [] } ≡ start P = λ j. record { interpretation = c.start-it.ensures j; reason = c.no_rows-reasons.ensures j; choices = 0; skips = 0; passes = 0; skipped = [] } in
    solves_by P a.limit _ r.result f (r.ensures [])
