-- `second_search::held::set` meets its contract. Assumes nothing.
use Prim.Native.Nat.{◌-◌}
use Rattle.second_search.proofs.Arrays.{whole_set, cells_put}
use Rattle.second_search.proofs.held.set.Goals as goal

pub returns : goal.returns
returns c =
    let a = c.args in (
      whole_set a.values.now a.levels.now (a.p - 1) c.byte.result a.level c.requires.2,
      cells_put a.values.now a.levels.now a.p a.v c.byte.result a.level c.requires.2 c.requires.0 c.requires.1 c.byte.ensures,
    )
