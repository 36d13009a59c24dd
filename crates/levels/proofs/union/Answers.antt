-- `levels::union` meets its contract. Assumes nothing.
use borrow.Author.Rules.{rules}
use mathlib.Core.Path.{◌≡◌}
use lib.ListN.{length}
use Rattle.levels.proofs.Laws.{row_united}
use Rattle.levels.proofs.union.Goals as goal

pub returns : goal.returns
returns c =
    let m : length c.args.a ≡ 4 = search rules in
    let n : length c.args.b ≡ 4 = search rules in
    row_united c.args.a c.args.b m n
