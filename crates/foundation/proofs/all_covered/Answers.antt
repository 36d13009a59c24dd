-- `foundation::all_covered` meets its contract: what the chain finds of the atoms 1 to n is what holds of them from n down.
-- Assumes nothing.
use mathlib.Core.Path.{◌≡◌, ◌∙◌}
use native.Mathlib.Omega.{arith}
use Rattle.std.proofs.Common.{rules, ◌+◌}
use Rattle.std.proofs.lemmas.Iterator.{YieldsList-from_range}
use Rattle.std.proofs.lemmas.Iterator.Search.{all_from_yields_List}
use Rattle.std.specs.List.{list_all, range_with_len}
use Rattle.interpretation.specs.View.{valued}
use Rattle.foundation.specs.Walk.{marked, covers}
use Rattle.foundation.proofs.Words.{all_atoms}
use Rattle.foundation.proofs.all_covered.Goals as goal

pub returns : goal.returns
returns c =
    let n = c.args.n in
    let found : c.all.result ≡ list_all (covers (valued c.args.values.now) (marked c.args.marks.now)) (range_with_len 1 n) =
    all_from_yields_List (covers (valued c.args.values.now) (marked c.args.marks.now)) _ _ _ c.all.ensures.ran (YieldsList-from_range 1 (n + 1) n (cc) (omega arith)) (λ x b q k. search rules) in
    found ∙ all_atoms (covers (valued c.args.values.now) (marked c.args.marks.now)) n
