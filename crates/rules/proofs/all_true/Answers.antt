-- `rules::all_true` meets its contract: what the chain finds of the indices in order is what the literals ask, one by one.
-- Assumes nothing.
use mathlib.Core.Path.{◌≡◌, ◌∙◌}
use Rattle.std.proofs.Common.{rules, length, nat_abs}
use native.Mathlib.Omega.{arith}
use Rattle.std.proofs.lemmas.Iterator.{YieldsList-from_range}
use Rattle.std.proofs.lemmas.Iterator.Search.{all_from_yields_List}
use Rattle.std.specs.List.{list_all, range_with_len}
use Rattle.interpretation.specs.View.{valued}
use Rattle.valuing.specs.Values.{atom_lit}
use Rattle.rules.proofs.Scanned.{true_at, all_true_at}
use Rattle.rules.proofs.all_true.Goals as goal

pub returns : goal.returns
returns c =
    let a = c.args in
    let n = length a.l.now in
    let found : c.all.result ≡ list_all (true_at nat_abs (atom_lit a.sign) (valued a.values.now) a.l.now) (range_with_len 0 n) =
    all_from_yields_List (true_at nat_abs (atom_lit a.sign) (valued a.values.now) a.l.now) _ _ _ c.all.ensures.ran (YieldsList-from_range 0 n n (cc) (omega arith)) (λ x b q k. search rules) in
    found ∙ all_true_at nat_abs (atom_lit a.sign) (valued a.values.now) a.l.now
