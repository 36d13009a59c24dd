-- `interpretation::lowest_undefined` meets its contract: the first value that is 0. Assumes nothing.
use Rattle.std.proofs.Common.{rules, arith, ◌≡◌, take, tests}
use Rattle.std.proofs.lemmas.Iterator.{IsFirst-from_position, YieldsList-from_slice}
use Rattle.interpretation.proofs.Laws.{lowest_first}
use Rattle.interpretation.proofs.lowest_undefined.Goals as goal

pub returns : goal.returns
returns c =
    let vs = c.args.values.now in
    let first = IsFirst-from_position _ _ c.position.result (λ x. x ≡ 0) (λ x. x ≡ 0 → ⊥) c.position.ensures.ran (YieldsList-from_slice (take c.args.n vs) cc) (λ x q k. search (rules, tests)) (λ x q k. search (rules, tests)) in
    lowest_first vs c.args.n c.position.result c.map.result (omega arith) first (search rules)
