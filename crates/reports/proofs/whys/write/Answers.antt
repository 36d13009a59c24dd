-- `reports::whys::write` meets its contract: the numbers of the first i atoms stand at the front, and what follows is as it was. Assumes nothing.
use mathlib.Core.Path.{ap, ◌∙◌}
use Rattle.std.proofs.Common.{◌≡◌, List, ℕ, ◌+◌, ◌*◌, length, arith, rules}
use lib.ListN.{get_or, set}
use Rattle.rounds.specs.Rounds.{no_why}
use Rattle.reports.proofs.Numbers.{front, front_on, front_all, whys_whole}
use Rattle.reports.proofs.whys.write.Goals as goal

pub loop-i-preserved : goal.loop-i-preserved
loop-i-preserved c =
    let i = c.loop-i.i in
    let v = get_or c.args.whys i no_why in
    let n : length c.args.whys ≡ 256 = search rules in
    ap (λ (l : List ℕ). set (set l (2 * i) v.round) (2 * i + 1) v.rule) c.loop-i.invariant ∙ front_on c.args.whys c.args.numbers.now i (omega arith) (omega arith)

pub returns : goal.returns
returns c =
    let ws = c.args.whys in
    let old = c.args.numbers.now in
    let n : length ws ≡ 256 = search rules in
    let e : c.loop-i.i ≡ 256 = omega arith in
    c.loop-i.invariant ∙ ap (front ws old) e ∙ front_all ws old 256 n ∙ whys_whole ws old (omega arith)
