-- `aspif_scan::marks::light` meets its contract. Assumes nothing.
use Rattle.std.proofs.Common.{ℕ, arith, rules, tests}
use Rattle.std.proofs.lemmas.Iterator.{YieldsList-from_slice}
use Rattle.std.proofs.lemmas.Iterator.Search.{all_from_yields_List}
use Rattle.aspif_scan.proofs.Laws.{light_all}
use lib.Dec.{leb}
use lib.ListN.{take, drop}
use mathlib.Core.Path.{◌∙◌}
use Rattle.aspif_scan.proofs.marks.light.Goals as goal

pub returns : goal.returns
returns c =
    all_from_yields_List (λ (w : ℕ). leb w 65535) _ _ _ c.all.ensures.ran (YieldsList-from_slice (take 256 (drop 1024 c.args.marks.now)) c.iter.ensures.rest) (λ x b q k. search (rules, tests))
    ∙ light_all c.args.marks.now 1024 256 (omega arith)
