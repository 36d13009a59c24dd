-- `aspif_scan::kind::same` meets its contract. Assumes nothing.
use Rattle.aspif_scan.proofs.Laws.{same_pointwise}
use mathlib.Core.Path.{◌∙◌}
use Rattle.aspif_scan.proofs.kind.same.Goals as goal

pub returns : goal.returns
returns c = c.eq.ensures ∙ same_pointwise c.args.text.now c.args.other.now
