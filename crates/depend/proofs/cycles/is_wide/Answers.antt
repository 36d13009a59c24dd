-- `depend::cycles::is_wide` meets its contract. Assumes nothing.
use mathlib.Core.Path.{ap, ◌∙◌}
use mathlib.Core.List.{List}
use lib.IntN.{ℤ}
use Rattle.layout.specs.Layout.{atoms, rule_at}
use Rattle.depend.specs.Cycles.{more}
use Rattle.depend.proofs.Skipped.{more_length}
use Rattle.depend.proofs.cycles.is_wide.Goals as goal

pub returns : goal.returns
unfolding rule_at
returns c = more_length c.part-head.result.now ∙ ap (λ (l : List ℤ). more (atoms l)) c.part-head.ensures
