-- `depend::cycles::adds_arcs` meets its contract. Assumes nothing.
use mathlib.Core.Path.{ap, ap₂, ◌∙◌}
use mathlib.Core.Bool.{◌&&◌}
use mathlib.Core.List.{List}
use lib.IntN.{ℤ}
use Rattle.layout.specs.Layout.{part_at, aggs_at, literal_of, rule_at}
use Rattle.depend.specs.Cycles.{full}
use Rattle.depend.proofs.Skipped.{full_both}
use Rattle.depend.proofs.cycles.adds_arcs.Goals as goal

pub returns : goal.returns
unfolding rule_at
returns c =
    let t = c.args.t.now in
    let at = c.args.at in
    c.linked.ensures
    ∙ ap₂ (λ (l m : List ℤ). full l && full m) c.part-head.ensures (c.part-l.ensures ∙ ap (part_at t) c.literals_at-place.ensures)
    ∙ full_both (literal_of t) (part_at t at) (part_at t (aggs_at t at))
