-- `depend::cycles::makes_arcs` meets its contract. Assumes nothing.
use mathlib.Core.Path.{ap, ap₂, ◌∙◌}
use mathlib.Core.Bool.{◌&&◌}
use mathlib.Core.List.{List}
use lib.IntN.{ℤ, nat_abs}
use Rattle.layout.specs.Layout.{part_at, pos_at, rule_at}
use Rattle.depend.specs.Cycles.{full}
use Rattle.depend.proofs.Skipped.{full_both}
use Rattle.depend.proofs.cycles.makes_arcs.Goals as goal

pub returns : goal.returns
unfolding rule_at
returns c =
    let t = c.args.t.now in
    let at = c.args.at in
    c.linked.ensures
    ∙ ap₂ (λ (l m : List ℤ). full l && full m) c.part-head.ensures (c.part-body.ensures ∙ ap (part_at t) c.past-place.ensures)
    ∙ full_both nat_abs (part_at t at) (part_at t (pos_at t at))
