-- `depend::cycles::closes` meets its contract: the heads, or the heads and the aggregate literals. Assumes nothing.
use mathlib.Core.Path.{sym, ap, ◌∙◌}
use mathlib.Core.Bool.{Bool}
use mathlib.Core.List.{List, map}
use lib.IntN.{ℤ}
use Rattle.layout.specs.Layout.{part_at, atoms, literal_of, rule_at}
use Rattle.depend.specs.Circles.{alike}
use Rattle.depend.specs.Cycles.{crossed, returned, closes}
use Rattle.depend.proofs.cycles.closes.Goals as goal

pub returns-then-not-added : goal.returns-then-not-added
unfolding rule_at
returns-then-not-added c =
    let a = c.args in
    let X = alike a.names.now in
    c.crossed.ensures
    ∙ ap (λ (l : List ℤ). crossed X (atoms l)) c.part-head.ensures
    ∙ ap (λ (b : Bool). closes b X (rule_at a.t.now.words.now a.at)) (sym c.if-not-added.true)

pub returns : goal.returns
unfolding rule_at
returns c =
    let a = c.args in
    let t = a.t.now.words.now in
    let X = alike a.names.now in
    c.head_reached.ensures
    ∙ ap (λ (l : List ℤ). returned X (atoms l) (map (literal_of t) c.part-l.result.now)) c.part-head.ensures
    ∙ ap (λ (l : List ℤ). returned X (atoms (part_at t a.at)) (map (literal_of t) l)) (c.part-l.ensures ∙ ap (part_at t) c.literals_at-place.ensures)
    ∙ ap (λ (b : Bool). closes b X (rule_at t a.at)) (sym c.if-not-added.false)
