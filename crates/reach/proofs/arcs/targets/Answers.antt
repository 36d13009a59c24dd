-- `reach::arcs::targets` meets its contract. Assumes nothing.
use mathlib.Core.Path.{◌≡◌, sym, ap, ◌∙◌}
use mathlib.Core.Bool.{Bool}
use mathlib.Core.List.{List}
use lib.IntN.{ℤ}
use Rattle.levels.specs.Levels.{union}
use Rattle.levels.specs.View.{row}
use Rattle.layout.specs.Layout.{part_at, pos_at, aggs_at, rule_at}
use Rattle.reach.specs.Arcs.{targets, listed, literals}
use Rattle.reach.proofs.Graph.{targets_plain, targets_added}
use Rattle.reach.proofs.arcs.targets.Goals as goal

pub returns-then-added : goal.returns-then-added
returns-then-added c =
    let words : let a = c.args in c.part-l.result.now ≡ part_at a.t.now.words.now (aggs_at a.t.now.words.now a.at) = c.part-l.ensures ∙ ap (part_at c.args.t.now.words.now) c.literals_at-literals.ensures in
    let body : let a = c.args in c.part-body.result.now ≡ part_at a.t.now.words.now (pos_at a.t.now.words.now a.at) = c.part-body.ensures ∙ ap (part_at c.args.t.now.words.now) c.past-positive.ensures in
    let positives : let a = c.args in
    row c.with_atoms-plain.result ≡ union (listed (part_at a.t.now.words.now (pos_at a.t.now.words.now a.at))) (row a.set) = c.with_atoms-plain.ensures ∙ ap (λ (l : List ℤ). union (listed l) (row c.args.set)) (body) in
    let a = c.args in
    let t = a.t.now.words.now in
    c.with_literals.ensures ∙ ap (λ (l : List ℤ). union (literals t l) (row c.with_atoms-plain.result)) (words)
    ∙ ap (union (literals t (part_at t (aggs_at t a.at)))) (positives) ∙ targets_added t a.at (row a.set)
    ∙ ap (λ (b : Bool). union (targets b (rule_at t a.at)) (row a.set)) (sym c.if-added.true)

pub returns : goal.returns
returns c =
    let body : let a = c.args in c.part-body.result.now ≡ part_at a.t.now.words.now (pos_at a.t.now.words.now a.at) = c.part-body.ensures ∙ ap (part_at c.args.t.now.words.now) c.past-positive.ensures in
    let positives : let a = c.args in
    row c.with_atoms-plain.result ≡ union (listed (part_at a.t.now.words.now (pos_at a.t.now.words.now a.at))) (row a.set) = c.with_atoms-plain.ensures ∙ ap (λ (l : List ℤ). union (listed l) (row c.args.set)) (body) in
    let a = c.args in
    let t = a.t.now.words.now in
    positives ∙ targets_plain t a.at (row a.set) ∙ ap (λ (b : Bool). union (targets b (rule_at t a.at)) (row a.set)) (sym c.if-added.false)
