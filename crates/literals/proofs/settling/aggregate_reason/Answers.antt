-- `literals::settling::aggregate_reason` meets its contract. Assumes nothing.
use mathlib.Core.Path.{sym, ap, ◌∙◌}
use mathlib.Core.Bool.{Bool, not}
use Rattle.meaning.specs.declared.Function.TheVariants.{Count, Sum, Min, Max}
use Rattle.levels.specs.View.{row, rows}
use Rattle.interpretation.specs.View.{valued}
use Rattle.layout.specs.Layout.{pairs}
use Rattle.literals.specs.Settled.{single_of}
use Rattle.literals.proofs.Pairs.{ranged}
use Rattle.literals.proofs.Blamed.{max_each, blamed_at}
use Rattle.literals.proofs.settling.aggregate_reason.Goals as goal

pub adds_reason-requires : goal.adds_reason-requires
adds_reason-requires c = ranged c.args.t.now c.args.at c.requires _ c.pairs-w.ensures

pub adds_reason-requires-in-Sum : goal.adds_reason-requires-in-Sum
adds_reason-requires-in-Sum c = ranged c.args.t.now c.args.at c.requires _ c.pairs-w.ensures

pub single_reason-requires : goal.single_reason-requires
single_reason-requires c = ranged c.args.t.now c.args.at c.requires _ c.pairs-w.ensures

pub single_reason-requires-in-Max : goal.single_reason-requires-in-Max
single_reason-requires-in-Max c = ranged c.args.t.now c.args.at c.requires _ c.pairs-w.ensures

pub returns-in-Count : goal.returns-in-Count
returns-in-Count c =
    let a = c.args in
    c.adds_reason.ensures ∙ blamed_at (valued a.values.now) (rows a.reasons.now) (row a.more) a.t.now a.at Count _ _ _ c.requires (sym c.in-Count.is ∙ c.function.ensures) c.comparison-c.ensures c.limit-k.ensures c.pairs-w.ensures

pub returns-in-Sum : goal.returns-in-Sum
returns-in-Sum c =
    let a = c.args in
    c.adds_reason-in-Sum.ensures ∙ blamed_at (valued a.values.now) (rows a.reasons.now) (row a.more) a.t.now a.at Sum _ _ _ c.requires (sym c.in-Sum.is ∙ c.function.ensures) c.comparison-c.ensures c.limit-k.ensures c.pairs-w.ensures

pub returns-in-Min : goal.returns-in-Min
returns-in-Min c =
    let a = c.args in
    c.single_reason.ensures
    ∙ ap (λ (x : Bool). single_of x c.comparison-c.result c.limit-k.result (valued a.values.now) (rows a.reasons.now) (pairs c.pairs-w.result.now) (row a.more)) c.above.ensures
    ∙ blamed_at (valued a.values.now) (rows a.reasons.now) (row a.more) a.t.now a.at Min _ _ _ c.requires (sym c.in-Min.is ∙ c.function.ensures) c.comparison-c.ensures c.limit-k.ensures c.pairs-w.ensures

pub returns-in-Max : goal.returns-in-Max
returns-in-Max c =
    let a = c.args in
    c.single_reason-in-Max.ensures
    ∙ ap (λ (x : Bool). single_of x c.comparison-c.result c.limit-k.result (valued a.values.now) (rows a.reasons.now) (pairs c.pairs-w.result.now) (row a.more)) (ap not c.above-in-Max.ensures ∙ max_each c.comparison-c.result)
    ∙ blamed_at (valued a.values.now) (rows a.reasons.now) (row a.more) a.t.now a.at Max _ _ _ c.requires (sym c.in-Max.is ∙ c.function.ensures) c.comparison-c.ensures c.limit-k.ensures c.pairs-w.ensures
