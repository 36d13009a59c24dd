-- `literals::aggregates::aggregate_value` meets its contract. Assumes nothing.
use mathlib.Core.Path.{sym, ap, ◌∙◌}
use mathlib.Core.Bool.{Bool}
use Rattle.interpretation.specs.View.{valued}
use Rattle.meaning.specs.declared.Function.TheVariants.{Count, Sum, Min, Max}
use Rattle.layout.specs.Layout.{pairs}
use Rattle.valuing.specs.Values.{asks_each}
use Rattle.literals.specs.Elements.{marks_of, marks_value}
use Rattle.literals.proofs.Pairs.{ranged}
use Rattle.literals.proofs.Amounts.{found_at}
use Rattle.literals.proofs.aggregates.aggregate_value.Goals as goal

pub totals_value-requires : goal.totals_value-requires
totals_value-requires c = ranged c.args.t.now c.args.at c.requires _ c.pairs-w.ensures

pub totals_value-requires-in-Sum-default : goal.totals_value-requires-in-Sum-default
totals_value-requires-in-Sum-default c = ranged c.args.t.now c.args.at c.requires _ c.pairs-w.ensures

pub some_value-requires : goal.some_value-requires
some_value-requires c = ranged c.args.t.now c.args.at c.requires _ c.pairs-w.ensures

pub each_value-requires : goal.each_value-requires
each_value-requires c = ranged c.args.t.now c.args.at c.requires _ c.pairs-w.ensures

pub each_value-requires-in-Max-Less : goal.each_value-requires-in-Max-Less
each_value-requires-in-Max-Less c = ranged c.args.t.now c.args.at c.requires _ c.pairs-w.ensures

pub some_value-requires-in-Max-Greater : goal.some_value-requires-in-Max-Greater
some_value-requires-in-Max-Greater c = ranged c.args.t.now c.args.at c.requires _ c.pairs-w.ensures

pub returns-in-Count-default : goal.returns-in-Count-default
returns-in-Count-default c =
    c.totals_value.ensures
    ∙ found_at (valued c.args.values.now) c.args.t.now c.args.at Count _ _ _ (sym c.in-Count-default.is-0 ∙ c.function.ensures) c.comparison-c.ensures c.limit-k.ensures c.pairs-w.ensures

pub returns-in-Sum-default : goal.returns-in-Sum-default
returns-in-Sum-default c =
    c.totals_value-in-Sum-default.ensures
    ∙ found_at (valued c.args.values.now) c.args.t.now c.args.at Sum _ _ _ (sym c.in-Sum-default.is-0 ∙ c.function.ensures) c.comparison-c.ensures c.limit-k.ensures c.pairs-w.ensures

-- which question is asked of min and of max

pub returns-in-Min-Less : goal.returns-in-Min-Less
returns-in-Min-Less c =
    c.some_value.ensures
    ∙ ap (λ (b : Bool). marks_value b (marks_of c.comparison-c.result c.limit-k.result (valued c.args.values.now) (pairs c.pairs-w.result.now))) (sym (ap (asks_each Min) c.in-Min-Less.is-1))
    ∙ found_at (valued c.args.values.now) c.args.t.now c.args.at Min _ _ _ (sym c.in-Min-Less.is-0 ∙ c.function.ensures) c.comparison-c.ensures c.limit-k.ensures c.pairs-w.ensures

pub returns-in-Min-Greater : goal.returns-in-Min-Greater
returns-in-Min-Greater c =
    c.each_value.ensures
    ∙ ap (λ (b : Bool). marks_value b (marks_of c.comparison-c.result c.limit-k.result (valued c.args.values.now) (pairs c.pairs-w.result.now))) (sym (ap (asks_each Min) c.in-Min-Greater.is-1))
    ∙ found_at (valued c.args.values.now) c.args.t.now c.args.at Min _ _ _ (sym c.in-Min-Greater.is-0 ∙ c.function.ensures) c.comparison-c.ensures c.limit-k.ensures c.pairs-w.ensures

pub returns-in-Max-Less : goal.returns-in-Max-Less
returns-in-Max-Less c =
    c.each_value-in-Max-Less.ensures
    ∙ ap (λ (b : Bool). marks_value b (marks_of c.comparison-c.result c.limit-k.result (valued c.args.values.now) (pairs c.pairs-w.result.now))) (sym (ap (asks_each Max) c.in-Max-Less.is-1))
    ∙ found_at (valued c.args.values.now) c.args.t.now c.args.at Max _ _ _ (sym c.in-Max-Less.is-0 ∙ c.function.ensures) c.comparison-c.ensures c.limit-k.ensures c.pairs-w.ensures

pub returns-in-Max-Greater : goal.returns-in-Max-Greater
returns-in-Max-Greater c =
    c.some_value-in-Max-Greater.ensures
    ∙ ap (λ (b : Bool). marks_value b (marks_of c.comparison-c.result c.limit-k.result (valued c.args.values.now) (pairs c.pairs-w.result.now))) (sym (ap (asks_each Max) c.in-Max-Greater.is-1))
    ∙ found_at (valued c.args.values.now) c.args.t.now c.args.at Max _ _ _ (sym c.in-Max-Greater.is-0 ∙ c.function.ensures) c.comparison-c.ensures c.limit-k.ensures c.pairs-w.ensures
