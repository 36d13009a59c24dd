-- `rules::literals_ask` meets its contract: what the chain finds of the indices in order is what the literals ask, one by one.
-- Assumes nothing.
use mathlib.Core.Path.{◌≡◌, sym, ap, ◌∙◌}
use mathlib.Core.Bool.{Bool, cond}
use Rattle.std.proofs.Common.{rules, length, map}
use native.Mathlib.Omega.{arith}
use Rattle.std.proofs.lemmas.Iterator.{YieldsList-from_range}
use Rattle.std.proofs.lemmas.Iterator.Search.{all_from_yields_List}
use Rattle.std.specs.List.{list_all, range_with_len}
use Rattle.interpretation.specs.View.{valued}
use Rattle.valuing.specs.Values.{agg_lit}
use Rattle.layout.specs.Layout.{literal_of}
use Rattle.rules.specs.declared.Step.TheVariants.{Nothing, Conflict}
use Rattle.rules.proofs.Asks.{asks_literals}
use Rattle.rules.proofs.Scanned.{true_at, all_true_at}
use Rattle.rules.proofs.literals_ask.Goals as goal

pub returns-then-all : goal.returns-then-all
returns-then-all c =
    let a = c.args in
    let n = length a.l.now in
    let found : c.all.result ≡ list_all (true_at (literal_of a.t.now.words.now) agg_lit (valued a.values.now) a.l.now) (range_with_len 0 n) =
    all_from_yields_List (true_at (literal_of a.t.now.words.now) agg_lit (valued a.values.now) a.l.now) _ _ _ c.all.ensures.ran (YieldsList-from_range 0 n n (cc) (omega arith)) (λ x b q k. search rules) in
    ap (λ (b : Bool). cond b Conflict Nothing) (sym c.if-all.true ∙ found ∙ all_true_at (literal_of a.t.now.words.now) agg_lit (valued a.values.now) a.l.now)
    ∙ sym (asks_literals (valued a.values.now) (map (literal_of a.t.now.words.now) a.l.now))

pub returns-else-all : goal.returns-else-all
returns-else-all c =
    let a = c.args in
    let n = length a.l.now in
    let found : c.all.result ≡ list_all (true_at (literal_of a.t.now.words.now) agg_lit (valued a.values.now) a.l.now) (range_with_len 0 n) =
    all_from_yields_List (true_at (literal_of a.t.now.words.now) agg_lit (valued a.values.now) a.l.now) _ _ _ c.all.ensures.ran (YieldsList-from_range 0 n n (cc) (omega arith)) (λ x b q k. search rules) in
    ap (λ (b : Bool). cond b Conflict Nothing) (sym c.if-all.false ∙ found ∙ all_true_at (literal_of a.t.now.words.now) agg_lit (valued a.values.now) a.l.now)
    ∙ sym (asks_literals (valued a.values.now) (map (literal_of a.t.now.words.now) a.l.now))
