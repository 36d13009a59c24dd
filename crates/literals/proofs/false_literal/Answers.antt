-- `literals::false_literal` meets its contract. Assumes nothing.
use mathlib.Core.Path.{◌≡◌, sym, ◌∙◌}
use mathlib.Core.Bool.{true, false}
use borrow.Author.Rules.{rules}
use Rattle.interpretation.specs.View.{valued}
use Rattle.valuing.specs.Values.{agg_lit, says_false}
use Rattle.layout.specs.Layout.{literal_of}
use Rattle.literals.proofs.Walks.{walk_on, walk_false, walk_end}
use Rattle.literals.proofs.false_literal.Goals as goal

pub returns-then-eq : goal.returns-then-eq
returns-then-eq c =
    let a = c.args in
    let e : says_false c.literal_value.result ≡ true = search rules in
    sym (walk_false (literal_of a.t.now.words.now) agg_lit (valued a.values.now) a.l.now c.loop-k.k c.loop-k-test.true _ c.literal_value.ensures e) ∙ c.loop-k.invariant

pub loop-k-preserved : goal.loop-k-preserved
loop-k-preserved c =
    let a = c.args in
    let e : says_false c.literal_value.result ≡ false = search rules in
    sym (walk_on (literal_of a.t.now.words.now) agg_lit (valued a.values.now) a.l.now c.loop-k.k c.loop-k-test.true _ c.literal_value.ensures e) ∙ c.loop-k.invariant

pub returns : goal.returns
returns c =
    let a = c.args in
    sym (walk_end (literal_of a.t.now.words.now) agg_lit (valued a.values.now) a.l.now c.loop-k.k c.loop-k-test.false) ∙ c.loop-k.invariant
