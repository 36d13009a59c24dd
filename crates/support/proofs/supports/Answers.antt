-- `support::supports` meets its contract: a rule with p in its head supports it if it has no witness. Assumes nothing.
use mathlib.Core.Path.{sym, ap, ◌∙◌}
use mathlib.Core.Bool.{Bool, ◌&&◌}
use Rattle.meaning.specs.Lists.{has}
use Rattle.interpretation.specs.View.{valued}
use Rattle.layout.proofs.Inside.{rule_in_lem}
use Rattle.support.specs.Asking.{witness_at, is_nobody}
use Rattle.support.proofs.Witnesses.{rule_head, supports_at, none_nobody}
use Rattle.support.proofs.supports.Goals as goal

pub returns : goal.returns
returns c =
    let a = c.args in
    let x = valued a.values.now in
    none_nobody c.is_none.result c.witness_of.result c.is_none.ensures
    ∙ ap is_nobody c.witness_of.ensures
    ∙ sym (ap (λ (b : Bool). b && is_nobody (witness_at x a.t.now.words.now a.p a.at)) (ap (has a.p) (sym (rule_head a.t.now.places.atoms a.t.now.words.now a.at x)) ∙ c.requires.1))
    ∙ sym (supports_at a.t.now.places.atoms a.t.now.words.now a.at x (rule_in_lem a.t.now.words.now a.t.now.places c.args.t.now.laid a.at c.requires.0) a.p)
