-- `support::first_support` meets its contract: the chain's first hit, or the length where there is none, is how many come before it. Assumes nothing.
use mathlib.Core.Path.{◌≡◌, ◌∙◌}
use mathlib.Core.Bool.{true, false}
use Prim.Native.Nat.{ℕ}
use Rattle.std.proofs.Common.{rules}
use Rattle.std.proofs.lemmas.Iterator.{YieldsList-from_slice, IsFirst-from_position}
use Rattle.std.proofs.lemmas.Iterator.Adapters.{serves_from_places}
use Rattle.meaning.specs.Lists.{has}
use Rattle.interpretation.specs.View.{valued}
use Rattle.layout.specs.Layout.{Laid, RuleLies, rule_at}
use Rattle.support.specs.Asking.{supports_of}
use Rattle.support.proofs.Rounds.{candidate_at, skipped_by}
use Rattle.support.proofs.first_support.Goals as goal

pub position-first-requires-clause-callable : goal.position-first-requires-clause-callable
position-first-requires-clause-callable c =
    let a = c.args in
    serves_from_places (YieldsList-from_slice a.l.now (cc)) (λ x q k. search rules)
    (λ x k h e.
    let laid : Laid a.t.now.words.now a.t.now.places = c.args.t.now.laid in
    let r : RuleLies a.t.now.places.atoms a.t.now.places.aggregates a.t.now.words.now x.now × (has a.p (rule_at a.t.now.words.now x.now).head ≡ true) = candidate_at a.t.now.words.now a.t.now.places a.p a.l.now c.requires k x.now h e in
    search rules)

pub returns : goal.returns
returns c =
    let a = c.args in
    let f = supports_of (valued a.values.now) a.p in
    c.unwrap_or.ensures
    ∙ skipped_by f a.t.now.words.now a.l.now c.position-first.result
    (IsFirst-from_position _ _ _ (λ (i : ℕ). f (rule_at a.t.now.words.now i) ≡ true) (λ (i : ℕ). f (rule_at a.t.now.words.now i) ≡ false) c.position-first.ensures.ran (YieldsList-from_slice a.l.now (cc))
    (λ x q k. search rules) (λ x q k. search rules))
