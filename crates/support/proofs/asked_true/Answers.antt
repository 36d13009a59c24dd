-- `support::asked_true` meets its contract. Assumes nothing.
use mathlib.Core.Path.{sym, ap, ◌∙◌}
use mathlib.Core.List.{List}
use Prim.Native.Nat.{ℕ, ◌+◌}
use native.Mathlib.Numerals.{add-one}
use lib.ListN.{get_or, drop}
use Rattle.interpretation.specs.View.{valued}
use Rattle.layout.specs.Layout.{rule_at}
use Rattle.heads.proofs.Walks.{from_on}
use Rattle.support.specs.Asking.{supports_of, some_rule, forced_of, sole_by}
use Rattle.support.proofs.Rounds.{true_at, true_none}
use Rattle.support.proofs.asked_true.Goals as goal

pub returns-then-k-l : goal.returns-then-k-l
returns-then-k-l c =
    let a = c.args in
    let k = c.first_support-k.result in
    let f = supports_of (valued a.values.now) a.p in
    let x = valued a.values.now in
    c.sole.ensures
    ∙ ap (λ (m : List ℕ). sole_by (get_or a.l.now k 0) (some_rule f a.t.now.words.now m) (forced_of x (rule_at a.t.now.words.now (get_or a.l.now k 0)))) (from_on (k + 1) a.l.now)
    ∙ ap (λ (j : ℕ). sole_by (get_or a.l.now k 0) (some_rule f a.t.now.words.now (drop j a.l.now)) (forced_of (valued a.values.now) (rule_at a.t.now.words.now (get_or a.l.now k 0)))) (add-one k)
    ∙ sym (true_at f a.t.now.words.now (forced_of (valued a.values.now)) a.l.now k (sym c.first_support-k.ensures) c.if-k-l.true)

pub returns : goal.returns
returns c =
    let a = c.args in
    let f = supports_of (valued a.values.now) a.p in
    sym (true_none f a.t.now.words.now (forced_of (valued a.values.now)) a.l.now (rw (sym c.first_support-k.ensures) c.if-k-l.false))
