-- `pins::setting::set` meets its contract. Assumes nothing.
use mathlib.Core.Path.{◌≡◌, sym, ap, ◌∙◌}
use mathlib.Core.Bool.{Bool, cond, ◌&&◌}
use Rattle.meaning.specs.Cycles.{inside}
use Rattle.interpretation.specs.State.{set_at}
use Rattle.interpretation.specs.View.{view}
use Rattle.pins.specs.Setting.{is_free}
use Rattle.pins.proofs.Starting.{undefined_alone}
use Rattle.pins.proofs.setting.set.Goals as goal

pub returns-then-not-free : goal.returns-then-not-free
returns-then-not-free c =
    let freed : let a = c.args in c.free.result ≡ is_free a.n (view a.it).cell a.p = let a = c.args in c.free.ensures ∙ ap (λ (b : Bool). inside a.n a.p && b) (undefined_alone a.it.values a.it.records a.p) in
    let a = c.args in
    sym (ap (λ (b : Bool). cond b (set_at a.p a.v (view a.it)) (view a.it)) (sym freed ∙ c.if-not-free.true))

pub returns : goal.returns
returns c =
    let freed : let a = c.args in c.free.result ≡ is_free a.n (view a.it).cell a.p = let a = c.args in c.free.ensures ∙ ap (λ (b : Bool). inside a.n a.p && b) (undefined_alone a.it.values a.it.records a.p) in
    let a = c.args in
    c.put.ensures ∙ sym (ap (λ (b : Bool). cond b (set_at a.p a.v (view a.it)) (view a.it)) (sym freed ∙ c.if-not-free.false))
