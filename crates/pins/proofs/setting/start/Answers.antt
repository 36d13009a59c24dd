-- `pins::setting::start` meets its contract. Assumes nothing.
use mathlib.Core.Path.{ap, ◌∙◌}
use mathlib.Core.Bool.{Bool}
use Prim.Native.Nat.{ℕ}
use native.Mathlib.Omega.{arith}
use Rattle.interpretation.specs.View.{view}
use Rattle.pins.specs.Memory.{atom_as, word_at}
use Rattle.pins.specs.Setting.{set_pin}
use Rattle.pins.proofs.Words.{number_small}
use Rattle.pins.proofs.Starting.{start_none, start_more}
use Rattle.pins.proofs.setting.start.Goals as goal

pub loop-i-init : goal.loop-i-init
loop-i-init c = let a = c.args in c.start-it.ensures ∙ start_none a.n a.s.now

pub atom_at-p-requires : goal.atom_at-p-requires
atom_at-p-requires c =
    let e = c.number-held.ensures in
    let l = number_small c.args.s.now 16385 64 in
    (omega arith, c.requires.1)

pub value_at-v-requires : goal.value_at-v-requires
value_at-v-requires c =
    let e = c.number-held.ensures in
    let l = number_small c.args.s.now 16385 64 in
    (omega arith, c.requires.1)

pub loop-i-preserved : goal.loop-i-preserved
loop-i-preserved c =
    let a = c.args in
    let e = c.number-held.ensures in
    let l = number_small a.s.now 16385 64 in
    c.set-it.ensures
    ∙ ap (λ (p : ℕ). set_pin a.n p c.value_at-v.result (view c.loop-i.it)) c.atom_at-p.ensures
    ∙ ap (λ (v : Bool). set_pin a.n (atom_as (word_at a.s.now c.loop-i.i)) v (view c.loop-i.it)) c.value_at-v.ensures
    ∙ start_more a.n a.s.now c.loop-i.i (omega arith) (view c.loop-i.it) c.loop-i.invariant
