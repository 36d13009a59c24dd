-- `second_search::propagate` meets its contract. The invariant of its loop: the passes that are left come, from the arrays at hand, to what all passes come to, up
-- to reasons. Assumes nothing.
use borrow.Author.Tests.{not-true, not-false}
use lib.IntN.{ℤ}
use Prim.Native.Nat.{ℕ, suc, ◌+◌, ◌-◌}
use native.Mathlib.Omega.{arith}
use mathlib.Core.Path.{◌≡◌, sym, subst}
use mathlib.Core.Bool.{true, false}
use mathlib.Core.List.{List, map}
use Rattle.meaning.specs.Program.{Program}
use Rattle.meaning.specs.Answers.{reduct}
use Rattle.interpretation.specs.State.{true_atoms}
use Rattle.interpretation.specs.View.{valued}
use Rattle.layout.specs.Layout.{rule_at}
use Rattle.steps.specs.Steps.{Work, passes}
use Rattle.second_search.specs.Looking.{Like, cells_at, work_of}
use Rattle.second_search.proofs.Walking.{pass_conflict, pass_rests, pass_again}
use Rattle.second_search.proofs.propagate.Goals as goal

-- the reduct
abbrev R : List ℤ → List ℕ → ℕ → List ℕ → Program
R t places n candidate = reduct (map (rule_at t) places) (true_atoms n (valued candidate))

pub returns-then-made : goal.returns-then-made
returns-then-made c =
    let a = c.args in
    let s = c.rule_steps-made.result in
    let w : Work = work_of a.level (cells_at c.loop-pass.values c.loop-pass.levels) c.loop-pass.changed false in
    (c.rule_steps-made.ensures.0, pass_conflict (R a.t.now.words.now a.places.now a.t.now.places.atoms a.candidate.now) (suc a.t.now.places.atoms - c.loop-pass._pass) w _ (omega (arith, c.loop-pass-test.true)) c.loop-pass.invariant.1 a.level _ s.changed s.conflict c.rule_steps-made.ensures.1 c.if-made.true)

pub returns-then-not-made : goal.returns-then-not-made
returns-then-not-made c =
    let a = c.args in
    let s = c.rule_steps-made.result in
    let w : Work = work_of a.level (cells_at c.loop-pass.values c.loop-pass.levels) c.loop-pass.changed false in
    (c.rule_steps-made.ensures.0, pass_rests (R a.t.now.words.now a.places.now a.t.now.places.atoms a.candidate.now) (suc a.t.now.places.atoms - c.loop-pass._pass) w _ (omega (arith, c.loop-pass-test.true)) c.loop-pass.invariant.1 a.level _ s.changed s.conflict c.rule_steps-made.ensures.1 c.if-made.false (not-true _ c.if-not-made.true))

pub loop-pass-preserved : goal.loop-pass-preserved
loop-pass-preserved c =
    let a = c.args in
    let s = c.rule_steps-made.result in
    let w : Work = work_of a.level (cells_at c.loop-pass.values c.loop-pass.levels) c.loop-pass.changed false in
    let e : suc a.t.now.places.atoms - (c.loop-pass._pass + 1) ≡ suc a.t.now.places.atoms - c.loop-pass._pass - 1 = omega arith in
    (c.rule_steps-made.ensures.0, subst (λ (k : ℕ). Like (passes (R a.t.now.words.now a.places.now a.t.now.places.atoms a.candidate.now) 0 k (work_of a.level (cells_at c.rule_steps-made.new.values c.rule_steps-made.new.levels) true false)) (passes (R a.t.now.words.now a.places.now a.t.now.places.atoms a.candidate.now) 0 (suc a.t.now.places.atoms) (work_of a.level (cells_at a.values.now a.levels.now) false false))) (sym e) (pass_again (R a.t.now.words.now a.places.now a.t.now.places.atoms a.candidate.now) (suc a.t.now.places.atoms - c.loop-pass._pass) w _ (omega (arith, c.loop-pass-test.true)) c.loop-pass.invariant.1 a.level _ s.changed s.conflict c.rule_steps-made.ensures.1 c.if-made.false (not-false _ c.if-not-made.false)))
