-- `plain::passes::forced_by` meets its contract. The invariant of its loop: what step e makes of the pass at hand is like what it makes of the first one. The measure
-- is the number of undefined atoms.
-- Assumes nothing.
use native.Mathlib.Omega.{arith}
use mathlib.Core.Path.{◌≡◌, sym, ◌∙◌, subst}
use mathlib.Core.Option.{some}
use Rattle.meaning.specs.Program.{In}
use Rattle.levels.specs.Levels.{no_levels}
use Rattle.interpretation.specs.State.{undefined, defined, put}
use Rattle.interpretation.specs.View.{valued}
use Rattle.layout.specs.Layout.{rule_at}
use Rattle.layout.proofs.Inside.{rule_in_lem}
use Rattle.steps.specs.Steps.{Work, step_e}
use Rattle.support.proofs.Forcing.{forced_nothing, forced_set, forced_open}
use Rattle.plain.specs.Passes.{Like, work_of}
use Rattle.plain.proofs.Liking.{like_then, like_e}
use Rattle.plain.proofs.Undefined.{undefined_alike, undefined_put}
use Rattle.plain.proofs.passes.forced_by.Goals as goal

-- nothing is left to be set
pub returns : goal.returns
returns c =
    let a = c.args in
    let w = work_of c.loop-p.side in
    let r = rule_at a.t.now.words.now a.at in
    record {
      like = subst (λ (u : Work). Like u (step_e (some r) no_levels (work_of a.side))) (forced_nothing r no_levels w (sym c.forced.ensures ∙ c.in_default.is)) c.loop-p.invariant.0;
      kept = c.loop-p.invariant.1;
    }

pub set-side-requires : goal.set-side-requires
set-side-requires c =
    let aim : In c.args.t.now.places.atoms c.in-Some.p × (valued c.loop-p.side.values c.in-Some.p ≡ undefined) =
    let a = c.args in
    let p = c.requires in
    forced_open (rule_at a.t.now.words.now a.at) a.t.now.places.atoms (rule_in_lem a.t.now.words.now a.t.now.places c.args.t.now.laid a.at p) (valued c.loop-p.side.values) c.in-Some.p c.in-Some.v
    (sym c.forced.ensures ∙ c.in-Some.is) in
    let h = aim.0 in
    (h.0, omega (arith, h.1, c.args.t.now.laid.few_atoms))

pub loop-p-smaller : goal.loop-p-smaller
loop-p-smaller c =
    let aim : In c.args.t.now.places.atoms c.in-Some.p × (valued c.loop-p.side.values c.in-Some.p ≡ undefined) =
    let a = c.args in
    let p = c.requires in
    forced_open (rule_at a.t.now.words.now a.at) a.t.now.places.atoms (rule_in_lem a.t.now.words.now a.t.now.places c.args.t.now.laid a.at p) (valued c.loop-p.side.values) c.in-Some.p c.in-Some.v
    (sym c.forced.ensures ∙ c.in-Some.is) in
    let N = c.args.t.now.places.atoms in
    let h = aim in
    let q = c.in-Some.p in
    let v = c.in-Some.v in
    let vs = c.loop-p.side.values in
    let e = undefined_alike (valued c.set-side.result.values) (put q (defined v 0) (valued vs)) c.set-side.ensures.like.cells N in
    let l = undefined_put N (valued vs) q v 0 h.0 h.1 in
    omega (arith, e, l)

pub loop-p-preserved : goal.loop-p-preserved
loop-p-preserved c =
    let a = c.args in
    let r = rule_at a.t.now.words.now a.at in
    let w = work_of c.loop-p.side in
    let q = c.in-Some.p in
    let v = c.in-Some.v in (
      like_then (like_e (some r) no_levels no_levels c.set-side.ensures.like)
          (subst (λ (u : Work). Like u (step_e (some r) no_levels (work_of a.side))) (forced_set r no_levels w q v (sym c.forced.ensures ∙ c.in-Some.is)) c.loop-p.invariant.0),
      c.set-side.ensures.kept ∙ c.loop-p.invariant.1,
    )
