-- `plain::solve` meets its contract: the judge's refusal, or the report of the defined plain search on the accepted table. Assumes nothing.
use mathlib.Core.Path.{refl}
use native.Mathlib.Omega.{arith}
use mathlib.Core.Bool.{false}
use lib.ListN.{length, replicate}
use Rattle.table.proofs.Returned.{ends}
use Rattle.judging.specs.declared.Buffer.TheVariants.{Plan}
use Rattle.judging.proofs.Judged.{plan_wide, judged_refused, judged_taken}
use Rattle.layout.proofs.Inside.{atoms_in_lem}
use Rattle.plain.specs.declared.passes.Side.{Side}
use Rattle.plain.proofs.Sides.{tried}
use Rattle.plain.proofs.Entry.{plainly_refused, plainly_found}
use Rattle.plain.proofs.solve.Goals as goal

pub invariant_of-t : goal.invariant_of-t
invariant_of-t c =
    record { laid = (judged_taken c.args.words.now (Plan (length c.args.plan.now)) c.judge_in.result c.in_ok-places.places c.judge_in.ensures.0 c.in_ok-places.was).2.laid }

pub propagate-side-requires : goal.propagate-side-requires
propagate-side-requires c =
    ((c.judge_in.ensures.1 c.in_ok-places.places c.in_ok-places.was).listed, refl)

pub choose-requires : goal.choose-requires
choose-requires c =
    let x = judged_taken c.args.words.now (Plan (length c.args.plan.now)) c.judge_in.result c.in_ok-places.places c.judge_in.ensures.0 c.in_ok-places.was in
    let f = x.2.laid.few_atoms in
    let w = plan_wide _ x.1.buffer in
    let n = c.propagate-side.ensures.kept in
    record { laid = x.2.laid; whole = c.judge_in.ensures.1 c.in_ok-places.places c.in_ok-places.was; few = omega (arith, n); room = omega (arith, f, w) }

pub returns-in_err-places : goal.returns-in_err-places
returns-in_err-places c =
    let a = c.args in
    let f = c.in_err-places.field-0.0 in
    plainly_refused a.words.now a.ask a.plan.now a.plan.now c.from_residual.result f
    (judged_refused a.words.now (Plan (length a.plan.now)) c.judge_in.result f c.judge_in.ensures.0 c.in_err-places.was) (ends c.from_residual.result f c.from_residual.ensures.1) refl

-- nothing is defined at the start
abbrev start : Side
start = record { values = replicate 256 0; choices = 0; changed = false; conflict = false }

pub returns : goal.returns
returns c =
    let a = c.args in
    let x = judged_taken a.words.now (Plan (length a.plan.now)) c.judge_in.result c.in_ok-places.places c.judge_in.ensures.0 c.in_ok-places.was in
    plainly_found a.words.now a.ask a.plan.now _ c.choose.result x.0 x.1 c.in_ok-places.places x.2 start refl refl
    (tried a.ask.cycles a.words.now c.in_ok-places.places a.ask.limit start c.propagate-side.result refl c.propagate-side.ensures (atoms_in_lem a.words.now c.in_ok-places.places x.2.laid) a.plan.now _ c.choose.result c.choose.ensures)
