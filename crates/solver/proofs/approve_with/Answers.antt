-- `solver::approve_with` meets its contract: the judge's refusal, or the check of the offered plan. Assumes nothing.
use mathlib.Core.Path.{refl, ap, ◌∙◌}
use Prim.Native.Nat.{ℕ}
use lib.ListN.{length}
use Rattle.std.specs.Prelude.{Ok, Err}
use Rattle.meaning.specs.Program.{Program}
use Rattle.meaning.specs.Answers.{model}
use Rattle.layout.specs.Layout.{program_of}
use Rattle.table.proofs.Accepted.{accepted_atoms}
use Rattle.table.proofs.Returned.{ends}
use Rattle.judging.specs.declared.Buffer.TheVariants.{Plan}
use Rattle.judging.proofs.Judged.{plan_wide, judged_refused, judged_taken}
use Rattle.promises.specs.Plans.{plan_atoms}
use Rattle.solver.specs.Approving.{before}
use Rattle.solver.specs.Plans.{bad_from, passes_by, checked_by}
use Rattle.solver.proofs.Approved.{approving_refused, approving_accepted}
use Rattle.solver.proofs.approve_with.Goals as goal

pub invariant_of-t : goal.invariant_of-t
invariant_of-t c =
    record { laid = (judged_taken c.args.words.now (Plan (length c.args.plan.now)) (Ok c.in_ok-places.places) c.in_ok-places.places c.in_ok-places.ensures.0 refl).2.laid }

pub check-requires : goal.check-requires
check-requires c =
    let a = c.args in
    let tb = c.in_ok-places.places in
    let x = judged_taken a.words.now (Plan (length a.plan.now)) (Ok tb) tb c.in_ok-places.ensures.0 refl in
    (c.in_ok-places.ensures.1 tb refl, plan_wide _ x.1.buffer)

pub returns-in_err-places : goal.returns-in_err-places
returns-in_err-places c =
    let a = c.args in
    let f = c.in_err-places.field-0.0 in
    approving_refused a.cycles a.words.now a.plan.now c.from_residual.result f (before (judged_refused a.words.now (Plan (length a.plan.now)) (Err f) f c.in_err-places.ensures.0 refl))
    (ends _ _ c.from_residual.ensures.1)

pub returns : goal.returns
returns c =
    let a = c.args in
    let tb = c.in_ok-places.places in
    let x = judged_taken a.words.now (Plan (length a.plan.now)) (Ok tb) tb c.in_ok-places.ensures.0 refl in
    let d = x.0 in
    let p = x.2 in
    approving_accepted a.cycles a.words.now a.plan.now d x.1 (accepted_atoms a.words.now d x.1.holds) c.check.result
    (c.check.ensures
    ∙ ap (λ (n : ℕ). checked_by (bad_from a.plan.now 0 n) (model (program_of a.words.now tb) (plan_atoms n a.plan.now)) (passes_by a.cycles (program_of a.words.now tb) n (plan_atoms n a.plan.now))) p.atoms
    ∙ ap (λ (P : Program). checked_by (bad_from a.plan.now 0 d.atoms) (model P (plan_atoms d.atoms a.plan.now)) (passes_by a.cycles P d.atoms (plan_atoms d.atoms a.plan.now))) p.rules)
