-- `solver::plans::report` meets its contract: each ending is one case of the result, and only an answer writes. Assumes nothing.
use mathlib.Core.Path.{sym, ap, ◌∙◌}
use Rattle.meaning.specs.Aggregates.{Atoms}
use Rattle.interpretation.specs.State.{true_atoms}
use Rattle.interpretation.specs.View.{cells}
use Rattle.outcome.specs.declared.Ending.{Ending}
use Rattle.jumping.specs.Jumping.{result_of}
use Rattle.jumping.proofs.Plans.{plan_alone}
use Rattle.promises.specs.Plans.{plan_with}
use Rattle.promises.specs.Promises.{plan_after, solved_by}
use Rattle.solver.proofs.plans.report.Goals as goal

pub returns-in-Answer : goal.returns-in-Answer
returns-in-Answer c =
    let a = c.args in
    let i = a.found.it in
    let X = true_atoms a.n (cells i.values i.records) in (
      sym (ap (λ (x : Ending). solved_by (result_of x X) (record { choices = a.found.choices; skips = a.found.skips; passes = a.found.passes })) c.in-Answer.is),
      c.write.ensures ∙ ap (λ (Y : Atoms). plan_with a.n Y a.plan.now) (sym (plan_alone a.n i.values i.records))
          ∙ sym (ap (λ (x : Ending). plan_after a.n (result_of x X) a.plan.now) c.in-Answer.is),
    )
