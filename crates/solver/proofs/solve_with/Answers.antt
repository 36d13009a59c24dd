-- `solver::solve_with` meets its contract: the judge's refusal, or the report of the defined jumping search on the accepted table, with what explains its plan. Assumes
-- nothing.
use mathlib.Core.Path.{◌≡◌, refl, sym, ap, ◌∙◌, subst}
use Prim.Native.Nat.{ℕ}
use native.Mathlib.Omega.{arith}
use lib.ListN.{length}
use Rattle.std.specs.Prelude.{Ok, Err}
use Rattle.meaning.specs.Program.{Program}
use Rattle.meaning.specs.Answers.{AnswerSet}
use Rattle.layout.specs.Layout.{program_of}
use Rattle.heads.proofs.Taking.{whole_rules}
use Rattle.table.specs.Contents.{program}
use Rattle.table.proofs.Accepted.{accepted_atoms}
use Rattle.search.specs.Search.{jump, solve}
use Rattle.smaller.specs.Cyclic.{base_by}
use Rattle.jumping.specs.Jumping.{end_of}
use Rattle.judging.specs.declared.Buffer.TheVariants.{Plan}
use Rattle.judging.proofs.Judged.{plan_wide, judged_refused, judged_taken}
use Rattle.rounds.specs.Rounds.{why_of, Recorded}
use Rattle.promises.specs.Plans.{plan_atoms}
use Rattle.promises.specs.Promises.{plan_after}
use Rattle.solver.specs.Plans.{whys_by}
use Rattle.solver.proofs.Entry.{solving_refused, solving_accepted}
use Rattle.solver.proofs.Explained.{answer_ended, whys_written_by, explains_refused, explains_accepted}
use Rattle.solver.proofs.solve_with.Goals as goal

pub invariant_of-t : goal.invariant_of-t
invariant_of-t c = record { laid = (judged_taken c.args.words.now (Plan (length c.args.plan.now)) (Ok c.in-Ok.places) c.in-Ok.places c.in-Ok.ensures.0 refl).2.laid }

pub search-found-requires : goal.search-found-requires
search-found-requires c = (c.in-Ok.ensures.1 c.in-Ok.places refl).listed

pub report-solved-requires : goal.report-solved-requires
report-solved-requires c =
    let a = c.args in
    let taken = judged_taken a.words.now (Plan (length a.plan.now)) (Ok c.in-Ok.places) c.in-Ok.places c.in-Ok.ensures.0 refl in
    let f = taken.2.laid.few_atoms in
    let w = plan_wide _ taken.1.buffer in
    (f, omega arith)

pub whys_by-whys-requires : goal.whys_by-whys-requires
whys_by-whys-requires c =
    (λ h. c.search-found.ensures.2 (answer_ended c.in-Ok.places.atoms c.search-found.result c.report-solved.result c.report-solved.ensures.0 h))

pub returns-in-Err : goal.returns-in-Err
returns-in-Err c =
    let a = c.args in
    let b = Plan (length a.plan.now) in
    let f = c.in-Err.f in (
      solving_refused a.words.now a.ask a.plan.now a.plan.now (Err f) f (judged_refused a.words.now b (Err f) f c.in-Err.ensures.0 refl) refl refl,
      explains_refused a.ask.cycles a.words.now b a.plan.now f c.nothing-whys.result c.nothing-whys.ensures,
    )

pub returns-in-Ok : goal.returns-in-Ok
returns-in-Ok c =
    let a = c.args in
    let j = c.in-Ok.ensures in
    let tb = c.in-Ok.places in
    let x = judged_taken a.words.now (Plan (length a.plan.now)) (Ok tb) tb j.0 refl in
    let d = x.0 in
    let p = x.2 in
    let A = accepted_atoms a.words.now d x.1.holds in
    let q = c.report-solved.result in
    let new = c.report-solved.new.plan in
    let g = c.search-found.ensures in
    let o = end_of tb.atoms c.search-found.result g.0 in
    let e : solve (base_by a.ask.cycles (program d) d.atoms) jump a.ask.limit ≡ _ = ap (λ (n : ℕ). solve (base_by a.ask.cycles (program d) n) jump a.ask.limit) (sym p.atoms)
    ∙ ap (λ (P : Program). solve (base_by a.ask.cycles P tb.atoms) jump a.ask.limit) (sym (whole_rules a.words.now tb _ (j.1 tb refl) ∙ p.rules)) ∙ g.1 in
    let z = solving_accepted a.words.now a.ask a.plan.now new (Ok q) d x.1 A o e (ap Ok c.report-solved.ensures.0)
    (c.report-solved.ensures.1 ∙ ap (λ (n : ℕ). plan_after n o.result a.plan.now) p.atoms) in
    let w = subst (Recorded c.whys_by-whys.result)
    (whys_written_by a.ask.cycles tb.atoms (program_of a.words.now tb) c.search-found.result a.plan.now new q c.report-solved.ensures.0 c.report-solved.ensures.1
    ∙ ap (λ (P : Program). whys_by a.ask.cycles q (why_of P tb.atoms (plan_atoms tb.atoms new))) p.rules ∙ ap (λ (n : ℕ). whys_by a.ask.cycles q (why_of (program d) n (plan_atoms n new))) p.atoms)
    c.whys_by-whys.ensures in
    (z, explains_accepted a.ask.cycles a.words.now a.ask.limit a.plan.now new d x.1 A (AnswerSet (program d)) (λ Y h. h) c.whys_by-whys.result q (z.meaning d x.1) w)
