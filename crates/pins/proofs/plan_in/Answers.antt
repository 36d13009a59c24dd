-- `pins::plan_in` meets its contract: the judge's refusal, or the report of the defined jumping search with the pins, with what explains its plan. Assumes nothing.
use Rattle.std.specs.Prelude.{Ok, Err}
use mathlib.Core.Path.{◌≡◌, refl, sym, ap, ◌∙◌, subst}
use mathlib.Core.Bool.{Bool}
use mathlib.Core.List.{List}
use Prim.Native.Nat.{ℕ}
use native.Mathlib.Omega.{arith}
use lib.IntN.{ℤ}
use lib.ListN.{length, take}
use lib.Seq.{length-take-le}
use Rattle.meaning.specs.Program.{Program}
use Rattle.results.specs.Results.{number_of, place_of}
use Rattle.layout.specs.Layout.{program_of}
use Rattle.heads.proofs.Taking.{whole_rules}
use Rattle.table.specs.Contents.{program}
use Rattle.table.proofs.Accepted.{accepted_atoms}
use Rattle.search.specs.Search.{jump, solve}
use Rattle.smaller.specs.Cyclic.{problem_by}
use Rattle.jumping.specs.Jumping.{end_of}
use Rattle.judging.specs.declared.Buffer.TheVariants.{Plan}
use Rattle.judging.specs.Refusals.{AcceptedBy, RefusedBy}
use Rattle.judging.proofs.Judged.{plan_wide, judged_refused, judged_taken}
use Rattle.rounds.specs.Rounds.{why_of, Recorded}
use Rattle.promises.specs.Plans.{plan_atoms}
use Rattle.promises.specs.Promises.{plan_after}
use Rattle.solver.specs.Plans.{whys_by}
use Rattle.solver.proofs.Explained.{answer_ended, whys_written_by, explains_refused, explains_accepted}
use Rattle.sessions.specs.Sessions.{pins_of, Agrees}
use Rattle.pins.specs.Memory.{table_in, pins_in, taken_of}
use Rattle.pins.specs.Session.{PlansOn}
use Rattle.pins.proofs.Words.{number_small}
use Rattle.pins.proofs.Planned.{planning_refused, planning_accepted}
use Rattle.pins.proofs.plan_in.Goals as goal

pub slice_bounds-words-end : goal.slice_bounds-words-end
slice_bounds-words-end c =
    let e = c.number-count.ensures in
    let k = number_small c.args.s.now 16384 16384 in
    let l = c.requires in
    sym (length-take-le c.number-count.result c.args.s.now (omega arith))

pub invariant_of-t : goal.invariant_of-t
invariant_of-t c =
    record { laid = (judged_taken (take c.number-count.result c.args.s.now) (Plan (length c.args.plan.now)) (Ok c.in-Ok.places) c.in-Ok.places c.in-Ok.ensures.0 refl).2.laid }

pub search-found-requires : goal.search-found-requires
search-found-requires c =
    let a = c.args in
    let tb = c.in-Ok.places in
    let j = c.in-Ok.ensures in
    ((j.1 tb refl).listed, c.requires)

pub report-solved-requires : goal.report-solved-requires
report-solved-requires c =
    let a = c.args in
    let tb = c.in-Ok.places in
    let x = judged_taken (take c.number-count.result a.s.now) (Plan (length a.plan.now)) (Ok tb) tb c.in-Ok.ensures.0 refl in
    let f = x.2.laid.few_atoms in
    let w = plan_wide _ x.1.buffer in
    (f, omega arith)

pub whys_by-whys-requires : goal.whys_by-whys-requires
whys_by-whys-requires c =
    let a = c.args in
    let tb = c.in-Ok.places in
    let taken = judged_taken (take c.number-count.result a.s.now) (Plan (length a.plan.now)) (Ok tb) tb c.in-Ok.ensures.0 refl in
    (λ h. c.search-found.ensures.2 (answer_ended tb.atoms c.search-found.result c.report-solved.result c.report-solved.ensures.0 h))

pub returns-in-Err : goal.returns-in-Err
returns-in-Err c =
    let a = c.args in
    let f = c.in-Err.f in
    let judged : take c.number-count.result a.s.now ≡ table_in a.s.now = ap (λ (k : ℕ). take k a.s.now) c.number-count.ensures in
    let m = c.takes_cycles-cycles.result in
    let b = Plan (length a.plan.now) in
    let h = subst (λ (t : List ℤ). RefusedBy m t b (number_of f) (place_of f)) judged (judged_refused (take c.number-count.result a.s.now) b (Err f) f c.in-Err.ensures.0 refl) in
    subst (λ (y : Bool). PlansOn y (table_in a.s.now) (pins_in a.s.now) a.limit a.plan.now a.plan.now (record { solved = Err f; whys = c.nothing-whys.result }))
    c.takes_cycles-cycles.ensures (
      planning_refused m (table_in a.s.now) (pins_in a.s.now) a.limit a.plan.now f h,
      explains_refused m (table_in a.s.now) b a.plan.now f c.nothing-whys.result c.nothing-whys.ensures,
    )

pub returns-in-Ok : goal.returns-in-Ok
returns-in-Ok c =
    let a = c.args in
    let t = take c.number-count.result a.s.now in
    let judged : t ≡ table_in a.s.now = ap (λ (k : ℕ). take k a.s.now) c.number-count.ensures in
    let m = c.takes_cycles-cycles.result in
    let tb = c.in-Ok.places in
    let j = c.in-Ok.ensures in
    let pins = pins_in a.s.now in
    let x = judged_taken t (Plan (length a.plan.now)) (Ok tb) tb j.0 refl in
    let d = x.0 in
    let p = x.2 in
    let h = subst (λ (u : List ℤ). AcceptedBy m u (Plan (length a.plan.now)) d) judged x.1 in
    let A = accepted_atoms t d x.1.holds in
    let q = c.report-solved.result in
    let new = c.report-solved.new.plan in
    let g = c.search-found.ensures in
    let o = end_of tb.atoms c.search-found.result g.0 in
    let e : solve (problem_by m (program d) d.atoms (pins_of (taken_of d.atoms pins))) jump a.limit ≡ _ =
    ap (λ (i : ℕ). solve (problem_by m (program d) i (pins_of (taken_of i pins))) jump a.limit) (sym p.atoms)
    ∙ ap (λ (P : Program). solve (problem_by m P tb.atoms (pins_of (taken_of tb.atoms pins))) jump a.limit) (sym (whole_rules t tb _ (j.1 tb refl) ∙ p.rules)) ∙ g.1 in
    let z = planning_accepted m (table_in a.s.now) pins a.limit a.plan.now new (Ok q) d h o e (ap Ok c.report-solved.ensures.0)
    (c.report-solved.ensures.1 ∙ ap (λ (i : ℕ). plan_after i o.result a.plan.now) p.atoms) in
    let w = subst (Recorded c.whys_by-whys.result)
    (whys_written_by m tb.atoms (program_of t tb) c.search-found.result a.plan.now new q c.report-solved.ensures.0 c.report-solved.ensures.1
    ∙ ap (λ (P : Program). whys_by m q (why_of P tb.atoms (plan_atoms tb.atoms new))) p.rules ∙ ap (λ (i : ℕ). whys_by m q (why_of (program d) i (plan_atoms i new))) p.atoms)
    c.whys_by-whys.ensures in
    subst (λ (y : Bool). PlansOn y (table_in a.s.now) pins a.limit a.plan.now new (record { solved = Ok q; whys = c.whys_by-whys.result })) c.takes_cycles-cycles.ensures
    (z, explains_accepted m (table_in a.s.now) a.limit a.plan.now new d h A (Agrees (program d) (taken_of d.atoms pins)) (λ Y i. i.is_answer) c.whys_by-whys.result q (z.meaning d h) w)
