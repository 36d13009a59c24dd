-- `relaxer::relax_with` meets its contract: the judge's refusal, 26, or what the trials come to on the accepted table. Assumes nothing.
use mathlib.Core.Path.{◌≡◌, refl, sym, ap, ◌∙◌}
use Prim.Native.Nat.{ℕ}
use native.Mathlib.Omega.{arith}
use lib.ListN.{length}
use Rattle.std.specs.Prelude.{Ok, Err}
use Rattle.meaning.specs.Program.{Program}
use Rattle.results.specs.declared.Refusal.TheVariants as refusal
use Rattle.table.specs.Contents.{program}
use Rattle.table.proofs.Returned.{ends}
use Rattle.judging.specs.declared.Buffer.TheVariants.{Plan}
use Rattle.judging.proofs.Judged.{plan_wide, judged_refused, judged_taken}
use Rattle.relaxing.specs.Relaxing.{relax}
use Rattle.relaxer.specs.Promise.{before, short, relaxed_by, list_after, plan_after}
use Rattle.relaxer.proofs.Places.{rules_long}
use Rattle.relaxer.proofs.Entry.{relaxing_refused, relaxing_accepted}
use Rattle.relaxer.proofs.relax_with.Goals as goal

pub returns-in_err-places : goal.returns-in_err-places
returns-in_err-places c =
    let a = c.args in
    let f = c.in_err-places.field-0.0 in
    relaxing_refused a.words.now a.ask a.dropped.now a.dropped.now a.plan.now a.plan.now c.from_residual.result f
    (before (judged_refused a.words.now (Plan (length a.plan.now)) (Err f) f c.in_err-places.ensures.0 refl)) (ends _ _ c.from_residual.ensures.1) refl refl

pub returns-then-dropped-places : goal.returns-then-dropped-places
returns-then-dropped-places c =
    let a = c.args in
    let tb = c.in_ok-places.places in
    let x = judged_taken a.words.now (Plan (length a.plan.now)) (Ok tb) tb c.in_ok-places.ensures.0 refl in
    let m : length (program x.0) ≡ tb.rules = ap (λ (P : Program). length P) (sym x.2.rules) ∙ rules_long a.words.now tb.first tb.rules in
    relaxing_refused a.words.now a.ask a.dropped.now a.dropped.now a.plan.now a.plan.now (Err refusal.ShortList) refusal.ShortList
    (short x.0 x.1 (omega (arith, m, c.if-dropped-places.true)) refl refl) refl refl refl

pub invariant_of-t : goal.invariant_of-t
invariant_of-t c =
    record { laid = (judged_taken c.args.words.now (Plan (length c.args.plan.now)) (Ok c.in_ok-places.places) c.in_ok-places.places c.in_ok-places.ensures.0 refl).2.laid }

pub give_up-requires : goal.give_up-requires
give_up-requires c =
    let a = c.args in
    let tb = c.in_ok-places.places in
    let j = c.in_ok-places.ensures in
    let x = judged_taken a.words.now (Plan (length a.plan.now)) (Ok tb) tb j.0 refl in
    ((j.1 tb refl).listed, c.if-dropped-places.false, plan_wide _ x.1.buffer)

pub returns : goal.returns
returns c =
    let a = c.args in
    let tb = c.in_ok-places.places in
    let x = judged_taken a.words.now (Plan (length a.plan.now)) (Ok tb) tb c.in_ok-places.ensures.0 refl in
    let d = x.0 in
    let p = x.2 in
    let m : length (program d) ≡ tb.rules = ap (λ (P : Program). length P) (sym p.rules) ∙ rules_long a.words.now tb.first tb.rules in
    let z = a.ask.cycles in
    let lim = a.ask.limit in
    relaxing_accepted a.words.now a.ask a.dropped.now c.give_up.new.dropped a.plan.now c.give_up.new.plan (Ok c.give_up.result) d x.1 (omega (arith, m, c.if-dropped-places.false))
    (ap Ok (c.give_up.ensures.0 ∙ ap (λ (P : Program). relaxed_by P (relax z tb.atoms lim P)) p.rules ∙ ap (λ (n : ℕ). relaxed_by (program d) (relax z n lim (program d))) p.atoms))
    (c.give_up.ensures.1 ∙ ap (λ (P : Program). list_after P (relax z tb.atoms lim P) a.dropped.now) p.rules ∙ ap (λ (n : ℕ). list_after (program d) (relax z n lim (program d)) a.dropped.now) p.atoms)
    (c.give_up.ensures.2 ∙ ap (λ (P : Program). plan_after tb.atoms (relax z tb.atoms lim P) a.plan.now) p.rules ∙ ap (λ (n : ℕ). plan_after n (relax z n lim (program d)) a.plan.now) p.atoms)
