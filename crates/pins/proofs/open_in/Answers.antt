-- `pins::open_in` meets its contract: the judge's refusal, or the words kept. Assumes nothing.
use mathlib.Core.Path.{refl, sym, subst}
use mathlib.Core.List.{List}
use lib.IntN.{ℤ}
use Rattle.std.specs.Prelude.{⊤, Result, Ok, Err}
use Rattle.results.specs.declared.Refusal.{Refusal}
use Rattle.table.proofs.Returned.{ends}
use Rattle.judging.specs.declared.Buffer.TheVariants as lent
use Rattle.judging.proofs.Judged.{judged_refused, judged_taken}
use Rattle.pins.specs.Session.{Opening}
use Rattle.pins.proofs.Changes.{opening_refused, opening_accepted}
use Rattle.pins.proofs.open_in.Goals as goal

pub returns-in_err-judge_in : goal.returns-in_err-judge_in
returns-in_err-judge_in c =
    let a = c.args in
    let f = c.in_err-judge_in.field-0.0 in
    subst (λ (r : Result ⊤ Refusal). Opening a.cycles a.words.now a.s.now a.s.now r) (sym (ends _ _ c.from_residual.ensures.1))
    (opening_refused a.cycles a.words.now a.s.now f (judged_refused a.words.now lent.Nothing (Err f) f c.in_err-judge_in.ensures.0 refl))

pub returns : goal.returns
returns c =
    let a = c.args in
    let tb = c.in_ok-judge_in.field-0 in
    let x = judged_taken a.words.now lent.Nothing (Ok tb) tb c.in_ok-judge_in.ensures.0 refl in
    subst (λ (u : List ℤ). Opening a.cycles a.words.now a.s.now u (Ok tt)) (sym c.fill.ensures) (opening_accepted a.cycles a.words.now a.s.now c.requires x.0 x.1)
