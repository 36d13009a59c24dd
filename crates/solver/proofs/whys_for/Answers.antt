-- `solver::whys_for` meets its contract. Assumes nothing.
use mathlib.Core.Path.{◌≡◌, sym, ap, subst, ◌∙◌}
use mathlib.Core.Bool.{Bool, true}
use Prim.Native.Nat.{ℕ}
use Rattle.layout.specs.Layout.{program_of}
use Rattle.rounds.specs.declared.Why.{Why}
use Rattle.rounds.specs.Rounds.{why_of, Recorded}
use Rattle.interpretation.specs.State.{true_atoms}
use Rattle.interpretation.specs.View.{view}
use Rattle.jumping.proofs.Plans.{plan_alone}
use Rattle.solver.proofs.Explained.{whole_alone}
use Rattle.solver.specs.Plans.{is_answer, whys_if}
use Rattle.solver.proofs.whys_for.Goals as goal

pub explain-answer-requires : goal.explain-answer-requires
explain-answer-requires c =
    let answered : is_answer c.args.solved ≡ true = sym c.is_answer.ensures ∙ c.if-not-is_answer.false in
    let a = c.args in
    whole_alone a.t.now.places.atoms a.it.values a.it.records (c.requires answered)

pub returns : goal.returns
returns c =
    let ofTrue : ℕ → Why = why_of (program_of c.args.t.now.words.now c.args.t.now.places) c.args.t.now.places.atoms (true_atoms c.args.t.now.places.atoms (view c.args.it).cell) in
    let answered : is_answer c.args.solved ≡ true = sym c.is_answer.ensures ∙ c.if-not-is_answer.false in
    let a = c.args in
    let n = a.t.now.places.atoms in
    subst (Recorded c.whys_of.result)
    (c.explain-answer.ensures.whys
    ∙ ap (why_of (program_of a.t.now.words.now a.t.now.places) n) (sym (plan_alone n a.it.values a.it.records))
    ∙ ap (λ (b : Bool). whys_if b ofTrue) (sym answered))
    c.whys_of.ensures
