-- `relaxer::step` meets its contract: one rule offered, as `Offers` has it. Assumes nothing.
use mathlib.Core.Path.{◌≡◌, sym, ap, ◌∙◌}
use mathlib.Core.Bool.{Bool, true, false}
use Prim.Native.Nat.{ℕ}
use Rattle.meaning.specs.Program.{Program}
use Rattle.levels.specs.View.{row}
use Rattle.layout.specs.Layout.{rule_at, program_of}
use Rattle.relaxing.specs.Relaxing.{headed, rules_of, with_number, Trial, trial}
use Rattle.relaxer.specs.Offering.{is_answer, trial_of}
use Rattle.relaxer.proofs.Offers.{on_head, on_dropped, on_tried}
use Rattle.relaxer.proofs.step.Goals as goal

pub returns-then-has_head : goal.returns-then-has_head
returns-then-has_head c =
    let try : Program → Trial = let a = c.args in trial a.cycles a.t.now.places.atoms a.limit in
    let P : Program = program_of c.args.t.now.words.now c.args.t.now.places in
    let a = c.args in
    (λ rest. on_head try P a.t.now.places.atoms a.held a.i (rule_at a.t.now.words.now a.at) rest (sym c.has_head.ensures ∙ c.if-has_head.true), c.requires.0)

pub returns-then-is_nothing : goal.returns-then-is_nothing
returns-then-is_nothing c =
    let try : Program → Trial = let a = c.args in trial a.cycles a.t.now.places.atoms a.limit in
    let P : Program = program_of c.args.t.now.words.now c.args.t.now.places in
    let more : let a = c.args in row c.attempt-tried.result.kept ≡ with_number a.i (row a.held.kept) = ap row c.attempt-tried.ensures.0 ∙ c.with-kept.ensures in
    let told : let a = c.args in trial_of a.t.now.places.atoms c.attempt-tried.result ≡ try (rules_of P (with_number a.i (row a.held.kept))) = c.attempt-tried.ensures.1 ∙ ap (λ (k : ℕ → Bool). try (rules_of P k)) c.with-kept.ensures in
    let bare : let a = c.args in headed (rule_at a.t.now.words.now a.at) ≡ false = sym c.has_head.ensures ∙ c.if-has_head.false in
    let held : is_answer c.args.held.ending ≡ true = sym c.is_answer.ensures ∙ c.if-not-is_answer.false in
    let a = c.args in (
      λ rest. on_dropped try P a.t.now.places.atoms a.held a.i (rule_at a.t.now.words.now a.at) rest c.attempt-tried.result more told bare held (sym c.is_nothing.ensures ∙ c.if-is_nothing.true),
      c.attempt-tried.ensures.2,
    )

pub returns : goal.returns
returns c =
    let try : Program → Trial = let a = c.args in trial a.cycles a.t.now.places.atoms a.limit in
    let P : Program = program_of c.args.t.now.words.now c.args.t.now.places in
    let more : let a = c.args in row c.attempt-tried.result.kept ≡ with_number a.i (row a.held.kept) = ap row c.attempt-tried.ensures.0 ∙ c.with-kept.ensures in
    let told : let a = c.args in trial_of a.t.now.places.atoms c.attempt-tried.result ≡ try (rules_of P (with_number a.i (row a.held.kept))) = c.attempt-tried.ensures.1 ∙ ap (λ (k : ℕ → Bool). try (rules_of P k)) c.with-kept.ensures in
    let bare : let a = c.args in headed (rule_at a.t.now.words.now a.at) ≡ false = sym c.has_head.ensures ∙ c.if-has_head.false in
    let held : is_answer c.args.held.ending ≡ true = sym c.is_answer.ensures ∙ c.if-not-is_answer.false in
    let a = c.args in (
      λ rest. on_tried try P a.t.now.places.atoms a.held a.i (rule_at a.t.now.words.now a.at) rest c.attempt-tried.result more told bare held (sym c.is_nothing.ensures ∙ c.if-is_nothing.false),
      c.attempt-tried.ensures.2,
    )
