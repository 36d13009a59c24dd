-- `judging::judge_in` meets its contract: 1, then what the entry's own buffer earns, then the words. Assumes nothing.
use mathlib.Core.Path.{refl, sym}
use Rattle.results.specs.declared.Refusal.TheVariants as refusal
use Rattle.table.proofs.Returned.{ends}
use Rattle.judging.specs.Refusals.{words, buffer}
use Rattle.judging.specs.Judging.{refused}
use Rattle.judging.proofs.Judged.{fault_good, fault_bad, no_fault}
use Rattle.judging.proofs.judge_in.Goals as goal

pub returns-then-words-gt-WORDS : goal.returns-then-words-gt-WORDS
returns-then-words-gt-WORDS c = (refused refusal.TooManyWords (words c.if-words-gt-WORDS.true refl refl) refl, λ tb e. absurd (no_fault refl e))

pub returns-in_err-earned : goal.returns-in_err-earned
returns-in_err-earned c =
    let f = c.in_err-earned.field-0.0 in
    let w = fault_bad c.args.buffer f (sym c.in_err-earned.ensures) in
    let e = ends c.from_residual.result f c.from_residual.ensures.1 in
    (refused f (buffer c.if-words-gt-WORDS.false w.0 w.1) e, λ tb i. absurd (no_fault e i))

pub returns : goal.returns
returns c = (c.words_judged.ensures.0 c.if-words-gt-WORDS.false c.args.buffer (fault_good c.args.buffer (sym c.in_ok-earned.ensures)), c.words_judged.ensures.1)
