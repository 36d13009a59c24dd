-- `aspif_read::survey::after_line` meets its contract. Assumes nothing.
use Rattle.aspif_read.proofs.Laws.{line_few, after_kind_lem, after_rule_lem, after_fault, next_yes, next_no}
use Rattle.std.proofs.lemmas.Result.{err_from_is_err_and}
use mathlib.Core.Path.{sym, ◌∙◌}
use Rattle.aspif_read.proofs.survey.after_line.Goals as goal

pub with_rule-next-requires : goal.with_rule-next-requires
with_rule-next-requires c = let f = line_few c.args.t c.args.line.now _ _ _ (sym c.judge.ensures ∙ c.in_ok-rule-in-Other.was) in (c.requires, f.0, f.1)

pub returns-then-in_range : goal.returns-then-in_range
returns-then-in_range c = next_yes _ _ c.with_rule-next.ensures (sym c.in_range.ensures ∙ c.if-in_range.true)
    ∙ sym (after_rule_lem c.args.t c.args.line.now _ (sym c.kind_of.ensures ∙ c.in-Other.is) (sym c.judge.ensures ∙ c.in_ok-rule-in-Other.was))

pub returns-in-Closing : goal.returns-in-Closing
returns-in-Closing c = sym (after_kind_lem c.args.t c.args.line.now _ (sym c.kind_of.ensures ∙ c.in-Closing.is))

pub returns-in-Comment : goal.returns-in-Comment
returns-in-Comment c = sym (after_kind_lem c.args.t c.args.line.now _ (sym c.kind_of.ensures ∙ c.in-Comment.is))

pub returns-in_err-rule-in-Other : goal.returns-in_err-rule-in-Other
returns-in_err-rule-in-Other c =
    let p = err_from_is_err_and c.from_residual.result c.from_residual.ensures.1 in
    rw (p.1, p.2) (sym (after_fault c.args.t c.args.line.now _ (sym c.kind_of.ensures ∙ c.in-Other.is) (sym c.judge.ensures ∙ c.in_err-rule-in-Other.was)))

pub returns-else-in_range : goal.returns-else-in_range
returns-else-in_range c = next_no _ _ c.with_rule-next.ensures (sym c.in_range.ensures ∙ c.if-in_range.false)
    ∙ sym (after_rule_lem c.args.t c.args.line.now _ (sym c.kind_of.ensures ∙ c.in-Other.is) (sym c.judge.ensures ∙ c.in_ok-rule-in-Other.was))
