-- `show::rules::put_rule` meets its contract. Assumes nothing.
use mathlib.Core.Path.{◌≡◌, ap, ◌∙◌}
use Rattle.layout.specs.Layout.{part_at, past_at, neg_at, aggs_at}
use Rattle.aspif_parts.specs.Held.{held_by}
use Rattle.show.proofs.Texts.{rule_parts}
use Rattle.show.proofs.rules.put_rule.Goals as goal

pub returns : goal.returns
returns c =
    let second : c.past-barred.result ≡ neg_at c.args.t.now.words.now c.args.rule = c.past-barred.ensures ∙ ap (past_at c.args.t.now.words.now) c.past-positive.ensures in
    let third : c.past-literals.result ≡ aggs_at c.args.t.now.words.now c.args.rule = c.past-literals.ensures ∙ ap (past_at c.args.t.now.words.now) (second) in
    let args = c.args in
    let at-past = c.past-positive in
    let at_part = c.part-h in
    let at-part2 = c.part-p in
    let at-part3 = c.part-b in
    let at-part4 = c.part-l in
    let at-put-lists = c.put_lists in
    rw (← rule_parts args.d (held_by args.t.now.words.now args.t.now.places).aggregates args.t.now.words.now args.rule) (rw (at_part.ensures, at-part2.ensures ∙ ap (part_at args.t.now.words.now) at-past.ensures, at-part3.ensures ∙ ap (part_at args.t.now.words.now) (second), at-part4.ensures ∙ ap (part_at args.t.now.words.now) (third)) at at-put-lists.ensures)
