-- `aspif_read::putting::put_line` meets its contract. Assumes nothing.
use Rattle.aspif_read.proofs.Laws.{words_kind, aggregates_kind}
use Rattle.aspif_read.proofs.Puts.{wrote_as, put_none}
use mathlib.Core.Path.{refl, sym, ◌∙◌}
use native.Mathlib.Omega.{arith}
use Rattle.aspif_read.proofs.putting.put_line.Goals as goal

pub returns-in-Closing : goal.returns-in-Closing
returns-in-Closing c = let a = aggregates_kind c.args.line.now _ (sym c.kind_of-kind.ensures ∙ c.in-Closing.is) in wrote_as _ _ _ _ _ _ _ _ (put_none _ _ c.requires.0) (sym (words_kind c.args.rules c.args.before c.args.line.now _ (sym c.kind_of-kind.ensures ∙ c.in-Closing.is))) refl (omega arith)

pub returns-in-Comment : goal.returns-in-Comment
returns-in-Comment c = let a = aggregates_kind c.args.line.now _ (sym c.kind_of-kind.ensures ∙ c.in-Comment.is) in wrote_as _ _ _ _ _ _ _ _ (put_none _ _ c.requires.0) (sym (words_kind c.args.rules c.args.before c.args.line.now _ (sym c.kind_of-kind.ensures ∙ c.in-Comment.is))) refl (omega arith)

pub returns-in-Other : goal.returns-in-Other
returns-in-Other c = rw (words_kind c.args.rules c.args.before c.args.line.now _ (sym c.kind_of-kind.ensures ∙ c.in-Other.is), aggregates_kind c.args.line.now _ (sym c.kind_of-kind.ensures ∙ c.in-Other.is)) c.put_statement.ensures
