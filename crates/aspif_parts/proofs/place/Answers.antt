-- `aspif_parts::place` meets its contract. Assumes nothing.
use mathlib.Core.Path.{sym, ◌∙◌}
use lib.IntN.{pos}
use lib.ListN.{get_or}
use borrow.Author.Tests.{not-true, not-false}
use Rattle.aspif_parts.proofs.Marking.{place_plain, place_negated}
use Rattle.aspif_parts.proofs.place.Goals as goal

pub returns-then-negated : goal.returns-then-negated
returns-then-negated c =
    place_negated (get_or c.args.l.now c.args.i (pos 0)) c.atom-n.result c.atom-n.ensures (not-true _ (sym c.negated.ensures ∙ c.if-negated.true))

pub returns : goal.returns
returns c =
    place_plain (get_or c.args.l.now c.args.i (pos 0)) c.atom-n.result c.atom-n.ensures (not-false _ (sym c.negated.ensures ∙ c.if-negated.false))
