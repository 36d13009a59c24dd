-- `show::show` meets its contract: the refusal of the reader, or the text of what the words hold. Assumes nothing.
use mathlib.Core.Path.{sym, ◌∙◌}
use Rattle.table.proofs.Accepted.{fault_refused}
use Rattle.table.proofs.Returned.{ends}
use Rattle.show.proofs.Held.{reading_taken}
use Rattle.show.proofs.Entry.{shows_refused, shows_laid}
use Rattle.show.proofs.show.Goals as goal

pub invariant_of-t : goal.invariant_of-t
invariant_of-t c = record { laid = (reading_taken c.args.words.now _ (sym c.read.ensures ∙ c.in_ok-places.was)).laid }

pub returns-in_err-places : goal.returns-in_err-places
returns-in_err-places c =
    rw (ends _ _ c.from_residual.ensures.1) (shows_refused c.args.words.now c.args.text.now _ (fault_refused c.args.words.now _ (sym c.read.ensures ∙ c.in_err-places.was)))

pub returns : goal.returns
returns c =
    let x = reading_taken c.args.words.now _ (sym c.read.ensures ∙ c.in_ok-places.was) in
    shows_laid c.args.words.now c.args.text.now _ c.show_laid.result x.contents x.accepted (rw x.held at c.show_laid.ensures)
