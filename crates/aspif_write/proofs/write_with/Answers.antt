-- `aspif_write::write_with` meets its contract: the refusal of the judge, or the text of what the words hold. Assumes nothing.
use mathlib.Core.Path.{refl}
use Rattle.table.proofs.Returned.{ends}
use Rattle.judging.specs.declared.Buffer.TheVariants.{Nothing}
use Rattle.judging.proofs.Judged.{judged_refused}
use Rattle.aspif_write.proofs.Contents.{judged_held}
use Rattle.aspif_write.proofs.Entry.{writes_refused, writes_laid}
use Rattle.aspif_write.proofs.write_with.Goals as goal

pub returns-in_err-places : goal.returns-in_err-places
returns-in_err-places c =
    let a = c.args in
    writes_refused a.words.now a.text.now a.text.now _ _ (judged_refused a.words.now Nothing c.judge_by.result _ c.judge_by.ensures.0 c.in_err-places.was) (ends c.from_residual.result c.in_err-places.field-0.0 c.from_residual.ensures.1) refl

pub invariant_of-t : goal.invariant_of-t
invariant_of-t c = record { laid = (judged_held c.args.words.now Nothing c.judge_by.result c.in_ok-places.places c.judge_by.ensures.0 c.in_ok-places.was).laid }

pub returns : goal.returns
returns c =
    let a = c.args in
    let x = judged_held a.words.now Nothing c.judge_by.result c.in_ok-places.places c.judge_by.ensures.0 c.in_ok-places.was in
    writes_laid a.words.now a.text.now _ c.write_laid.result x.contents x.accepted (rw x.held at c.write_laid.ensures)
