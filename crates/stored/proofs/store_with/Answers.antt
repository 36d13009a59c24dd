-- `stored::store_with` meets its contract. Assumes nothing.
use mathlib.Core.Path.{refl}
use Rattle.std.specs.Prelude.{Err}
use Rattle.std.proofs.lemmas.Result.{err_from_is_err_and}
use Rattle.judging.specs.declared.Buffer.TheVariants.{Nothing}
use Rattle.judging.proofs.Judged.{judged_refused, judged_taken}
use Rattle.stored.proofs.Storing.{stores_refused, stores_laid}
use Rattle.stored.proofs.store_with.Goals as goal

pub returns-in_err-judge_by : goal.returns-in_err-judge_by
returns-in_err-judge_by c =
    let a = c.args in
    let p = err_from_is_err_and c.from_residual.result c.from_residual.ensures.1 in
    let f = c.in_err-judge_by.field-0.0 in
    rw (p.1, p.2)
    (stores_refused a.words.now a.bytes.now a.bytes.now (Err f) f (judged_refused a.words.now Nothing c.judge_by.result f c.judge_by.ensures.0 c.in_err-judge_by.was) refl refl)

pub returns : goal.returns
returns c =
    let a = c.args in
    let h = judged_taken a.words.now Nothing c.judge_by.result _ c.judge_by.ensures.0 c.in_ok-judge_by.was in
    stores_laid a.words.now a.bytes.now _ c.store_held.result h.0 h.1 (c.store_held.ensures h.0 h.1.holds)
