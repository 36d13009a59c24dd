-- `aspif_read::survey::survey_lines` meets its contract. Assumes nothing.
use Rattle.aspif_read.proofs.LineLaws.{line_first, line_further, line_inside, lines_none}
use Rattle.aspif_read.proofs.Laws.{after_fits, survey_next, survey_closing, survey_fault, survey_none}
use Rattle.aspif_read.specs.Survey.{survey_from}
use Rattle.std.proofs.Common.{rules}
use Rattle.std.specs.Prelude.{Some, None, Ok}
use Rattle.aspif.specs.Lines.{lines_of}
use lib.ListN.{length, take, drop}
use mathlib.Core.List.{◌∷◌}
use native.Mathlib.Numerals.{add-one}
use Prim.Native.Nat.{◌-◌, ◌≤◌}
use mathlib.Core.Path.{◌≡◌, sym, ap, ◌∙◌}
use native.Mathlib.Omega.{arith}
use Rattle.aspif_read.proofs.survey.survey_lines.Goals as goal

pub slice_bounds-after_line-end : goal.slice_bounds-after_line-end
slice_bounds-after_line-end c =
    let inside : c.line_end-end.result ≤ length c.args.text.now = rw c.line_end-end.ensures (line_inside _ c.loop-at.at c.loop-at-test.true) in
    inside

pub returns-in-Ok-None : goal.returns-in-Ok-None
returns-in-Ok-None c =
    let first : let at = c.loop-at.at in
    let text = c.args.text.now in
    lines_of (drop at text) ≡ take (c.line_end-end.result - at) (drop at text) ∷ lines_of (drop c.line_after-next.result text) =
    rw (c.line_after-next.ensures, c.line_end-end.ensures) (line_first _ c.loop-at.at c.loop-at-test.true) in
    let e : c.after_line-step.result ≡ Ok None = search rules in
    (rw add-one at c.closed.ensures) ∙ sym (ap (survey_from c.loop-at.k c.loop-at.t) (first) ∙ survey_closing c.loop-at.k c.loop-at.t _ _ (sym c.after_line-step.ensures ∙ e)) ∙ c.loop-at.invariant.3

pub returns-in-Err : goal.returns-in-Err
returns-in-Err c =
    let first : let at = c.loop-at.at in
    let text = c.args.text.now in
    lines_of (drop at text) ≡ take (c.line_end-end.result - at) (drop at text) ∷ lines_of (drop c.line_after-next.result text) =
    rw (c.line_after-next.ensures, c.line_end-end.ensures) (line_first _ c.loop-at.at c.loop-at-test.true) in
    rw c.refusal.ensures (sym (ap (survey_from c.loop-at.k c.loop-at.t) (first) ∙ survey_fault c.loop-at.k c.loop-at.t _ _ _ (sym c.after_line-step.ensures ∙ c.in-Err.is)) ∙ c.loop-at.invariant.3)

pub loop-at-preserved : goal.loop-at-preserved
loop-at-preserved c =
    let first : let at = c.loop-at.at in
    let text = c.args.text.now in
    lines_of (drop at text) ≡ take (c.line_end-end.result - at) (drop at text) ∷ lines_of (drop c.line_after-next.result text) =
    rw (c.line_after-next.ensures, c.line_end-end.ensures) (line_first _ c.loop-at.at c.loop-at-test.true) in
    let k = line_further c.args.text.now c.loop-at.at c.loop-at-test.true in
    let x = c.line_after-next.ensures in
    let b = c.line_end-end.ensures in
    let v = c.loop-at.invariant in
    let e : c.after_line-step.result ≡ Ok (Some c.in-Ok-Some.totals) = search rules in
    let n = sym c.after_line-step.ensures ∙ e in
    (omega arith, omega arith, after_fits c.loop-at.t _ _ v.2 n, rw add-one (sym (ap (survey_from c.loop-at.k c.loop-at.t) (first) ∙ survey_next c.loop-at.k c.loop-at.t _ _ _ n) ∙ v.3))

pub returns : goal.returns
returns c = sym (ap (survey_from c.loop-at.k c.loop-at.t) (lines_none _ _ c.loop-at-test.false) ∙ survey_none _ _) ∙ c.loop-at.invariant.3
