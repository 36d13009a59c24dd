-- `aspif_read::read` meets its contract. Assumes nothing.
use Rattle.std.proofs.lemmas.Result.{err_from_is_err_and}
use Rattle.aspif_read.proofs.Contract.{text_short, header_no, header_yes, table_fits, lines_table, few_aggregates_lem, reads_short, reads_outside, reads_refused, reads_accepted}
use Rattle.aspif_read.proofs.Whole.{Short}
use Rattle.aspif_read.proofs.LineLaws.{line_le}
use Rattle.aspif_read.specs.Survey.{line_length}
use Rattle.aspif.specs.Lines.{lines_of, header as headerLine, read_lines, read_text}
use Rattle.meaning.specs.Foundedness.{same_list}
use lib.ListN.{length, take, drop, length-drop}
use mathlib.Core.Bool.{true}
use mathlib.Core.List.{[]}
use Prim.Native.Nat.{◌+◌, ◌-◌, ◌≤◌}
use mathlib.Core.Path.{◌≡◌, sym, ◌∙◌}
use native.Mathlib.Omega.{arith}
use Rattle.aspif_read.proofs.read.Goals as goal

pub returns-then-words-lt16384 : goal.returns-then-words-lt16384
returns-then-words-lt16384 c = reads_short c.args.text.now c.args.words.now c.if-words-lt16384.true

pub slice_bounds-same-end : goal.slice_bounds-same-end
slice_bounds-same-end c =
    let inside : c.line_end-end.result ≤ length c.args.text.now =
    let text = c.args.text.now in
    let k = line_le (drop 0 text) in
    let l = length-drop 0 text in
    rw c.line_end-end.ensures (omega arith) in
    inside

pub returns-then-not-same : goal.returns-then-not-same
returns-then-not-same c = reads_outside c.args.text.now c.args.words.now 1 c.if-words-lt16384.false (header_no c.args.text.now (rw (← c.line_end-end.ensures) (sym c.same.ensures ∙ c.if-not-same.true)))

pub write-requires : goal.write-requires
write-requires c =
    let short : Short (lines_of (drop c.line_after-from.result c.args.text.now)) =
    let text = c.args.text.now in
    let l = length-drop c.line_after-from.result text in
    text_short (drop c.line_after-from.result text) (omega arith) in
    let e = sym c.survey_from.ensures ∙ c.in_ok-totals.was in
    (omega (arith, c.line_after-from.ensures), table_fits _ _ e, few_aggregates_lem _ (short) _ e)

pub returns-in_err-totals : goal.returns-in_err-totals
returns-in_err-totals c =
    let header : let text = c.args.text.now in
    same_list (take (0 + line_length (drop 0 text) - 0) (drop 0 text)) headerLine ≡ true = rw (← c.line_end-end.ensures) (sym c.same.ensures ∙ c.if-not-same.false) in
    let read_is : let text = c.args.text.now in
    read_text text ≡ read_lines 2 [] (lines_of (drop c.line_after-from.result text)) =
    let text = c.args.text.now in
    rw (c.line_after-from.ensures, c.line_end-end.ensures) (header_yes text (header)) in
    let short : Short (lines_of (drop c.line_after-from.result c.args.text.now)) =
    let text = c.args.text.now in
    let l = length-drop c.line_after-from.result text in
    text_short (drop c.line_after-from.result text) (omega arith) in
    let p = err_from_is_err_and c.from_residual.result c.from_residual.ensures.1 in
    rw (p.1, p.2) (reads_refused c.args.text.now c.args.words.now _ _ (short) c.if-words-lt16384.false (read_is) (sym c.survey_from.ensures ∙ c.in_err-totals.was))

pub returns : goal.returns
returns c =
    let short : Short (lines_of (drop c.line_after-from.result c.args.text.now)) =
    let text = c.args.text.now in
    let l = length-drop c.line_after-from.result text in
    text_short (drop c.line_after-from.result text) (omega arith) in
    let header : let text = c.args.text.now in
    same_list (take (0 + line_length (drop 0 text) - 0) (drop 0 text)) headerLine ≡ true = rw (← c.line_end-end.ensures) (sym c.same.ensures ∙ c.if-not-same.false) in
    let read_is : let text = c.args.text.now in
    read_text text ≡ read_lines 2 [] (lines_of (drop c.line_after-from.result text)) =
    let text = c.args.text.now in
    rw (c.line_after-from.ensures, c.line_end-end.ensures) (header_yes text (header)) in
    let t = lines_table _ (short) _ (sym c.survey_from.ensures ∙ c.in_ok-totals.was) in
    reads_accepted c.args.text.now c.args.words.now t.0 _ _ _ _ c.if-words-lt16384.false (read_is ∙ t.1) t.2 t.3 c.write.ensures
