-- `text::reader::read` meets its contract: its first run is the limit, and the words are counted before they are written. Assumes nothing.
use mathlib.Core.Path.{◌≡◌, sym, ap, ◌∙◌}
use Prim.Native.Nat.{◌-◌}
use native.Mathlib.Omega.{arith}
use lib.ListN.{take, drop}
use lib.Seq.{sets}
use Rattle.std.specs.Prelude.{ok_or}
use Rattle.results.specs.declared.Refusal.TheVariants.{BadNumber}
use Rattle.text.specs.Text.{runs, limit, words_from, with_limit, with_words, text_of}
use Rattle.text.proofs.Runs.{Starts, starts, start_runs, span_inside}
use Rattle.text.proofs.Reading.{limit_good, limit_bad, counted_all, counted_bad, listed_all, text_long, text_short, limit_first, refused_as, refused_on, read_as}
use Rattle.text.proofs.Callers.{read_front}
use Rattle.text.proofs.reader.read.Goals as goal

pub returns-then-bytes-gt65536-clause-reading : goal.returns-then-bytes-gt65536-clause-reading
returns-then-bytes-gt65536-clause-reading c = refused_as _ _ _ (text_long _ c.if-bytes-gt65536.true)

pub slice_bounds-limit_of-end : goal.slice_bounds-limit_of-end
slice_bounds-limit_of-end c =
    let start : Starts c.args.bytes.now c.run_start-at.result = rw c.run_start-at.ensures (starts _ 0 (omega arith)) in
    rw c.run_end-end.ensures (span_inside _ c.run_start-at.result start.inside)

pub returns-in_err-limit-clause-reading : goal.returns-in_err-limit-clause-reading
returns-in_err-limit-clause-reading c =
    let start : Starts c.args.bytes.now c.run_start-at.result = rw c.run_start-at.ensures (starts _ 0 (omega arith)) in
    let text-is : let bytes = c.args.bytes.now in
    let at = c.run_start-at.result in
    text_of bytes ≡ with_limit (limit (take (c.run_end-end.result - at) (drop at bytes))) (runs (drop c.run_end-end.result bytes)) =
    let bytes = c.args.bytes.now in
    let f : runs (drop c.run_start-at.result bytes) ≡ runs bytes = rw c.run_start-at.ensures (start_runs bytes 0) in
    text_short bytes c.if-bytes-gt65536.false ∙ (rw c.run_end-end.ensures (limit_first bytes c.run_start-at.result start f)) in
    let bytes = c.args.bytes.now in
    let run = take (c.run_end-end.result - c.run_start-at.result) (drop c.run_start-at.result bytes) in
    let rs = runs (drop c.run_end-end.result bytes) in
    let o = limit_bad (limit run) (BadNumber 0) _ (ap (λ m. ok_or m (BadNumber 0)) (sym c.limit_of.ensures) ∙ sym c.ok_or.ensures.value ∙ c.in_err-limit.was) in
    refused_on _ _ _ _ _ c.from_residual.ensures.1 o.1 (text-is ∙ ap (λ m. with_limit m rs) o.0)

pub count_words-requires : goal.count_words-requires
count_words-requires c =
    let start : Starts c.args.bytes.now c.run_start-at.result = rw c.run_start-at.ensures (starts _ 0 (omega arith)) in
    rw c.run_end-end.ensures (span_inside _ c.run_start-at.result start.inside)

pub write_words-requires : goal.write_words-requires
write_words-requires c =
    let start : Starts c.args.bytes.now c.run_start-at.result = rw c.run_start-at.ensures (starts _ 0 (omega arith)) in
    (rw c.run_end-end.ensures (span_inside _ c.run_start-at.result start.inside), c.if-bytes-gt65536.false)

pub returns-in_err-count-clause-reading : goal.returns-in_err-count-clause-reading
returns-in_err-count-clause-reading c =
    let start : Starts c.args.bytes.now c.run_start-at.result = rw c.run_start-at.ensures (starts _ 0 (omega arith)) in
    let text-is : let bytes = c.args.bytes.now in
    let at = c.run_start-at.result in
    text_of bytes ≡ with_limit (limit (take (c.run_end-end.result - at) (drop at bytes))) (runs (drop c.run_end-end.result bytes)) =
    let bytes = c.args.bytes.now in
    let f : runs (drop c.run_start-at.result bytes) ≡ runs bytes = rw c.run_start-at.ensures (start_runs bytes 0) in
    text_short bytes c.if-bytes-gt65536.false ∙ (rw c.run_end-end.ensures (limit_first bytes c.run_start-at.result start f)) in
    let bytes = c.args.bytes.now in
    let run = take (c.run_end-end.result - c.run_start-at.result) (drop c.run_start-at.result bytes) in
    let rs = runs (drop c.run_end-end.result bytes) in
    let l = limit_good (limit run) _ c.in_ok-limit.limit (ap (λ o. ok_or o (BadNumber 0)) (sym c.limit_of.ensures) ∙ sym c.ok_or.ensures.value ∙ c.in_ok-limit.was) in
    let good-limit : text_of bytes ≡ with_words c.in_ok-limit.limit (words_from 1 rs) = text-is ∙ ap (λ m. with_limit m rs) l in
    let b = counted_bad (words_from 1 rs) _ _ c.count_words.ensures c.map_err.ensures.cases _ c.in_err-count.was in
    refused_on _ _ _ _ _ c.from_residual-in_err-count.ensures.1 b.2 (good-limit ∙ ap (with_words _) b.1)

pub returns-clause-reading : goal.returns-clause-reading
returns-clause-reading c =
    let start : Starts c.args.bytes.now c.run_start-at.result = rw c.run_start-at.ensures (starts _ 0 (omega arith)) in
    let text-is : let bytes = c.args.bytes.now in
    let at = c.run_start-at.result in
    text_of bytes ≡ with_limit (limit (take (c.run_end-end.result - at) (drop at bytes))) (runs (drop c.run_end-end.result bytes)) =
    let bytes = c.args.bytes.now in
    let f : runs (drop c.run_start-at.result bytes) ≡ runs bytes = rw c.run_start-at.ensures (start_runs bytes 0) in
    text_short bytes c.if-bytes-gt65536.false ∙ (rw c.run_end-end.ensures (limit_first bytes c.run_start-at.result start f)) in
    let bytes = c.args.bytes.now in
    let run = take (c.run_end-end.result - c.run_start-at.result) (drop c.run_start-at.result bytes) in
    let rs = runs (drop c.run_end-end.result bytes) in
    let l = limit_good (limit run) _ c.in_ok-limit.limit (ap (λ o. ok_or o (BadNumber 0)) (sym c.limit_of.ensures) ∙ sym c.ok_or.ensures.value ∙ c.in_ok-limit.was) in
    let good-limit : text_of bytes ≡ with_words c.in_ok-limit.limit (words_from 1 rs) = text-is ∙ ap (λ m. with_limit m rs) l in
    let b = counted_all (words_from 1 rs) _ _ c.count_words.ensures c.map_err.ensures.cases c.in_ok-count.count c.in_ok-count.was in
    read_as _ _ _ _ _ b.0 (good-limit ∙ ap (with_words _) b.1) b.2 (c.write_words.ensures ∙ ap (λ zs. sets c.args.words.now 0 zs) (listed_all 1 rs b.0 b.1))

pub returns-clause-room : goal.returns-clause-room
returns-clause-room c =
    (read_front c.args.bytes.now c.args.words.now c.write_words.new.words c.in_ok-limit.limit c.in_ok-count.count c.told-words (returns-clause-reading c)).room
