-- `text::reader::count_words` meets its contract. The invariant of its loop: `at` is where a run starts, and the words counted with those from
-- `at` on are all. Assumes nothing.
use mathlib.Core.Path.{◌≡◌, sym, ap, ◌∙◌}
use mathlib.Core.List.{◌∷◌}
use Prim.Native.Nat.{◌+◌, ◌-◌, ◌≤◌, ◌<◌}
use native.Mathlib.Omega.{arith}
use Rattle.std.specs.Prelude.{is_some}
use lib.ListN.{length, drop, take}
use Rattle.text.specs.Text.{runs, word, words_from}
use Rattle.text.specs.Scan.{count_of}
use Rattle.text.proofs.Runs.{starts, start_runs, end_after, end_inside, run_first, runs_end}
use Rattle.text.proofs.Reading.{word_read, word_unread, count_good, count_bad, count_none}
use Rattle.text.proofs.reader.count_words.Goals as goal

pub loop-at-init : goal.loop-at-init
loop-at-init c =
    let a = c.args in
    rw c.run_start-at.ensures
    (omega arith, starts _ a.from c.requires, ap (λ rs. count_of 0 (words_from 1 rs)) (start_runs a.bytes.now a.from))

pub slice_bounds-word_of-end : goal.slice_bounds-word_of-end
slice_bounds-word_of-end c =
    let inside : c.run_end-end.result ≤ length c.args.bytes.now =
    rw c.run_end-end.ensures (end_inside _ c.loop-at.at c.loop-at.invariant.1 c.loop-at-test.true) in
    inside

pub returns-then-is_none : goal.returns-then-is_none
returns-then-is_none c =
    let first : let bytes = c.args.bytes.now in
    runs (drop c.loop-at.at bytes) ≡ take (c.run_end-end.result - c.loop-at.at) (drop c.loop-at.at bytes) ∷ runs (drop c.run_end-end.result bytes) =
    rw c.run_end-end.ensures (run_first _ c.loop-at.at c.loop-at.invariant.1 c.loop-at-test.true) in
    let bytes = c.args.bytes.now in
    let run = take (c.run_end-end.result - c.loop-at.at) (drop c.loop-at.at bytes) in
    count_bad c.loop-at.n (c.loop-at.n + 1) run (runs (drop c.run_end-end.result bytes)) (word_unread (word run) (ap is_some (sym c.word_of.ensures) ∙ c.if-is_none.ensures))
    ∙ ap (λ rs. count_of c.loop-at.n (words_from (c.loop-at.n + 1) rs)) (sym (first)) ∙ c.loop-at.invariant.2

pub loop-at-smaller : goal.loop-at-smaller
loop-at-smaller c =
    let after : c.loop-at.at < c.run_end-end.result =
    rw c.run_end-end.ensures (end_after _ c.loop-at.at c.loop-at.invariant.1 c.loop-at-test.true) in
    let k = after in
    let s = c.run_start-at-in-loop-at.ensures in
    omega arith

pub loop-at-preserved : goal.loop-at-preserved
loop-at-preserved c =
    let after : c.loop-at.at < c.run_end-end.result =
    rw c.run_end-end.ensures (end_after _ c.loop-at.at c.loop-at.invariant.1 c.loop-at-test.true) in
    let inside : c.run_end-end.result ≤ length c.args.bytes.now =
    rw c.run_end-end.ensures (end_inside _ c.loop-at.at c.loop-at.invariant.1 c.loop-at-test.true) in
    let first : let bytes = c.args.bytes.now in
    runs (drop c.loop-at.at bytes) ≡ take (c.run_end-end.result - c.loop-at.at) (drop c.loop-at.at bytes) ∷ runs (drop c.run_end-end.result bytes) =
    rw c.run_end-end.ensures (run_first _ c.loop-at.at c.loop-at.invariant.1 c.loop-at-test.true) in
    let bytes = c.args.bytes.now in
    let run = take (c.run_end-end.result - c.loop-at.at) (drop c.loop-at.at bytes) in
    let k = after in
    let g = word_read (word run) (ap is_some (sym c.word_of.ensures) ∙ c.if-is_none.ensures) in
    rw c.run_start-at-in-loop-at.ensures (
      omega arith,
      starts bytes c.run_end-end.result (inside),
      ap (λ rs. count_of (c.loop-at.n + 1) (words_from (c.loop-at.n + 1 + 1) rs)) (start_runs bytes c.run_end-end.result)
          ∙ sym (count_good c.loop-at.n run (runs (drop c.run_end-end.result bytes)) g.0 g.1)
          ∙ ap (λ rs. count_of c.loop-at.n (words_from (c.loop-at.n + 1) rs)) (sym (first)) ∙ c.loop-at.invariant.2,
    )

pub returns : goal.returns
returns c =
    count_none c.loop-at.n (c.loop-at.n + 1)
    ∙ ap (λ rs. count_of c.loop-at.n (words_from (c.loop-at.n + 1) rs)) (sym (runs_end _ c.loop-at.at c.loop-at-test.false)) ∙ c.loop-at.invariant.2
