-- `text::reader::write_words` meets its contract. The invariant of its loop: `at` is where a run starts, each word has had two bytes, and the
-- words written, with those from `at` on after them, are all. Assumes nothing.
use mathlib.Core.Path.{◌≡◌, sym, ap, ◌∙◌}
use mathlib.Core.List.{◌∷◌}
use Prim.Native.Nat.{◌+◌, ◌-◌, ◌≤◌, ◌<◌}
use native.Mathlib.Numerals.{add-one}
use native.Mathlib.Omega.{arith}
use borrow.Author.Rules.{rules}
use lib.ListN.{length, drop, take}
use lib.Seq.{sets}
use mir.Syntax.{w32}
use mir.Val.{to_z, of_z}
use Rattle.text.specs.Text.{runs, word}
use Rattle.text.specs.Scan.{listed}
use Rattle.text.proofs.Runs.{starts, start_runs, end_after, end_inside, run_first, runs_end, next_far}
use Rattle.text.proofs.Reading.{word_good, word_bad, listed_good, listed_bad, listed_none}
use Rattle.text.proofs.reader.write_words.Goals as goal

pub loop-at-init : goal.loop-at-init
loop-at-init c =
    let a = c.args in
    rw c.run_start-at.ensures
    (starts _ a.from c.requires.0, λ h. omega arith, ap (λ rs. sets a.words.now 0 (listed rs)) (start_runs a.bytes.now a.from))

pub slice_bounds-word_of-end : goal.slice_bounds-word_of-end
slice_bounds-word_of-end c =
    let inside : c.run_end-end.result ≤ length c.args.bytes.now =
    rw c.run_end-end.ensures (end_inside _ c.loop-at.at c.loop-at.invariant.0 c.loop-at-test.true) in
    inside

pub returns-in_default : goal.returns-in_default
returns-in_default c =
    let first : let bytes = c.args.bytes.now in
    runs (drop c.loop-at.at bytes) ≡ take (c.run_end-end.result - c.loop-at.at) (drop c.loop-at.at bytes) ∷ runs (drop c.run_end-end.result bytes) =
    rw c.run_end-end.ensures (run_first _ c.loop-at.at c.loop-at.invariant.0 c.loop-at-test.true) in
    let bytes = c.args.bytes.now in
    let run = take (c.run_end-end.result - c.loop-at.at) (drop c.loop-at.at bytes) in
    let g = listed_bad run (runs (drop c.run_end-end.result bytes)) (word_bad (word run) (sym c.word_of.ensures ∙ c.in_default.is)) in
    sym (ap (λ zs. sets c.loop-at.words c.loop-at.n zs) (ap listed (first) ∙ g)) ∙ c.loop-at.invariant.2

pub loop-at-smaller : goal.loop-at-smaller
loop-at-smaller c =
    let after : c.loop-at.at < c.run_end-end.result =
    rw c.run_end-end.ensures (end_after _ c.loop-at.at c.loop-at.invariant.0 c.loop-at-test.true) in
    let k = after in
    let s = c.run_start-at-in-loop-at.ensures in
    omega arith

pub loop-at-preserved : goal.loop-at-preserved
loop-at-preserved c =
    let far : c.run_start-at-in-loop-at.result < length c.args.bytes.now → c.loop-at.at + 2 ≤ c.run_start-at-in-loop-at.result =
    rw (c.run_start-at-in-loop-at.ensures, c.run_end-end.ensures) (next_far _ c.loop-at.at c.loop-at.invariant.0 c.loop-at-test.true) in
    let inside : c.run_end-end.result ≤ length c.args.bytes.now =
    rw c.run_end-end.ensures (end_inside _ c.loop-at.at c.loop-at.invariant.0 c.loop-at-test.true) in
    let first : let bytes = c.args.bytes.now in
    runs (drop c.loop-at.at bytes) ≡ take (c.run_end-end.result - c.loop-at.at) (drop c.loop-at.at bytes) ∷ runs (drop c.run_end-end.result bytes) =
    rw c.run_end-end.ensures (run_first _ c.loop-at.at c.loop-at.invariant.0 c.loop-at-test.true) in
    let bytes = c.args.bytes.now in
    let run = take (c.run_end-end.result - c.loop-at.at) (drop c.loop-at.at bytes) in
    let z = c.in-Some.word in
    let k : to_z w32 (of_z w32 z) ≡ z = search rules in
    let f = far in
    let t = c.loop-at.invariant.1 c.loop-at-test.true in
    let g = listed_good run (runs (drop c.run_end-end.result bytes)) z (word_good (word run) z (sym c.word_of.ensures ∙ c.in-Some.is)) in (
      rw c.run_start-at-in-loop-at.ensures (starts bytes c.run_end-end.result (inside)),
      λ h. let m = f h in omega arith,
      rw (k, c.run_start-at-in-loop-at.ensures, start_runs bytes c.run_end-end.result, add-one)
          (sym (ap (λ zs. sets c.loop-at.words c.loop-at.n zs) (ap listed (first) ∙ g)) ∙ c.loop-at.invariant.2),
    )

pub returns : goal.returns
returns c =
    sym (ap (λ zs. sets c.loop-at.words c.loop-at.n zs) (ap listed (runs_end _ c.loop-at.at c.loop-at-test.false) ∙ listed_none)) ∙ c.loop-at.invariant.2
