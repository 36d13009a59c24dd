-- `aspif_scan::scan::scan` meets its contract. Assumes nothing.
use Rattle.std.specs.Prelude.{Option}
use Rattle.aspif_scan.specs.declared.number.Number.{Number}
use Rattle.aspif_scan.proofs.Laws.{read_none, marks_none, numbers_are}
use Rattle.aspif_scan.specs.Scan.{number_of, numbers_in}
use Rattle.aspif_scan.specs.Marks.{marks_by}
use Rattle.aspif_scan.specs.Machine.{read_by}
use Rattle.text.proofs.Runs.{starts, start_runs, end_after, end_inside, run_first, runs_end}
use Rattle.text.specs.Text.{runs}
use lib.ListN.{length, drop, take}
use mathlib.Core.Path.{◌≡◌, sym, ap, ◌∙◌}
use mathlib.Core.List.{◌∷◌, map, [], List}
use Prim.Native.Nat.{◌-◌, ◌≤◌, ◌<◌}
use native.Mathlib.Omega.{arith}
use Rattle.aspif_scan.proofs.scan.scan.Goals as goal

pub loop-at-init : goal.loop-at-init
loop-at-init c =
    let line = c.args.line.now in
    let e : numbers_in (drop c.run_start-at.result line) ≡ numbers_in line = rw c.run_start-at.ensures (sym (numbers_are _) ∙ ap (map number_of) (start_runs line 0) ∙ numbers_are line) in
    (rw c.run_start-at.ensures (starts line 0 (omega arith)), rw (c.start-s.ensures, e), rw (c.start-s.ensures, e))

pub slice_bounds-number_of-end : goal.slice_bounds-number_of-end
slice_bounds-number_of-end c =
    let inside : c.run_end-end.result ≤ length c.args.line.now =
    rw c.run_end-end.ensures (end_inside _ c.loop-at.at c.loop-at.invariant.0 c.loop-at-test.true) in
    inside

pub loop-at-smaller : goal.loop-at-smaller
loop-at-smaller c =
    let after : c.loop-at.at < c.run_end-end.result =
    rw c.run_end-end.ensures (end_after _ c.loop-at.at c.loop-at.invariant.0 c.loop-at-test.true) in
    let k = after in let s = c.run_start-at-in-loop-at.ensures in omega arith

pub loop-at-preserved : goal.loop-at-preserved
unfolding read_by marks_by
loop-at-preserved c =
    let inside : c.run_end-end.result ≤ length c.args.line.now =
    rw c.run_end-end.ensures (end_inside _ c.loop-at.at c.loop-at.invariant.0 c.loop-at-test.true) in
    let first : let line = c.args.line.now in
    let at = c.loop-at.at in
    numbers_in (drop at line) ≡ number_of (take (c.run_end-end.result - at) (drop at line)) ∷ numbers_in (drop c.run_end-end.result line) =
    let line = c.args.line.now in
    let f : runs (drop c.loop-at.at line) ≡ take (c.run_end-end.result - c.loop-at.at) (drop c.loop-at.at line) ∷ runs (drop c.run_end-end.result line) = rw c.run_end-end.ensures (run_first line c.loop-at.at c.loop-at.invariant.0 c.loop-at-test.true) in
    sym (numbers_are (drop c.loop-at.at line)) ∙ ap (map number_of) f ∙ ap (λ (t : List (Option Number)). number_of (take (c.run_end-end.result - c.loop-at.at) (drop c.loop-at.at line)) ∷ t) (numbers_are (drop c.run_end-end.result line)) in
    let line = c.args.line.now in
    let q : numbers_in (drop c.run_start-at-in-loop-at.result line) ≡ numbers_in (drop c.run_end-end.result line) = rw c.run_start-at-in-loop-at.ensures (sym (numbers_are _) ∙ ap (map number_of) (start_runs line c.run_end-end.result) ∙ numbers_are _) in (
      rw c.run_start-at-in-loop-at.ensures (starts line c.run_end-end.result (inside)),
      rw (q, c.step-s.ensures, c.number_of-n.ensures) (sym (ap (read_by c.loop-at.s) (first)) ∙ c.loop-at.invariant.1),
      rw (q, c.step-s.ensures, c.mark.ensures, c.number_of-n.ensures) (sym (ap (λ ns. marks_by c.loop-at.s ns c.loop-at.marks) (first)) ∙ c.loop-at.invariant.2),
    )

pub returns : goal.returns
returns c =
    let line = c.args.line.now in
    let e : numbers_in (drop c.loop-at.at line) ≡ [] = sym (numbers_are _) ∙ ap (map number_of) (runs_end line c.loop-at.at c.loop-at-test.false) in
    record { value = sym (ap (read_by c.loop-at.s) e ∙ read_none c.loop-at.s) ∙ c.loop-at.invariant.1; marks_after = sym (ap (λ ns. marks_by c.loop-at.s ns c.loop-at.marks) e ∙ marks_none c.loop-at.s c.loop-at.marks) ∙ c.loop-at.invariant.2 }
