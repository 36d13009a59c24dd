-- `aspif_scan::kind::kind_of` meets its contract. Assumes nothing.
use Rattle.aspif_scan.proofs.Laws.{first_field, field_more, field_none, kind_comment, kind_other, kind_more, kind_closing}
use Rattle.aspif_scan.specs.Scan.{kind_of}
use Rattle.text.proofs.Runs.{starts, span_inside}
use Rattle.text.specs.Text.{runs}
use lib.ListN.{length, take, drop}
use native.Mathlib.Omega.{arith}
use Prim.Native.Nat.{ℕ, ◌-◌, ◌≤◌}
use mathlib.Core.List.{List, ◌∷◌}
use mathlib.Core.Path.{◌≡◌, sym, ◌∙◌}
use Rattle.aspif_scan.proofs.kind.kind_of.Goals as goal

abbrev field : List ℕ → ℕ → ℕ → List ℕ
field line at end = take (end - at) (drop at line)

abbrev others : List ℕ → ℕ → List (List ℕ)
others line end = runs (drop end line)

pub slice_bounds-same-end : goal.slice_bounds-same-end
slice_bounds-same-end c =
    let inside : c.run_end-end.result ≤ length c.args.line.now =
    let line = c.args.line.now in
    rw c.run_end-end.ensures (span_inside line c.run_start-at.result (rw c.run_start-at.ensures (starts line 0 (omega arith)).inside)) in
    inside

pub returns-then-same : goal.returns-then-same
returns-then-same c =
    let kind-is : kind_of (runs c.args.line.now) ≡ kind_of (field c.args.line.now c.run_start-at.result c.run_end-end.result ∷ others c.args.line.now c.run_end-end.result) = rw c.run_end-end.ensures (first_field _ c.run_start-at.result c.run_start-at.ensures) in
    sym (kind-is ∙ kind_comment (field c.args.line.now c.run_start-at.result c.run_end-end.result) (others c.args.line.now c.run_end-end.result) (sym c.same.ensures ∙ c.if-same.true))

pub slice_bounds-same-end-3 : goal.slice_bounds-same-end-3
slice_bounds-same-end-3 c =
    let inside : c.run_end-end.result ≤ length c.args.line.now =
    let line = c.args.line.now in
    rw c.run_end-end.ensures (span_inside line c.run_start-at.result (rw c.run_start-at.ensures (starts line 0 (omega arith)).inside)) in
    inside

pub returns-then-not-same : goal.returns-then-not-same
returns-then-not-same c =
    let kind-is : kind_of (runs c.args.line.now) ≡ kind_of (field c.args.line.now c.run_start-at.result c.run_end-end.result ∷ others c.args.line.now c.run_end-end.result) = rw c.run_end-end.ensures (first_field _ c.run_start-at.result c.run_start-at.ensures) in
    sym (kind-is ∙ kind_other (field c.args.line.now c.run_start-at.result c.run_end-end.result) (others c.args.line.now c.run_end-end.result) (sym c.same.ensures ∙ c.if-same.false) (sym c.same-2.ensures ∙ c.if-not-same.true))

pub returns-then-next-line : goal.returns-then-next-line
returns-then-next-line c =
    let kind-is : kind_of (runs c.args.line.now) ≡ kind_of (field c.args.line.now c.run_start-at.result c.run_end-end.result ∷ others c.args.line.now c.run_end-end.result) = rw c.run_end-end.ensures (first_field _ c.run_start-at.result c.run_start-at.ensures) in
    let inside : c.run_end-end.result ≤ length c.args.line.now =
    let line = c.args.line.now in
    rw c.run_end-end.ensures (span_inside line c.run_start-at.result (rw c.run_start-at.ensures (starts line 0 (omega arith)).inside)) in
    sym (kind-is ∙ kind_more (field c.args.line.now c.run_start-at.result c.run_end-end.result) (others c.args.line.now c.run_end-end.result) (sym c.same.ensures ∙ c.if-same.false) (sym c.same-2.ensures ∙ c.if-not-same.false) (field_more c.args.line.now _ _ (inside) c.run_start-next.ensures c.if-next-line.true))

pub returns : goal.returns
returns c =
    let kind-is : kind_of (runs c.args.line.now) ≡ kind_of (field c.args.line.now c.run_start-at.result c.run_end-end.result ∷ others c.args.line.now c.run_end-end.result) = rw c.run_end-end.ensures (first_field _ c.run_start-at.result c.run_start-at.ensures) in
    sym (kind-is ∙ kind_closing (field c.args.line.now c.run_start-at.result c.run_end-end.result) (others c.args.line.now c.run_end-end.result) (sym c.same-2.ensures ∙ c.if-not-same.false) (field_none c.args.line.now _ _ c.run_start-next.ensures c.if-next-line.false))
