-- `aspif_read::putting::put_section` meets its contract. Assumes nothing.
use Rattle.aspif_read.proofs.LineLaws.{line_first, line_inside, lines_none}
use Rattle.aspif_read.proofs.Puts.{put_none, put_inside, put_long, section_step}
use Rattle.aspif.specs.Lines.{lines_of}
use lib.ListN.{length, take, drop}
use mathlib.Core.List.{◌∷◌}
use Prim.Native.Nat.{◌-◌, ◌≤◌}
use mathlib.Core.Path.{◌≡◌, ◌∙◌}
use native.Mathlib.Omega.{arith}
use Rattle.aspif_read.proofs.putting.put_section.Goals as goal

pub slice_bounds-put_line-end : goal.slice_bounds-put_line-end
slice_bounds-put_line-end c =
    let inside : c.line_end-end.result ≤ length c.args.text.now = rw c.line_end-end.ensures (line_inside _ c.loop-start.start c.loop-start-test.true) in
    inside

pub loop-start-preserved : goal.loop-start-preserved
loop-start-preserved c =
    let text = c.args.text.now in
    let v = c.loop-start.invariant in
    let w = c.put_line-to.ensures in
    let f : lines_of (drop c.loop-start.start text) ≡ take (c.line_end-end.result - c.loop-start.start) (drop c.loop-start.start text) ∷ lines_of (drop c.line_after-start.result text) =
    rw (c.line_after-start.ensures, c.line_end-end.ensures) (line_first text c.loop-start.start c.loop-start-test.true) in
    let n = w.next in
    let s = rw f at v.3 in
    let i = c.line_after-start.ensures in (
      omega arith,
      put_inside _ _ _ _ _ w.put,
      put_long _ _ _ _ _ w.put ∙ v.2,
      omega arith,
      λ r new q. v.4 r new (rw f (section_step _ _ _ _ _ _ _ _ _ (lines_of (drop c.line_after-start.result text)) v.1 w q)),
    )

pub returns : goal.returns
returns c = c.loop-start.invariant.4 _ _ (rw (lines_none _ _ c.loop-start-test.false) (put_none _ _ c.loop-start.invariant.1))
