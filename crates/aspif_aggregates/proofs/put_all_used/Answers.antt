-- `aspif_aggregates::put_all_used` meets its contract. The invariant of its loop: to lay the lines of the aggregates left from here is to lay all from the start. Assumes nothing.
use mathlib.Core.Path.{◌≡◌, refl, ◌∙◌}
use Prim.Native.Nat.{◌<◌}
use native.Mathlib.Omega.{arith}
use Rattle.layout.specs.Layout.{start_from}
use Rattle.bytes_out.proofs.Laws.{left_start, left_step, left_done}
use Rattle.aspif_aggregates.proofs.Used.{used_on, used_all, used_none}
use Rattle.aspif_aggregates.proofs.put_all_used.Goals as goal

pub loop-j-init : goal.loop-j-init
loop-j-init c = (omega arith, refl, rw (← used_all c.args.t.now.words.now c.args.t.now.places) (left_start (omega arith) (omega arith)))

pub loop-j-preserved : goal.loop-j-preserved
loop-j-preserved c =
    let low : c.loop-j.j < c.args.t.now.places.aggregates = let e = c.loop-j.invariant.1 in omega arith in
    let begins : c.start-begin.result ≡ start_from c.args.t.now.words.now 2 c.loop-j.j = c.start-begin.ensures ∙ c.args.t.now.laid.starts c.loop-j.j (low) in
    let step = used_on c.args.t.now.words.now c.args.t.now.places c.args.news.now c.requires c.loop-j.j c.args.t.now.places.aggregates (low) refl in (
      omega arith,
      c.loop-j.invariant.1,
      left_step refl (left_step step c.loop-j.invariant.2 (rw (begins) at c.put_used-between.ensures)) (rw (begins) at c.put_used-to.ensures),
    )

pub returns : goal.returns
returns c =
    left_done (used_none c.args.t.now.words.now c.args.t.now.places c.loop-j.j c.args.t.now.places.aggregates c.loop-j-test.false) c.loop-j.invariant.2
