-- `aspif_rules::put_body` meets its contract: its parts are laid one after the other. Assumes nothing.
use mathlib.Core.Path.{◌≡◌, ap, ◌∙◌}
use Prim.Native.Nat.{◌+◌}
use native.Mathlib.Omega.{arith}
use lib.IntN.{nat_abs}
use lib.ListN.{length-map}
use Rattle.layout.specs.Layout.{nat_at, atoms, part_at, past_at}
use Rattle.aspif.specs.Writing.{stated_literal}
use Rattle.bytes_out.proofs.Laws.{put_then}
use Rattle.aspif_parts.specs.Held.{held_by}
use Rattle.aspif_rules.proofs.Bodies.{part_long, body_parts_lem}
use Rattle.aspif_rules.proofs.put_body.Goals as goal

pub returns : goal.returns
returns c =
    let third_at : c.past-literals.result ≡ past_at c.args.t.now.words.now (past_at c.args.t.now.words.now c.args.positive) = c.past-literals.ensures ∙ ap (past_at c.args.t.now.words.now) c.past-barred.ensures in
    let t = c.args.t.now.words.now in
    let i = c.args.positive in
    let h = c.past-barred.ensures in
    let e1 = c.part.ensures in
    let e2 = c.part-2.ensures ∙ ap (part_at t) h in
    let e3 = c.part-3.ensures ∙ ap (part_at t) (third_at) in
    let a1 = c.atom.ensures in
    let a2 = c.atom-2.ensures ∙ ap (nat_at t) h in
    let a3 = c.atom-3.ensures ∙ ap (nat_at t) (third_at) in
    let l1 = part_long t i c.requires.1.poss.fits in
    let l2 = part_long t (past_at t i) c.requires.1.negs.fits in
    let l3 = part_long t (past_at t (past_at t i)) c.requires.1.aggs.fits in
    let m1 = length-map (part_at t i) nat_abs in
    let m2 = length-map (part_at t (past_at t i)) nat_abs in
    let q = put_then c.put-begun.ensures (put_then c.put_field-counted.ensures (put_then c.put_atoms-after_positive.ensures (put_then c.put_atoms-after_barred.ensures c.put_literals.ensures))) in
    rw (← body_parts_lem (atoms (part_at t i)) (atoms (part_at t (past_at t i))) (part_at t (past_at t (past_at t i))) (stated_literal (held_by t c.args.t.now.places)) (c.atom.result + c.atom-2.result + c.atom-3.result) (omega arith))
    (rw (e1, e2, e3) at q)
