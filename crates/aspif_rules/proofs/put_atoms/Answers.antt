-- `aspif_rules::put_atoms` meets its contract. The invariant of its loop: to lay the atoms left from here is to lay all from the start. Assumes nothing.
use mathlib.Core.Path.{◌≡◌, ap, ◌∙◌}
use mathlib.Core.List.{◌∷◌}
use native.Mathlib.Omega.{arith}
use lib.IntN.{pos, nat_abs}
use lib.ListN.{get_or}
use Rattle.aspif.specs.Writing.{with}
use Rattle.aspif.specs.Lines.{number_text, literal_number}
use Rattle.bytes_out.specs.Putting.{signed_text}
use Rattle.bytes_out.proofs.Laws.{left_step, left_done}
use Rattle.aspif_parts.proofs.Texts.{signed_field, mapped_on, mapped_none}
use Rattle.aspif_rules.proofs.put_atoms.Goals as goal

pub loop-i-preserved : goal.loop-i-preserved
loop-i-preserved c =
    let m = c.args.l.now in
    let w = get_or m c.loop-i.i (pos 0) in
    let e : signed_text c.args.plain c.atom.result ≡ 32 ∷ number_text (literal_number (with c.args.plain (nat_abs (get_or m c.loop-i.i (pos 0))))) =
    ap (signed_text c.args.plain) c.atom.ensures ∙ signed_field c.args.plain (nat_abs w) (c.requires c.loop-i.i c.loop-i-test.true).0 in
    (omega arith, left_step (mapped_on c.args.plain nat_abs m c.loop-i.i c.loop-i-test.true) c.loop-i.invariant.1 (rw e at c.put_signed-to.ensures))

pub returns : goal.returns
returns c =
    left_done (mapped_none c.args.plain nat_abs c.args.l.now c.loop-i.i c.loop-i-test.false) c.loop-i.invariant.1
