-- `aspif_aggregates::put_good` meets its contract: its parts are laid one after the other. Assumes nothing.
use mathlib.Core.Path.{ap}
use Prim.Native.Nat.{ℕ, ◌+◌}
use Rattle.layout.specs.Layout.{pairs}
use Rattle.bytes_out.proofs.Laws.{put_then}
use Rattle.aspif_aggregates.proofs.Parts.{good_line}
use Rattle.aspif_aggregates.proofs.put_good.Goals as goal

pub returns : goal.returns
returns c =
    rw (← good_line c.args.p c.args.atom c.args.bad (pairs c.args.l.now) (c.passing-number.result + 1) 0 (ap (λ (i : ℕ). i + 1) c.passing-number.ensures.0))
    (put_then c.put_new-after_head.ensures (put_then c.put-begun.ensures (put_then c.put_field-counted.ensures (put_then c.put_field-after_good.ensures (put_then c.put_all_barred-after_bad.ensures c.put_byte.ensures)))))
