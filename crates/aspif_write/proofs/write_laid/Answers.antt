-- `aspif_write::write_laid` meets its contract: the first text found the length, the second is laid only where it has room. Assumes nothing.
use mathlib.Core.Path.{ap}
use native.Mathlib.Omega.{arith}
use Rattle.std.specs.Prelude.{Ok}
use Rattle.bytes_out.proofs.Laws.{put_length, put_whole}
use Rattle.aspif_write.proofs.write_laid.Goals as goal

pub returns : goal.returns
returns c =
    let m = c.put_text-length.ensures.ends in
    let q = c.put_text.ensures in
    let k = c.if-text-length.false in
    record { fits = λ h. (ap Ok (put_length q h), put_whole q h); short = λ h. absurd (omega arith) }
