-- `stored::store_held` meets its contract: the first bytes found the length, the second are laid only where they have room. Assumes nothing.
use Rattle.bytes_out.proofs.Laws.{put_length, put_whole}
use native.Mathlib.Omega.{arith}
use mathlib.Core.Path.{ap}
use Rattle.std.specs.Prelude.{Ok}
use Rattle.stored.proofs.store_held.Goals as goal

pub returns : goal.returns
returns c =
    λ d e.
    let m = (c.put_table-length.ensures d e).ends in
    let q = c.put_table.ensures d e in
    let k = c.if-bytes-length.false in
    record { fits = λ h. (ap Ok (put_length q h), put_whole q h); short = λ h. absurd (omega arith) }
