-- `aspif_read::putting::put_atoms` meets its contract. Assumes nothing.
use Rattle.aspif_scan.specs.Marks.{row_from}
use Prim.Native.Nat.{◌*◌}
use Rattle.aspif_read.proofs.Puts.{put_then}
use lib.ListN.{length, length-map}
use lib.IntN.{pos}
use mathlib.Core.List.{map}
use mathlib.Core.Path.{◌≡◌, sym, ◌∙◌}
use Rattle.aspif_read.proofs.putting.put_atoms.Goals as goal

pub returns : goal.returns
returns c =
    let e : length (map pos (row_from c.args.marks.now (c.args.row * 256) 1 256)) ≡ c.count.result = length-map (row_from c.args.marks.now (c.args.row * 256) 1 256) pos ∙ sym c.count.ensures.value in
    rw e (put_then _ _ _ _ _ _ _ _ c.requires.0 c.put-after.ensures c.put_members.ensures)
