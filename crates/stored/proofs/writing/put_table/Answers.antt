-- `stored::writing::put_table` meets its contract: its parts are laid one after the other. Assumes nothing.
use Rattle.stored.proofs.Going.{second, table_bytes}
use Rattle.bytes_out.proofs.Laws.{put_then}
use Rattle.bytes_out.specs.Putting.{Put}
use Prim.Native.Nat.{ℕ}
use mathlib.Core.List.{List}
use mathlib.Core.Path.{◌∙◌, subst}
use Rattle.stored.proofs.writing.put_table.Goals as goal

pub atom-top-requires : goal.atom-top-requires
atom-top-requires c = (second c.args.t.now c.requires.0 c.requires.1).1

pub put_sections-requires : goal.put_sections-requires
put_sections-requires c = (c.requires.0, c.requires.1, c.atom-top.ensures ∙ (second c.args.t.now c.requires.0 c.requires.1).3)

pub returns : goal.returns
returns c =
    let x = c.put_two-names.ensures in
    let y = c.put_names-first.ensures in
    let z = c.put_sections in
    λ d e.
    subst (λ (bs : List ℕ). Put c.args.out.now 0 bs z.result z.new.out) (table_bytes c.args.t.now d e c.atom-top.result c.atom-top.ensures)
    (put_then x (put_then y z.ensures))
