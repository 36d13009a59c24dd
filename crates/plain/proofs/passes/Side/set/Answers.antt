-- `plain::passes::Side::set` meets its contract. Assumes nothing.
use borrow.Author.Rules.{rules}
use mathlib.Core.Path.{◌≡◌, refl, ap}
use Prim.Native.Nat.{ℕ}
use lib.ListN.{length}
use Rattle.interpretation.specs.State.{Cell}
use Rattle.interpretation.specs.View.{cell_value}
use Rattle.plain.proofs.Stepping.{values_set}
use Rattle.plain.proofs.passes.Side.set.Goals as goal

pub returns : goal.returns
returns c =
    let s = c.args.self in
    let n : length s.values ≡ 256 = search rules in
    let e = values_set s.values n c.args.p c.requires.0 c.requires.1 c.args.v c.byte.result c.byte.ensures in
    record { like = record { cells = λ q. ap (λ (a : ℕ → Cell). cell_value (a q)) e; same = refl; moved = refl }; kept = refl }
